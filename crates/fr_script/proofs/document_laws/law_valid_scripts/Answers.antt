use Rattle.fr_script.proofs.FirstInvalids.{is_first}
use Rattle.fr_script.proofs.ValidScripts.{valid_where_none_invalid}
use Rattle.fr_script.proofs.document_laws.law_valid_scripts.Goals as goal

pub returns : goal.returns
returns c = record {
  valid = λ table ledger script none. valid_where_none_invalid ledger table script none;
  invalid = λ table ledger script n tells. is_first ledger table script n tells;
}
