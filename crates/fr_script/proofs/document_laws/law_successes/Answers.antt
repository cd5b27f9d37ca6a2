use Rattle.fr_script.proofs.PlanLaws.{succeeds as document_succeeds}
use Rattle.fr_script.proofs.document_laws.law_successes.Goals as goal

pub returns : goal.returns
returns c = record {
  succeeds = document_succeeds c.law_first_refusal.ensures.first c.law_first_refusal.ensures.plannable;
}
