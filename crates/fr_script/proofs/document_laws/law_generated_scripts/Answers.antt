use Rattle.fr_script.proofs.GridRuns.{makes_grid}
use Rattle.fr_script.proofs.document_laws.law_generated_scripts.Goals as goal

pub returns : goal.returns
returns c = record { makes_a_value = λ count. (_, makes_grid count) }
