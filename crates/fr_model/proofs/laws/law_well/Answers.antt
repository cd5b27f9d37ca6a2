use Rattle.fr_model.proofs.Moves.{step_keeps_order}
use Rattle.fr_model.proofs.laws.law_well.Goals as goal

pub returns-clause-in_order : goal.returns-clause-in_order
returns-clause-in_order c = step_keeps_order
