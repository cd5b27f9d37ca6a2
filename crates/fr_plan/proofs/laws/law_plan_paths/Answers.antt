use Rattle.fr_plan.proofs.Wholeness.Paths.{paths_agree}
use Rattle.fr_plan.proofs.laws.law_plan_paths.Goals as goal

pub returns : goal.returns
returns c = record { agree = paths_agree }
