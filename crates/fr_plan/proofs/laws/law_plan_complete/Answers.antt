use Rattle.fr_plan.proofs.Wholeness.Whole.{plans_are_complete}
use Rattle.fr_plan.proofs.laws.law_plan_complete.Goals as goal

pub returns : goal.returns
returns c = record { complete = plans_are_complete }
