use Rattle.fr_plan.proofs.Wholeness.Small.{plans_are_small, plain_plans_are_small}
use Rattle.fr_plan.proofs.laws.law_plan_size.Goals as goal

pub returns : goal.returns
returns c = record { small = plans_are_small; plain = plain_plans_are_small }
