use Rattle.fr_plan.proofs.Wholeness.Reaching.{plans_plannable}
use Rattle.fr_plan.proofs.Wholeness.Visits.{refuses_first}
use Rattle.fr_plan.proofs.laws.law_first_refusal.Goals as goal

pub returns : goal.returns
returns c = record { first = refuses_first; plannable = plans_plannable }
