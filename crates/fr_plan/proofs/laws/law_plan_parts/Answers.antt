use Rattle.fr_plan.proofs.Wholeness.Parts.{plans_have_their_parts, plans_have_own_nodes}
use Rattle.fr_plan.proofs.laws.law_plan_parts.Goals as goal

pub returns : goal.returns
returns c = record { parts = plans_have_their_parts; own = plans_have_own_nodes }
