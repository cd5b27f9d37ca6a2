use Rattle.fr_plan.proofs.Wholeness.Reached.{nodes_are_reached, reached_have_nodes}
use Rattle.fr_plan.proofs.laws.law_plan_reach.Goals as goal

pub returns : goal.returns
returns c = record { reached = nodes_are_reached; nodes = reached_have_nodes }
