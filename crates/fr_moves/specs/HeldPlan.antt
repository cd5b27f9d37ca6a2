-- The plan of a builder, lent or its own.
use Rattle.fr_plan.specs.TypePlan.{Plan}
use Rattle.fr_moves.specs.declared.held_plan.HeldPlan.{HeldPlan}

abbrev pub plan_in : HeldPlan → Plan
plan_in (HeldPlan.Lent plan) = plan.now
plan_in (HeldPlan.Own plan) = plan.value
