-- How the lists of a plan grow while its nodes are told.
use Rattle.fr_rules.specs.Pools.{Continues, HasGrown}
use Rattle.fr_plan.specs.declared.plan_lists.PlanLists.{PlanLists}

-- what the lists held they still hold, at the same places
pub record ListsGrow (before after : PlanLists) : Type 0 where
  pub fields : Continues before.fields after.fields
  pub variants : Continues before.variants after.variants
  pub validators : Continues before.validators after.validators
  pub lookups : HasGrown before.lookups after.lookups
