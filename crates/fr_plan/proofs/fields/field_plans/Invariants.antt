use Rattle.std.proofs.Common.{take}
use Rattle.std.specs.List.{AllZip}
use Rattle.fr_plan.specs.Build.{fields_from}
use Rattle.fr_plan.specs.Lists.{ListsGrow}
use Rattle.fr_plan.specs.Plans.{IsFieldPlan}
use Rattle.fr_plan.proofs.fields.field_plans.Given as goal

abbrev pub invariant-loop-i : goal.invariant-loop-i
invariant-loop-i l = record {
  told :
      AllZip (IsFieldPlan l.table l.lists l.nodes) (take l.i (fields_from l.of.shape l.of.variant 0 l.fields))
      l.plans.items;
  grown : ListsGrow l.fn.lists l.lists;
}
