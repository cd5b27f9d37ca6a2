use Rattle.std.proofs.Common.{◌≡◌, take, drop}
use Rattle.std.specs.List.{AllZip}
use Rattle.fr_plan.specs.Lists.{ListsGrow}
use Rattle.fr_plan.specs.Plans.{IsVariantPlan, variants_from}
use Rattle.fr_plan.proofs.variants.variant_plans.Given as goal

abbrev pub invariant-loop-i : goal.invariant-loop-i
invariant-loop-i l = record {
  told : AllZip (IsVariantPlan l.table l.lists l.id) (take l.i (variants_from 0 l.nodes l.variants)) l.plans.items;
  left : drop l.i (variants_from 0 l.nodes l.variants) ≡ variants_from l.i l.rest (drop l.i l.variants);
  grown : ListsGrow l.fn.lists l.lists;
}
