use Rattle.std.proofs.Common.{slice_get, IsSomeAnd, sym, subst}
use Rattle.fr_shape.specs.Look.{def_of}
use Rattle.fr_plan.specs.Build.{Made}
use Rattle.fr_plan.specs.PlanLaws.{HasOwn}
use Rattle.fr_plan.specs.ShapeFields.{AreKeptOf}
use Rattle.fr_plan.specs.TypePlan.{Plan}
use Rattle.fr_plan.proofs.Wholeness.Reaching.{reached_has_own}
use Rattle.fr_plan.proofs.Wholeness.Whole.{plans_are_complete}
use Rattle.fr_plan.proofs.type_plan.TypePlanCore.variant_named.Goals as goal

pub returns : goal.returns
returns c = record {
  first = λ root checked inside is reached.
      let plan : Plan = c.args.self.now in
      let made : Made = record { walk = plan.walk; node = plan.root } in
      let own : HasOwn made.walk c.args.shape =
      reached_has_own c.args.table.now root made (plans_are_complete c.args.table.now root made checked inside is.built) reached in
      c.find_named.ensures
      (subst (λ (plan : Plan). IsSomeAnd (slice_get plan.shape_fields c.args.shape.0) (AreKeptOf (def_of c.args.table.now c.args.shape.0)))
      (sym c.self.view_is) (is.fields c.args.shape.0 own.node own.mark));
}
