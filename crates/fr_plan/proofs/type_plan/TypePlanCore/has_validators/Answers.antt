use Rattle.std.proofs.Common.{◌∙◌, ap}
use Rattle.fr_plan.specs.Build.{Made}
use Rattle.fr_plan.specs.PlanLaws.{HasOwn}
use Rattle.fr_plan.specs.ShapeFields.{validated_at}
use Rattle.fr_plan.specs.TypePlan.{Plan}
use Rattle.fr_plan.proofs.ShapeFields.{validated}
use Rattle.fr_plan.proofs.Wholeness.Reaching.{reached_has_own}
use Rattle.fr_plan.proofs.Wholeness.Whole.{plans_are_complete}
use Rattle.fr_plan.proofs.type_plan.TypePlanCore.has_validators.Goals as goal

pub returns : goal.returns
returns c = record {
  some = λ table root checked inside is reached.
      let plan : Plan = c.args.self.now in
      let made : Made = record { walk = plan.walk; node = plan.root } in
      let own : HasOwn made.walk c.args.shape =
      reached_has_own table root made (plans_are_complete table root made checked inside is.built) reached in
      c.are_validated.ensures
      ∙ ap (λ (plan : Plan). validated_at plan.shape_fields c.args.shape c.args.variant) c.self.view_is
      ∙ validated table plan.walk.marks plan.shape_fields is.fields c.args.shape own.node own.mark c.args.variant;
}
