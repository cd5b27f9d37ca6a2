use Rattle.std.proofs.Common.{◌∙◌, sym, ap}
use Rattle.fr_plan.specs.TypePlan.{Plan}
use Rattle.fr_plan.proofs.Invariants.{none_reached, one_reached}
use Rattle.fr_plan.proofs.type_plan.TypePlanCore.has_invariants.Goals as goal

pub returns : goal.returns
returns c = record {
  none = λ table root checked inside is none.
      none_reached table root c.args.self.now checked inside is (ap (λ (plan : Plan). plan.has_invariants) (sym c.self.view_is) ∙ none);
  some = λ table root checked inside is some.
      one_reached table root c.args.self.now checked inside is (ap (λ (plan : Plan). plan.has_invariants) (sym c.self.view_is) ∙ some);
}
