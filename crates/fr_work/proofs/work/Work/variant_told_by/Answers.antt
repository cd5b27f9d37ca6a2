use Rattle.std.proofs.Common.{ℤ, w64, ◌∙◌, ap}
use Rattle.std.proofs.lemmas.Int.{to_z-of_z}
use Rattle.fr_work.specs.Common.{Def, def_of, variant_told_by, variants_of}
use Rattle.fr_work.proofs.ChoiceLaws.{looked_up}
use Rattle.fr_work.proofs.work.Work.variant_told_by.Goals as goal

pub returns : goal.returns
returns c = record {
  number =
      looked_up c.law_plan_complete.ensures.complete c.law_plan_lookups.ensures.agree c.law_plan_lookups.ensures.paths c.law_plan_reach.ensures.reached c.law_plan_reach.ensures.nodes c.self.invariant
      c.self.view_is c.args.shape.0 c.requires (λ (def : Def). variant_told_by c.args.discriminant (variants_of def)) _ _ _ _
      c.deref.ensures c.deref-2.ensures c.core-plan.ensures.plan (λ root checked inside planned reached.
      c.variant_told_by.ensures.first root checked inside planned reached
      ∙ ap (λ (d : ℤ). variant_told_by d (variants_of (def_of c.deref-2.result.now.frames.table.now c.args.shape.0)))
      (to_z-of_z w64 c.args.discriminant c.ranges.discriminant));
}
