use Rattle.fr_work.specs.Common.{Def, variant_named, variants_of}
use Rattle.fr_work.proofs.ChoiceLaws.{looked_up}
use Rattle.fr_work.proofs.work.Work.variant_named.Goals as goal

pub returns : goal.returns
returns c = record {
  number =
      looked_up c.law_plan_complete.ensures.complete c.law_plan_lookups.ensures.agree c.law_plan_lookups.ensures.paths c.law_plan_reach.ensures.reached c.law_plan_reach.ensures.nodes c.self.invariant
      c.self.view_is c.args.shape.0 c.requires (λ (def : Def). variant_named c.args.name.now (variants_of def)) _ _ _ _ c.deref.ensures c.deref-2.ensures c.core-plan.ensures.plan c.variant_named.ensures.first;
}
