use Rattle.std.proofs.Common.{◌≡◌, sym, ◌∙◌}
use Rattle.fr_work.specs.Common.{Def, def_of, field_found, shape_at}
use Rattle.fr_plan.specs.Names.{declared_field}
use Rattle.fr_work.proofs.BeginLaws.{declared_is}
use Rattle.fr_work.proofs.ChoiceLaws.{looked_up}
use Rattle.fr_work.proofs.work.Work.field_named.Goals as goal
use Rattle.fr_work.proofs.work.Work.field_named.Goals.{After-declared_field}

-- what the plan has of the name
told : (c : After-declared_field) → c.declared_field.result
    ≡ field_found c.args.name.now (def_of c.args.self.now.shapes (shape_at c.args.self.now)) c.args.variant
told c =
    looked_up c.law_plan_complete.ensures.complete c.law_plan_lookups.ensures.agree c.law_plan_lookups.ensures.paths c.law_plan_reach.ensures.reached c.law_plan_reach.ensures.nodes c.self.invariant
    c.self.view_is c.args.shape.0 c.requires (λ (def : Def). declared_field def c.args.variant c.args.name.now) _ _ _ _ c.deref.ensures c.deref-2.ensures c.core-plan.ensures.plan c.declared_field.ensures.first
    ∙ declared_is c.args.name.now _ c.args.variant

pub returns-in-Some : goal.returns-in-Some
returns-in-Some c = record {
  number =
      sym c.in-Some.is ∙ told (goal.at.returns-in-Some c).After-declared_field;
}

pub returns-in-None : goal.returns-in-None
returns-in-None c = record {
  number =
      sym c.in-None.is ∙ told (goal.at.returns-in-None c).After-declared_field;
}
