use Rattle.std.proofs.Common.{ℕ, Option, ap, is_some, ◌∙◌}
use Rattle.fr_work.specs.Readings.{field_range_at}
use Rattle.fr_work.proofs.FieldStepLaws.{chosen_here}
use Rattle.fr_work.proofs.RangeLaws.{range_there, range_within}
use Rattle.fr_work.proofs.work.Work.field_plans.Goals as goal

pub fields-requires : goal.fields-requires
fields-requires c = record {
  inside =
      range_within c.place_in_plan.result.0.now c.place_in_plan.result.1 _ c.place_in_plan.ensures.parts c.selected_here.result
      c.in-Some.range c.in-Some.ensures.range;
}

pub returns-in-None-clause-fields : goal.returns-in-None-clause-fields
returns-in-None-clause-fields c =
    ap is_some (c.in-None.ensures.range
    ∙ ap (λ (chosen : Option ℕ). field_range_at c.place_in_plan.result.0.now chosen c.place_in_plan.result.1)
    c.selected_here.ensures.selected)
    ∙ range_there c.place_in_plan.result.0.now c.place_in_plan.result.1 _ c.place_in_plan.ensures.parts _
    (chosen_here c.args.self.now c.law_sound.ensures.in_order)

pub returns-in-Some-clause-fields : goal.returns-in-Some-clause-fields
returns-in-Some-clause-fields c =
    ap is_some (c.in-Some.ensures.range
    ∙ ap (λ (chosen : Option ℕ). field_range_at c.place_in_plan.result.0.now chosen c.place_in_plan.result.1)
    c.selected_here.ensures.selected)
    ∙ range_there c.place_in_plan.result.0.now c.place_in_plan.result.1 _ c.place_in_plan.ensures.parts _
    (chosen_here c.args.self.now c.law_sound.ensures.in_order)
