use Rattle.std.proofs.Common.{ap, sym, subst, ◌∙◌, arith, Some}
use Rattle.fr_plan.specs.Build.{Built, Made, MadeAll, and_then, build, children_built, finish}
use Rattle.fr_plan.specs.Results.{Gives, IsMeant}
use Rattle.fr_plan.proofs.WalkSteps.{fields_left, fields_fail, fields_go_on, variants_left, variants_fail, variants_go_on, new_fails, new_goes_on, meant_first, build_unseen, build_building, build_none}
use Rattle.fr_plan.proofs.node_building.+building.Goals as goal

pub build_fields-returns-in-Err : goal.build_fields-returns-in-Err
build_fields-returns-in-Err t c =
    fields_fail (λ then next. build c.args.table.now c.args.depth then next) _ _ _ _ _ _
    (fields_left c.args.of.shape c.args.of.variant c.args.fields.now c.loop-i.i c.index-fields-i.result c.in-Ok.index
    c.loop-i-test.true c.index-fields-i.is c.in-Ok.ensures.1)
    c.loop-i.invariant c.in-Err.ensures

pub build_fields-loop-i-preserved : goal.build_fields-loop-i-preserved
build_fields-loop-i-preserved t c =
    rw c.in-Ok-push.ensures.ok
    (fields_go_on (λ then next. build c.args.table.now c.args.depth then next) _ _ _ _
    (record { walk = c.build_field.new.walk; node = c.in-Ok-build_field.node }) _
    (fields_left c.args.of.shape c.args.of.variant c.args.fields.now c.loop-i.i c.index-fields-i.result c.in-Ok.index
    c.loop-i-test.true c.index-fields-i.is c.in-Ok.ensures.1)
    c.loop-i.invariant c.in-Ok-build_field.ensures)

pub build_variants-returns-in-Err : goal.build_variants-returns-in-Err
build_variants-returns-in-Err t c =
    variants_fail (λ then next. build c.args.table.now c.args.depth then next) _ _ _ _ _ _
    (variants_left c.args.id c.args.variants.now c.loop-i.i c.index-variants-i.result c.in-Ok.number c.as_slice-fields.result.now
    c.loop-i-test.true c.index-variants-i.is c.in-Ok.ensures.1 c.as_slice-fields.ensures.items)
    c.loop-i.invariant c.in-Err.ensures

pub build_variants-loop-i-preserved : goal.build_variants-loop-i-preserved
build_variants-loop-i-preserved t c =
    variants_go_on (λ then next. build c.args.table.now c.args.depth then next) _ _ _ _
    (record { walk = c.build_fields.new.walk; nodes = c.build_fields.new.nodes }) _
    (variants_left c.args.id c.args.variants.now c.loop-i.i c.index-variants-i.result c.in-Ok.number c.as_slice-fields.result.now
    c.loop-i-test.true c.index-variants-i.is c.in-Ok.ensures.1 c.as_slice-fields.ensures.items)
    c.loop-i.invariant c.in-Ok-build_fields.ensures

pub build_new-returns-in-Err : goal.build_new-returns-in-Err
build_new-returns-in-Err t c =
    new_fails (λ then next. build c.args.table.now c.args.depth then next) c.args.walk.now c.args.id _ c.in-Some.shape.now _ _ _
    c.in-Some.ensures.value c.mark.ensures (c.as_slice.ensures.items ∙ c.in-Ok.ensures) c.in-Err.ensures

pub build_new-returns-in-Err-build_children : goal.build_new-returns-in-Err-build_children
build_new-returns-in-Err-build_children t c =
    let P : Built Made → Type 0 = λ built. IsMeant built c.in-Err-build_children.refused in
    subst P (sym (new_goes_on (λ then next. build c.args.table.now c.args.depth then next) c.args.walk.now c.args.id _
    c.in-Some.shape.now _ _ (record { walk = c.build_each.new.walk; nodes = c.in-Ok-build_each.sources })
    c.in-Some.ensures.value c.mark.ensures (c.as_slice.ensures.items ∙ c.in-Ok.ensures) c.in-Ok-build_each.ensures))
    (meant_first (children_built (λ then next. build c.args.table.now c.args.depth then next) c.build_each.new.walk c.args.id c.in-Some.shape.now.def c.in-Some.shape.now)
    (λ (children : MadeAll). finish c.args.id c.in-Some.shape.now c.in-Ok-build_each.sources children)
    _ c.in-Err-build_children.ensures)

pub build_new-returns : goal.build_new-returns
build_new-returns t c =
    let P : Built Made → Type 0 = λ built. Gives built c.finish.result c.finish.new.walk in
    subst P (sym (new_goes_on (λ then next. build c.args.table.now c.args.depth then next) c.args.walk.now c.args.id _
    c.in-Some.shape.now _ _ (record { walk = c.build_each.new.walk; nodes = c.in-Ok-build_each.sources })
    c.in-Some.ensures.value c.mark.ensures (c.as_slice.ensures.items ∙ c.in-Ok.ensures) c.in-Ok-build_each.ensures
    ∙ ap (λ (built : Built MadeAll). and_then built (λ (children : MadeAll). finish c.args.id c.in-Some.shape.now c.in-Ok-build_each.sources children)) c.in-Ok-build_children.ensures))
    c.finish.ensures

pub build_shape-returns-in-Some-Unseen : goal.build_shape-returns-in-Some-Unseen
build_shape-returns-in-Some-Unseen t c =
    let P : Built Made → Type 0 = λ built. Gives built c.build_new.result c.build_new.new.walk in
    subst P (sym (build_unseen c.args.table.now c.args.depth c.args.walk.now c.args.id (omega arith)
    (sym c.mark_of.ensures ∙ c.in-Some-Unseen.is ∙ ap Some c.in-Some-Unseen.field-0-is))) c.build_new.ensures

pub build_shape-returns-in-Some-Building : goal.build_shape-returns-in-Some-Building
build_shape-returns-in-Some-Building t c =
    let P : Built Made → Type 0 = λ built. Gives built c.refer_back-in-Some-Building.result c.refer_back-in-Some-Building.new.self in
    subst P (sym (build_building c.args.table.now c.args.depth c.args.walk.now c.args.id
    (sym c.mark_of.ensures ∙ c.in-Some-Building.is ∙ ap Some c.in-Some-Building.field-0-is))) c.refer_back-in-Some-Building.ensures

pub build_shape-returns-in-None : goal.build_shape-returns-in-None
build_shape-returns-in-None t c =
    let P : Built Made → Type 0 = λ built. Gives built c.refer_back-in-None.result c.refer_back-in-None.new.self in
    subst P (sym (build_none c.args.table.now c.args.depth c.args.walk.now c.args.id (sym c.mark_of.ensures ∙ c.in-None.is))) c.refer_back-in-None.ensures
