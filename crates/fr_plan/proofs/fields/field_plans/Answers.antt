use Rattle.std.proofs.Common.{◌≡◌, ap, sym, ◌∙◌, subst, List, take, arith}
use Rattle.std.specs.List.{AllZip}
use Rattle.std.proofs.lemmas.List.{take_all}
use Rattle.fr_plan.specs.Build.{Placed, fields_from}
use Rattle.fr_plan.specs.Plans.{IsFieldPlan, nth_node}
use Rattle.fr_plan.proofs.Growing.{field_grows, fields_added, grown_twice, ok_weaker, zip_weaker}
use Rattle.fr_plan.proofs.OneMoreRow.{fields_more, length-fields_from}
use Rattle.fr_plan.proofs.fields.field_plans.Goals as goal

pub loop-i-preserved : goal.loop-i-preserved
loop-i-preserved c = record {
  told =
      rw c.in_ok-push.ensures.items
      (fields_more c.args.of.shape c.args.of.variant (IsFieldPlan c.args.table.now c.field_plan.new.lists c.args.nodes.now) c.args.fields.now
      c.loop-i.plans.items c.loop-i.i c.in-Ok.index c.index-fields-i.result c.in_ok-field_plan.field-0 c.loop-i-test.true
      c.index-fields-i.is c.in-Ok.ensures.1
      (zip_weaker (IsFieldPlan c.args.table.now c.loop-i.lists c.args.nodes.now)
      (IsFieldPlan c.args.table.now c.field_plan.new.lists c.args.nodes.now)
      (field_grows c.args.table.now c.loop-i.lists c.field_plan.new.lists c.in_ok-field_plan.ensures.grown c.args.nodes.now) _ _ c.loop-i.invariant.told)
      (c.in_ok-field_plan.ensures.told c.args.nodes.now
      (c.nth_node-type_node.ensures ∙ ap (nth_node c.args.nodes.now) (sym c.in-Ok.ensures.1))));
  grown = grown_twice _ _ _ c.loop-i.invariant.grown c.in_ok-field_plan.ensures.grown;
}

pub returns-clause-told : goal.returns-clause-told
returns-clause-told c =
    let fields : List Placed = fields_from c.args.of.shape c.args.of.variant 0 c.args.fields.now in
    let grew = fields_added c.loop-i.lists c.add_fields.new.self c.add_fields.ensures.others c.add_fields.ensures.grown in
    let all : take c.loop-i.i fields ≡ fields = take_all c.loop-i.i fields
    (omega (arith, length-fields_from c.args.of.shape c.args.of.variant 0 c.args.fields.now, c.loop-i-test.false)) in
    ok_weaker _ _ (λ range named. (
      c.loop-i.plans.items,
      named,
      zip_weaker (IsFieldPlan c.args.table.now c.loop-i.lists c.args.nodes.now)
          (IsFieldPlan c.args.table.now c.add_fields.new.self c.args.nodes.now)
          (field_grows c.args.table.now c.loop-i.lists c.add_fields.new.self grew c.args.nodes.now) fields c.loop-i.plans.items
          (subst (λ (xs : List Placed). AllZip (IsFieldPlan c.args.table.now c.loop-i.lists c.args.nodes.now) xs c.loop-i.plans.items) all c.loop-i.invariant.told),
    ))
    c.add_fields.result c.add_fields.ensures.added
