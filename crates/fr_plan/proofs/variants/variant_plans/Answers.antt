use Rattle.std.proofs.Common.{◌≡◌, ap, sym, ◌∙◌, subst, List, ◌∷◌, ◌+◌, take, drop, length, ℕ, min, arith}
use Rattle.std.specs.List.{AllZip}
use Rattle.std.proofs.lemmas.List.{take_all}
use Rattle.fr_plan.specs.declared.plan_lists.PlanLists.{PlanLists}
use Rattle.fr_plan.specs.declared.nodes.NodeId.{NodeId}
use Rattle.fr_plan.specs.declared.plans.VariantPlanMeta.{VariantPlanMeta}
use Rattle.fr_plan.specs.Plans.{IsVariantPlan, PlacedVariant, variants_from}
use Rattle.fr_plan.proofs.Growing.{variant_grows, variants_added, grown_twice, ok_weaker, zip_weaker}
use Rattle.fr_plan.proofs.OneMoreRow.{variants_next, next_element, zip_more, length-variants_from}
use Rattle.fr_plan.proofs.variants.variant_plans.Goals as goal

pub loop-i-preserved : goal.loop-i-preserved
loop-i-preserved c =
    let whole : List PlacedVariant = variants_from 0 c.args.nodes.now c.as_slice-variants.result.now in
    let placed : PlacedVariant = record { number = c.in-Ok.number; variant = c.index-variants-i.result; nodes = c.split_at.result.0.now } in
    let more : List PlacedVariant = variants_from (c.loop-i.i + 1) c.split_at.result.1.now (drop (c.loop-i.i + 1) c.as_slice-variants.result.now) in
    let left : drop c.loop-i.i whole ≡ placed ∷ more =
    variants_next c.as_slice-variants.result.now whole c.loop-i.rest.now c.loop-i.i c.in-Ok.number c.min.result c.index-variants-i.result
    c.loop-i.invariant.left c.loop-i-test.true c.index-variants-i.is c.in-Ok.ensures.1
    (c.min.ensures ∙ ap (λ (n : ℕ). min n (length c.loop-i.rest.now)) c.len.ensures.count)
    ∙ ap (λ (own : List NodeId). record { number = c.in-Ok.number; variant = c.index-variants-i.result; nodes = own }
    ∷ variants_from (c.loop-i.i + 1) (drop c.min.result c.loop-i.rest.now) (drop (c.loop-i.i + 1) c.as_slice-variants.result.now)) (sym c.split_at.ensures.front)
    ∙ ap (λ (others : List NodeId). placed ∷ variants_from (c.loop-i.i + 1) others (drop (c.loop-i.i + 1) c.as_slice-variants.result.now)) (sym c.split_at.ensures.back) in
    let next = next_element whole c.loop-i.i placed more left in
    let R : PlanLists → PlacedVariant → VariantPlanMeta → Type 0 = λ lists. IsVariantPlan c.args.table.now lists c.args.id in
    record {
      told =
          rw c.in_ok-push.ensures.items
          (zip_more (R c.variant_plan.new.lists) whole c.loop-i.plans.items c.loop-i.i placed c.in_ok-variant_plan.field-0 next.0 next.1
          (zip_weaker (R c.loop-i.lists) (R c.variant_plan.new.lists)
          (variant_grows c.args.table.now c.loop-i.lists c.variant_plan.new.lists c.law_lookups_stay.ensures.stay
          c.in_ok-variant_plan.ensures.grown c.args.id) _ _ c.loop-i.invariant.told)
          c.in_ok-variant_plan.ensures.told);
      left = next.2;
      grown = grown_twice _ _ _ c.loop-i.invariant.grown c.in_ok-variant_plan.ensures.grown;
    }

pub returns-clause-told : goal.returns-clause-told
returns-clause-told c =
    let variants : List PlacedVariant = variants_from 0 c.args.nodes.now c.as_slice-variants.result.now in
    let grew = variants_added c.loop-i.lists c.add_variants.new.self c.add_variants.ensures.others c.add_variants.ensures.grown in
    let R : PlanLists → PlacedVariant → VariantPlanMeta → Type 0 = λ lists. IsVariantPlan c.args.table.now lists c.args.id in
    let all : take c.loop-i.i variants ≡ variants = take_all c.loop-i.i variants
    (omega (arith, length-variants_from 0 c.args.nodes.now c.as_slice-variants.result.now, c.loop-i-test.false)) in
    let same : variants ≡ variants_from 0 c.args.nodes.now c.args.enumeration.now.variants =
    ap (variants_from 0 c.args.nodes.now) c.as_slice-variants.ensures.items in
    ok_weaker _ _ (λ range named. (
      c.loop-i.plans.items,
      named,
      subst (λ (xs : List PlacedVariant). AllZip (R c.add_variants.new.self) xs c.loop-i.plans.items) same
          (zip_weaker (R c.loop-i.lists) (R c.add_variants.new.self)
          (variant_grows c.args.table.now c.loop-i.lists c.add_variants.new.self c.law_lookups_stay.ensures.stay grew c.args.id)
          variants c.loop-i.plans.items
          (subst (λ (xs : List PlacedVariant). AllZip (R c.loop-i.lists) xs c.loop-i.plans.items) all c.loop-i.invariant.told)),
    ))
    c.add_variants.result c.add_variants.ensures.added
