-- Where the plans of the fields of a place lie.
use Rattle.std.proofs.Common.{◌≡◌, ℕ, Bool, true, false, ◌||◌, Option, Some, None, is_some, option_map, slice_get, refl, ◌∙◌, subst}
use Rattle.std.specs.Option.{option_and_then}
use Rattle.fr_arena.specs.Ranges.{Range}
use Rattle.fr_shape.specs.declared.shape.Def.{Def}
use Rattle.fr_shape.specs.Look.{variants_of}
use Rattle.fr_plan.specs.Lookups.{by_id, struct_plan_at}
use Rattle.fr_plan.specs.TypePlan.{Plan}
use Rattle.fr_plan.specs.declared.nodes.NodeId.{NodeId}
use Rattle.fr_plan.specs.declared.plans.StructPlan.{StructPlan}
use Rattle.fr_plan.specs.declared.plans.VariantPlanMeta.{VariantPlanMeta}
use Rattle.fr_work.specs.PlanParts.{HasParts, IsWithin}
use Rattle.fr_work.specs.Readings.{field_range_at, is_struct, variant_plan_at}

or_true : (b : Bool) → true ≡ (b || true)
or_true true = refl
or_true false = refl

or_false : (b : Bool) → b ≡ (b || false)
or_false true = refl
or_false false = refl

mapped_some : {A B : Type 0} (f : A → B) (found : Option A) → is_some (option_map f found) ≡ is_some found
mapped_some f (Some x) = refl
mapped_some f None = refl

module _ (plan : Plan) (id : NodeId) (def : Def) (has : HasParts plan id def) where
  pub range_within : (chosen : Option ℕ) (range : Range) → Some range ≡ field_range_at plan chosen id → IsWithin plan.lists.fields range
  range_within None range is = go (by_id plan (struct_plan_at plan) id) refl is
    where
      go : (found : Option StructPlan) → by_id plan (struct_plan_at plan) id ≡ found
          → Some range ≡ option_map (λ (struct : StructPlan). struct.fields) found → IsWithin plan.lists.fields range
      go (Some struct) e is =
          let same : struct.fields ≡ range = cc in
          subst (IsWithin plan.lists.fields) same (has.fields struct e).within
      go None e is = cc
  range_within (Some k) range is = go (variant_plan_at plan (Some k) id) refl is
    where
      go : (found : Option VariantPlanMeta) → variant_plan_at plan (Some k) id ≡ found
          → Some range ≡ option_map (λ (variant : VariantPlanMeta). variant.fields) found → IsWithin plan.lists.fields range
      go (Some variant) e is =
          let same : variant.fields ≡ range = cc in
          subst (IsWithin plan.lists.fields) same (has.variant_fields k variant e).within
      go None e is = cc

  -- a struct has them, and so has the variant that is selected, where it is one of the enum
  pub range_there : (chosen : Option ℕ) → is_some (option_and_then (slice_get (variants_of def)) chosen) ≡ is_some chosen
      → is_some (field_range_at plan chosen id) ≡ (is_struct def || is_some chosen)
  range_there None known = mapped_some _ (by_id plan (struct_plan_at plan) id) ∙ has.structs ∙ or_false (is_struct def)
  range_there (Some k) known =
      mapped_some _ (variant_plan_at plan (Some k) id) ∙ has.variants k ∙ known ∙ or_true (is_struct def)
