-- What a plan has of the place at which a builder works. Only the contracts inside this crate speak of it.
use Rattle.std.specs.Prelude.{◌≡◌, ℕ, ◌+◌, ◌<◌, ◌≤◌, length, List, Some, None, is_some, slice_get}
use Rattle.fr_arena.specs.Ranges.{Range}
use Rattle.fr_rules.specs.Entries.{entries_of}
use Rattle.fr_rules.specs.FieldLookups.{IsLookupOf}
use Rattle.fr_rules.specs.declared.field_lookups.FieldLookup.{FieldLookup}
use Rattle.fr_shape.specs.declared.shape.Def.{Def}
use Rattle.fr_shape.specs.declared.shape.Field.{Field}
use Rattle.fr_shape.specs.Look.{variants_of}
use Rattle.fr_model.specs.Variants.{is_enum}
use Rattle.fr_plan.specs.Fields.{fields_in}
use Rattle.fr_plan.specs.Lookups.{by_id, enum_plan_at, struct_plan_at}
use Rattle.fr_plan.specs.TypePlan.{Plan}
use Rattle.fr_plan.specs.declared.nodes.NodeId.{NodeId}
use Rattle.fr_plan.specs.declared.plans.EnumPlan.{EnumPlan}
use Rattle.fr_plan.specs.declared.plans.StructPlan.{StructPlan}
use Rattle.fr_plan.specs.declared.plans.VariantPlanMeta.{VariantPlanMeta}
use Rattle.fr_work.specs.Readings.{is_struct, variant_plan_at}

-- the range lies inside the list
abbrev pub IsWithin : {X : Type 0} → List X → Range → Type 0
IsWithin list range = range.start + range.len ≤ length list

-- the plans of fields lie there, and these fields are found so by name
pub record Finds (plan : Plan) (range : Range) (lookup : FieldLookup) (fields : List Field) : Type 0 where
  pub within : IsWithin plan.lists.fields range
  pub finds : IsLookupOf plan.lists.lookups lookup (entries_of fields)

-- of a place of this definition, by its node: a struct has a plan there, an enum has one, and each variant has one
pub record HasParts (plan : Plan) (id : NodeId) (def : Def) : Type 0 where
  pub inside : id.0 < length plan.nodes
  pub structs : is_some (by_id plan (struct_plan_at plan) id) ≡ is_struct def
  pub enums : is_some (by_id plan (enum_plan_at plan) id) ≡ is_enum def
  pub variants : (k : ℕ) → is_some (variant_plan_at plan (Some k) id) ≡ is_some (slice_get (variants_of def) k)
  pub fields :
      (struct : StructPlan) → by_id plan (struct_plan_at plan) id ≡ Some struct
      → Finds plan struct.fields struct.field_lookup (fields_in def None)
  pub listed :
      (enumeration : EnumPlan) → by_id plan (enum_plan_at plan) id ≡ Some enumeration
      → IsWithin plan.lists.variants enumeration.variants
  pub variant_fields :
      (k : ℕ) (variant : VariantPlanMeta) → variant_plan_at plan (Some k) id ≡ Some variant
      → Finds plan variant.fields variant.field_lookup (fields_in def (Some k))
