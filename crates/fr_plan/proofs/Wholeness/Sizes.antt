-- How many nodes are added while shapes are built.
use Rattle.std.proofs.Common.{◌≡◌, ◌∙◌, ap, refl, ℕ, ◌+◌, ◌≤◌, not, if◌then◌else◌, List, [], ◌∷◌, ◌++◌, length, map, slice_get, arith, Option, Some, None}
use Rattle.std.specs.List.{flat_map, count_by}
use Rattle.std.proofs.lemmas.List.{append-nil, length-append, length-map}
use Rattle.std.proofs.lemmas.List.Sums.{sum_by-cons}
use Rattle.fr_shape.specs.declared.shape.Shape.{Shape}
use Rattle.fr_shape.specs.declared.shape.ShapeId.{ShapeId}
use Rattle.fr_shape.specs.declared.shape.Def.{Def}
use Rattle.fr_shape.specs.declared.shape.Field.{Field}
use Rattle.fr_shape.specs.declared.shape.VariantDef.{VariantDef}
use Rattle.fr_shape.specs.Checked.{fields_of}
use Rattle.fr_shape.specs.Lists.{is_nil}
use Rattle.fr_shape.specs.Look.{Table}
use Rattle.fr_shape.specs.Plannable.{own_sources, field_sources, children_by, children_of}
use Rattle.fr_plan.specs.Build.{Placed, fields_from, variant_fields_from}
use Rattle.fr_plan.specs.SizeLaws.{is_proxied, with_references}

-- what the parts of a shape cost

-- a reference for each source and for the field's shape, and where there are sources a node more
abbrev pub cost_by : List ShapeId → ℕ
cost_by [] = 1
cost_by (source ∷ sources) = length (source ∷ sources) + 2

abbrev pub field_cost : Field → ℕ
field_cost field = cost_by (field_sources field)

abbrev pub fields_cost : List Field → ℕ
fields_cost [] = 0
fields_cost (field ∷ fields) = field_cost field + fields_cost fields

abbrev pub placed_cost : List Placed → ℕ
placed_cost [] = 0
placed_cost (placed ∷ fields) = field_cost placed.field + placed_cost fields

abbrev pub children_cost : Def → Shape → ℕ
children_cost (Def.Struct struct) shape = fields_cost struct.fields
children_cost (Def.Enum enumeration) shape = fields_cost (fields_of (Def.Enum enumeration))
children_cost def shape = length (children_by def shape)

-- what a shape weighs that was finished: itself, its references, and its fields with proxies
abbrev pub weight_of : Option Shape → ℕ
weight_of (Some shape) = with_references (Some shape) + count_by is_proxied (fields_of shape.def)
weight_of None = 0

abbrev pub weight_in : Table → ℕ → ℕ
weight_in table id = weight_of (slice_get table id)

fields_cost-append : (xs ys : List Field) → fields_cost (xs ++ ys) ≡ fields_cost xs + fields_cost ys
fields_cost-append [] ys = omega arith
fields_cost-append (x ∷ xs) ys = omega (arith, fields_cost-append xs ys)

placed_cost-append : (xs ys : List Placed) → placed_cost (xs ++ ys) ≡ placed_cost xs + placed_cost ys
placed_cost-append [] ys = omega arith
placed_cost-append (x ∷ xs) ys = omega (arith, placed_cost-append xs ys)

module _ (id : ShapeId) where
  pub placed_from : (variant : Option ℕ) (i : ℕ) (fields : List Field)
      → placed_cost (fields_from id variant i fields) ≡ fields_cost fields
  placed_from variant i [] = refl
  placed_from variant i (field ∷ fields) = ap (λ (n : ℕ). field_cost field + n) (placed_from variant (i + 1) fields)

  pub variants_from : (i : ℕ) (variants : List VariantDef)
      → placed_cost (variant_fields_from id i variants)
      ≡ fields_cost (flat_map (λ (variant : VariantDef). variant.fields) variants)
  variants_from i [] = refl
  variants_from i (variant ∷ variants) =
      let rest : List Field = flat_map (λ (variant : VariantDef). variant.fields) variants in
      omega (
        arith,
        placed_cost-append (fields_from id (Some i) 0 variant.fields) (variant_fields_from id (i + 1) variants),
        placed_from (Some i) 0 variant.fields,
        variants_from (i + 1) variants,
        fields_cost-append variant.fields rest,
      )

length_two_more : {X : Type 0} (xs : List X) → length (xs ++ [] ++ []) ≡ length xs
length_two_more xs = ap length (append-nil (xs ++ [])) ∙ ap length (append-nil xs)

-- the cost of a field: its shape, its sources, and its node where it has proxies
field_cost_is : (sources : List ShapeId) → cost_by sources ≡ 1 + length sources + (if not (is_nil sources) then 1 else 0)
field_cost_is [] = refl
field_cost_is (source ∷ sources) = omega arith

fields_cost_is : (fields : List Field)
    → fields_cost fields ≡ length fields + length (flat_map field_sources fields) + count_by is_proxied fields
fields_cost_is [] = refl
fields_cost_is (field ∷ fields) =
    omega (
      arith,
      field_cost_is (field_sources field),
      fields_cost_is fields,
      length-append (field_sources field) (flat_map field_sources fields),
      sum_by-cons (λ (f : Field). if is_proxied f then 1 else 0) field fields,
    )

children_cost_is : (def : Def) (shape : Shape)
    → children_cost def shape
    ≤ length (children_by def shape) + length (flat_map field_sources (fields_of def)) + count_by is_proxied (fields_of def)
children_cost_is (Def.Struct struct) shape =
    omega (
      arith,
      fields_cost_is struct.fields,
      length_two_more (map (λ (field : Field). field.shape) struct.fields),
      length-map struct.fields (λ (field : Field). field.shape),
    )
children_cost_is (Def.Enum enumeration) shape =
    let fields : List Field = fields_of (Def.Enum enumeration) in
    omega (
      arith,
      fields_cost_is fields,
      length_two_more (map (λ (field : Field). field.shape) fields),
      length-map fields (λ (field : Field). field.shape),
    )
children_cost_is def shape = omega arith

-- a finished shape pays for its own node and for all that was built for it
pub weight_pays : (shape : Shape) → 1 + length (own_sources shape) + children_cost shape.def shape ≤ weight_of (Some shape)
weight_pays shape =
    omega (
      arith,
      children_cost_is shape.def shape,
      length-append (own_sources shape ++ children_of shape) (flat_map field_sources (fields_of shape.def)),
      length-append (own_sources shape) (children_of shape),
    )
