-- What a plan keeps of the fields of shapes: their numbers in the order of their names, and whether any has a validator; and
-- the numbers of an enum's variants in the orders of their names and of their discriminants.
use Rattle.std.specs.Prelude.{◌≡◌, ℕ, ℤ, Bool, false, List, [], length, slice_get, Option, Some, None, IsSomeAnd, IsPermutation, if◌then◌else◌}
use Rattle.std.specs.Cmp.Lexicographic.{slice_cmp}
use Rattle.std.specs.List.{AllZip, list_any, range_with_len}
use Rattle.std.specs.List.Sorted.{IsSorted}
use Rattle.std.specs.Option.{option_cmp, option_map_or, option_and_then}
use Rattle.std.specs.Ordering.{int_cmp, nat_cmp, ordering_then}
use Rattle.std.specs.declared.cmp.Ordering.{Ordering}
use Rattle.fr_shape.specs.declared.shape.Def.{Def}
use Rattle.fr_shape.specs.declared.shape.Field.{Field}
use Rattle.fr_shape.specs.declared.shape.ShapeId.{ShapeId}
use Rattle.fr_shape.specs.declared.shape.VariantDef.{VariantDef}
use Rattle.fr_shape.specs.Look.{Table, def_of, variants_of}
use Rattle.fr_shape.specs.Named.{name_of}
use Rattle.fr_plan.specs.declared.nodes.NodeId.{NodeId}
use Rattle.fr_plan.specs.declared.outlines.Mark.{Mark}
use Rattle.fr_plan.specs.declared.shape_fields.FieldSummary.{FieldSummary}
use Rattle.fr_plan.specs.declared.shape_fields.ShapeFields.{ShapeFields}
use Rattle.fr_plan.specs.declared.variant_numbers.VariantNumbers.{VariantNumbers}
use Rattle.fr_plan.specs.Fields.{own_fields, has_validator}

-- numbers compare by their keys, and those of one key by themselves
abbrev pub by_key : {K : Type 0} → (K → K → Ordering) → (key : ℕ → K) → (x y : ℕ) → Ordering
by_key order key x y = ordering_then (order (key x) (key y)) (nat_cmp x y)

-- the numbers are those below `count`, sorted by key
pub record AreByKey {K : Type 0} (order : K → K → Ordering) (key : ℕ → K) (count : ℕ) (numbers : List ℕ) : Type 0 where
  pub all : IsPermutation (range_with_len 0 count) numbers
  pub sorted : IsSorted (by_key order key) numbers

-- names compare byte by byte
abbrev pub name_cmp : List ℕ → List ℕ → Ordering
name_cmp = slice_cmp nat_cmp

-- Fields.

-- the name that the field of this number is declared under (whoever asks has as many fields; past the end it is empty)
abbrev pub name_at : List Field → (number : ℕ) → List ℕ
name_at fields number = option_map_or (λ (field : Field). field.name) (slice_get fields number) []

-- the numbers are those of all these fields, sorted by name
abbrev pub AreByName : List Field → (numbers : List ℕ) → Type 0
AreByName fields numbers = AreByKey name_cmp (name_at fields) (length fields) numbers

-- what is kept of these fields
pub record IsSummaryOf (fields : List Field) (summary : FieldSummary) : Type 0 where
  pub by_name : AreByName fields summary.by_name
  pub validators : summary.has_validators ≡ list_any has_validator fields

-- what is kept of a variant's fields
abbrev pub IsVariantSummary : VariantDef → FieldSummary → Type 0
IsVariantSummary variant summary = IsSummaryOf variant.fields summary

-- that of each variant, in order
abbrev pub AreSummariesOf : List VariantDef → List FieldSummary → Type 0
AreSummariesOf variants summaries = AllZip IsVariantSummary variants summaries

-- Variants.

-- the name by which a variant is found: none, where it is marked `other`
abbrev pub found_name : VariantDef → Option (List ℕ)
found_name variant = if variant.other then None else Some (name_of variant)

-- that of the variant of this number
abbrev pub found_name_at : List VariantDef → (number : ℕ) → Option (List ℕ)
found_name_at variants number = option_and_then found_name (slice_get variants number)

-- the discriminant of the variant of this number
abbrev pub discriminant_at : List VariantDef → (number : ℕ) → Option ℤ
discriminant_at variants number =
    option_and_then (λ (variant : VariantDef). variant.discriminant) (slice_get variants number)

-- the numbers are those of all these variants, sorted by the names by which they are found
abbrev pub AreByFoundName : List VariantDef → (numbers : List ℕ) → Type 0
AreByFoundName variants numbers = AreByKey (option_cmp name_cmp) (found_name_at variants) (length variants) numbers

-- the numbers are those of all these variants, sorted by discriminant
abbrev pub AreByDiscriminant : List VariantDef → (numbers : List ℕ) → Type 0
AreByDiscriminant variants numbers = AreByKey (option_cmp int_cmp) (discriminant_at variants) (length variants) numbers

-- what is kept of these variants
pub record AreVariantNumbers (variants : List VariantDef) (numbers : VariantNumbers) : Type 0 where
  pub by_name : AreByFoundName variants numbers.by_name
  pub by_discriminant : AreByDiscriminant variants numbers.by_discriminant

-- Shapes.

-- what is kept of a shape of this definition: of its own fields, of those of its variants, and of the variants themselves
pub record AreKeptOf (def : Def) (kept : ShapeFields) : Type 0 where
  pub own : IsSummaryOf (own_fields def) kept.own
  pub variants : AreSummariesOf (variants_of def) kept.variants
  pub numbers : AreVariantNumbers (variants_of def) kept.numbers

-- what is kept of the shape of this number, if it was built to its end
abbrev pub IfBuilt : Table → List Mark → ℕ → ShapeFields → Type 0
IfBuilt table marks id kept =
    (node : NodeId) → slice_get marks id ≡ Some (Mark.Done node) → AreKeptOf (def_of table id) kept

-- the fields of each shape that was built to its end are kept
abbrev pub AreAllKept : Table → List Mark → List ShapeFields → Type 0
AreAllKept table marks kept =
    (id : ℕ) (node : NodeId) → slice_get marks id ≡ Some (Mark.Done node)
    → IsSomeAnd (slice_get kept id) (AreKeptOf (def_of table id))

-- What is found.

-- what is kept of a shape's own fields, or of those of its variant of this number
abbrev pub summary_in : (variant : Option ℕ) → ShapeFields → Option FieldSummary
summary_in None kept = Some kept.own
summary_in (Some variant) kept = slice_get kept.variants variant

-- the same at a shape, of what is kept of all shapes in the table's order
abbrev pub summary_at : List ShapeFields → ShapeId → (variant : Option ℕ) → Option FieldSummary
summary_at kept shape variant = option_and_then (summary_in variant) (slice_get kept shape.0)

-- whether some of them has a validator, as it is kept
abbrev pub validated_at : List ShapeFields → ShapeId → (variant : Option ℕ) → Bool
validated_at kept shape variant =
    option_map_or (λ (summary : FieldSummary). summary.has_validators) (summary_at kept shape variant) false
