-- Shapes, fields and variants are told by numbers of 32 bits, so a table has no more of them than that.
use Rattle.std.specs.Prelude.{◌≡◌, ℕ, ◌<◌, ◌^◌, Bool, ◌&&◌, length, nat_lt, slice_get, Some}
use Rattle.std.specs.List.{list_all}
use Rattle.fr_shape.specs.declared.shape.Def.{Def}
use Rattle.fr_shape.specs.declared.shape.VariantDef.{VariantDef}
use Rattle.fr_shape.specs.Look.{Table, def_of, variants_of}

-- how many fields a struct has
abbrev pub field_count : Def → ℕ
field_count (Def.Struct struct) = length struct.fields
field_count (Def.Scalar kind) = 0
field_count Def.Str = 0
field_count Def.Opaque = 0
field_count (Def.Enum enumeration) = 0
field_count (Def.Option t) = 0
field_count (Def.Result t e) = 0
field_count (Def.List t) = 0
field_count (Def.Map k v) = 0
field_count (Def.Set t) = 0
field_count (Def.Array t n) = 0
field_count (Def.Pointer pointer) = 0
field_count (Def.Slice t) = 0
field_count Def.Dynamic = 0
field_count Def.Undefined = 0
field_count Def.Other = 0

-- fewer than 2 ^ 32 shapes, as few fields in each struct, as few variants in each enum, and as few fields in each variant
pub record IsNumbered (table : Table) : Type 0 where
  pub shapes : length table < 2 ^ 32
  pub fields : (id : ℕ) → field_count (def_of table id) < 2 ^ 32
  pub variants : (id : ℕ) → length (variants_of (def_of table id)) < 2 ^ 32
  pub variant_fields :
      (id i : ℕ) (variant : VariantDef) → slice_get (variants_of (def_of table id)) i ≡ Some variant
      → length variant.fields < 2 ^ 32

-- The same as a test

abbrev pub are_few : (count : ℕ) → Bool
are_few count = nat_lt count (2 ^ 32)

abbrev pub has_few_fields : VariantDef → Bool
has_few_fields variant = are_few (length variant.fields)

-- the fields of a struct, or the variants of an enum and the fields of each
abbrev pub parts_are_few : Def → Bool
parts_are_few def =
    are_few (field_count def) && (are_few (length (variants_of def)) && list_all has_few_fields (variants_of def))

-- the shapes, and the parts of each
abbrev pub all_are_few : Table → Bool
all_are_few table = are_few (length table) && list_all (λ shape. parts_are_few shape.def) table
