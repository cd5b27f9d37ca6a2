-- The fields of shapes by the names that they are declared under, and variants by discriminant. (By name they are found as
-- `variant_named` of fr_rules says.)
use Rattle.std.specs.Prelude.{ℕ, ℤ, Bool, false, List, position, slice_get, Option, Some, None}
use Rattle.std.specs.Option.{option_and_then}
use Rattle.std.specs.Ordering.{int_eq}
use Rattle.fr_shape.specs.declared.shape.Def.{Def}
use Rattle.fr_shape.specs.declared.shape.VariantDef.{VariantDef}
use Rattle.fr_shape.specs.Look.{variants_of}
use Rattle.fr_shape.specs.Named.{first_declared, field_named}

-- the first field of a variant that is declared under this name
abbrev pub declared_in_variant : (name : List ℕ) → VariantDef → Option ℕ
declared_in_variant name variant = first_declared name 0 variant.fields

-- the first field that is declared under this name in a struct, or in an enum's variant of this number
abbrev pub declared_field : Def → (variant : Option ℕ) → (name : List ℕ) → Option ℕ
declared_field def None name = field_named name def
declared_field def (Some variant) name =
    option_and_then (declared_in_variant name) (slice_get (variants_of def) variant)

-- it is this discriminant, where there is one
abbrev pub is_discriminant : ℤ → Option ℤ → Bool
is_discriminant asked (Some discriminant) = int_eq discriminant asked
is_discriminant asked None = false

-- the first variant that has this discriminant
abbrev pub variant_told_by : ℤ → List VariantDef → Option ℕ
variant_told_by asked variants = position (λ (variant : VariantDef). is_discriminant asked variant.discriminant) variants
