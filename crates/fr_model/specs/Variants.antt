-- The variants of an enum: their fields, how one is found, and whether it may be selected.
use Rattle.std.specs.Prelude.{◌&&◌, if◌then◌else◌}
use Rattle.fr_model.specs.Common.{ℕ, ℤ, length, nat_lt, position, Bool, true, false, not, List, [], is_some, slice_get, Option, Some, None, option_or, bytes_eq, Def, EnumRepr, Field, VariantDef, Operation, variants_of, name_of, first_declared, field_named}
use Rattle.std.specs.Ordering.{int_eq}

abbrev pub is_enum : Def → Bool
is_enum (Def.Enum enumeration) = true
is_enum _ = false

-- Fields

abbrev pub fields_or_none : Option VariantDef → List Field
fields_or_none (Some variant) = variant.fields
fields_or_none None = []

-- the fields of the variant of this number
abbrev pub variant_fields : Def → ℕ → List Field
variant_fields def k = fields_or_none (slice_get (variants_of def) k)

-- the first field that is declared under the name: of the variant that is selected, or of a struct
abbrev pub field_found : (name : List ℕ) → Def → (selected : Option ℕ) → Option ℕ
field_found name def (Some k) = first_declared name 0 (variant_fields def k)
field_found name def None = field_named name def

-- Finding a variant

abbrev pub variant_numbered : ℕ → List VariantDef → Option ℕ
variant_numbered i variants = if nat_lt i (length variants) then Some i else None

-- the variant goes by this name, and isn't marked `other`
abbrev pub is_found_by : List ℕ → VariantDef → Bool
is_found_by name variant = not variant.other && bytes_eq (name_of variant) name

abbrev pub variant_named : List ℕ → List VariantDef → Option ℕ
variant_named name variants = position (is_found_by name) variants

abbrev pub is_discriminant : ℤ → Option ℤ → Bool
is_discriminant asked (Some discriminant) = int_eq discriminant asked
is_discriminant asked None = false

-- the first variant with this discriminant
abbrev pub variant_told_by : ℤ → List VariantDef → Option ℕ
variant_told_by asked variants = position (λ (variant : VariantDef). is_discriminant asked variant.discriminant) variants

-- Selecting it

-- Rust's own choices of layout can't be built part by part
abbrev pub layout_refusal : EnumRepr → Option Operation
layout_refusal EnumRepr.Rust = Some Operation.RustLayout
layout_refusal EnumRepr.RustNPO = Some Operation.RustNpoLayout
layout_refusal _ = None

abbrev pub layout_refusal_of : Def → Option Operation
layout_refusal_of (Def.Enum enumeration) = layout_refusal enumeration.repr
layout_refusal_of _ = None

abbrev pub has_discriminant : Option VariantDef → Bool
has_discriminant (Some variant) = is_some variant.discriminant
has_discriminant None = false

-- Why the variant of this number can't be selected, if it can't. Of several refusals the first in this order is given: the layout is
-- Rust's choice; it is Rust's choice with the null pointer; the variant has no discriminant.
abbrev pub selection_refusal : Def → ℕ → Option Operation
selection_refusal def k =
    option_or (layout_refusal_of def)
    (if has_discriminant (slice_get (variants_of def) k) then None else Some Operation.VariantWithoutDiscriminant)
