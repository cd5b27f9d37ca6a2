-- The fields of structs and of variants, and whether any of them has a validator.
use Rattle.std.specs.Prelude.{ℕ, Bool, not, List, [], Option, Some, None, slice_get}
use Rattle.std.specs.List.{list_any}
use Rattle.std.specs.Option.{option_map_or}
use Rattle.fr_shape.specs.declared.shape.Def.{Def}
use Rattle.fr_shape.specs.declared.shape.Field.{Field}
use Rattle.fr_shape.specs.declared.shape.VariantDef.{VariantDef}
use Rattle.fr_shape.specs.Lists.{is_nil}
use Rattle.fr_shape.specs.Look.{variants_of}

-- the fields of a struct
abbrev pub own_fields : Def → List Field
own_fields (Def.Struct struct) = struct.fields
own_fields (Def.Scalar kind) = []
own_fields Def.Str = []
own_fields Def.Opaque = []
own_fields (Def.Enum enumeration) = []
own_fields (Def.Option t) = []
own_fields (Def.Result t e) = []
own_fields (Def.List t) = []
own_fields (Def.Map k v) = []
own_fields (Def.Set t) = []
own_fields (Def.Array t n) = []
own_fields (Def.Pointer pointer) = []
own_fields (Def.Slice t) = []
own_fields Def.Dynamic = []
own_fields Def.Undefined = []
own_fields Def.Other = []

-- the fields of a struct, or of an enum's variant of this number
abbrev pub fields_in : Def → (variant : Option ℕ) → List Field
fields_in def None = own_fields def
fields_in def (Some variant) =
    option_map_or (λ (described : VariantDef). described.fields) (slice_get (variants_of def) variant) []

-- a validator stands at the field
abbrev pub has_validator : Field → Bool
has_validator field = not (is_nil field.validators)

-- some field of the struct, or of the enum's variant of this number, has a validator
abbrev pub has_validators : Def → (variant : Option ℕ) → Bool
has_validators def variant = list_any has_validator (fields_in def variant)
