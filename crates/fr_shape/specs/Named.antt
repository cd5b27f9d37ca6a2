-- The names of fields and variants.
use Rattle.std.specs.Prelude.{ℕ, suc, List, [], ◌∷◌, Option, Some, None, unwrap_or, if◌then◌else◌}
use Rattle.std.specs.Option.{option_and_then}
use Rattle.std.specs.Str.{bytes_eq}
use Rattle.fr_shape.specs.declared.shape.Def.{Def}
use Rattle.fr_shape.specs.declared.shape.Field.{Field}
use Rattle.fr_shape.specs.declared.shape.VariantDef.{VariantDef}
use Rattle.fr_shape.specs.Look.{Table, def_of, field_in}

-- the name that a rename gives, else the declared one
abbrev pub effective_name : (rename : Option (List ℕ)) → (name : List ℕ) → List ℕ
effective_name rename name = unwrap_or rename name

abbrev pub name_of : VariantDef → List ℕ
name_of variant = effective_name variant.rename variant.name

-- the first of these fields that is declared under this name, counted from i
abbrev pub first_declared : (name : List ℕ) → ℕ → List Field → Option ℕ
first_declared name i [] = None
first_declared name i (field ∷ fields) =
    if bytes_eq field.name name then Some i else first_declared name (suc i) fields

-- the field of a struct that is declared under this name
abbrev pub field_named : (name : List ℕ) → Def → Option ℕ
field_named name (Def.Struct struct) = first_declared name 0 struct.fields
field_named name (Def.Scalar kind) = None
field_named name Def.Str = None
field_named name Def.Opaque = None
field_named name (Def.Enum enumeration) = None
field_named name (Def.Option t) = None
field_named name (Def.Result t e) = None
field_named name (Def.List t) = None
field_named name (Def.Map k v) = None
field_named name (Def.Set t) = None
field_named name (Def.Array t n) = None
field_named name (Def.Pointer pointer) = None
field_named name (Def.Slice t) = None
field_named name Def.Dynamic = None
field_named name Def.Undefined = None
field_named name Def.Other = None

-- the first field of a struct shape that is declared under this name; another shape has none
abbrev pub named_field : Table → (shape : ℕ) → (name : List ℕ) → Option Field
named_field table shape name =
    option_and_then (field_in (def_of table shape) None) (field_named name (def_of table shape))
