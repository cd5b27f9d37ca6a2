-- Rust structs in tables: which definitions are one's own, and which values are its elements.
use Rattle.std.specs.Prelude.{ℕ, Bool, true, false, ◌&&◌, nat_eq, List, [], ◌∷◌, map, Option, Some, None}
use Rattle.std.specs.Borrow.{Bor}
use Rattle.std.specs.Option.{option_map}
use Rattle.std.specs.Str.{bytes_eq}
use Rattle.fr_shape.specs.declared.shape.Def.{Def}
use Rattle.fr_shape.specs.declared.shape.Field.{Field}
use Rattle.fr_shape.specs.declared.shape.ShapeId.{ShapeId}
use Rattle.fr_shape.specs.Val.{Val, Vals, product, no_vals, first}

-- fields of a Rust struct: of each its name and the number of its type's shape, if there is one
abbrev pub Names : Type 0
Names = List (List ℕ × Option ℕ)

-- the number is there, and is this one
abbrev pub is_number : Option ℕ → ℕ → Bool
is_number (Some wanted) id = nat_eq id wanted
is_number None id = false

-- a field of this name and of this shape
abbrev pub is_field : (name : List ℕ) → (shape : Option ℕ) → Field → Bool
is_field name shape field = bytes_eq field.name name && is_number shape field.shape.0

-- these fields, in this order
abbrev pub are_fields : Names → List Field → Bool
are_fields [] [] = true
are_fields (wanted ∷ others) (field ∷ fields) = is_field wanted.0 wanted.1 field && are_fields others fields
are_fields _ _ = false

-- a struct of just these fields, in this order
abbrev pub is_struct_of : Names → Def → Bool
is_struct_of wanted (Def.Struct struct) = are_fields wanted struct.fields
is_struct_of wanted _ = false

-- the shapes of the fields' types
abbrev pub shapes_in : Names → List (Option ℕ)
shapes_in = map (λ wanted. wanted.1)

-- fields as a caller writes them
abbrev pub names_of : List (Bor (List ℕ) × Option ShapeId) → Names
names_of = map (λ field. (field.0.now, option_map (λ (id : ShapeId). id.0) field.1))

-- The parts of a struct

-- a value of the first part's type, and then those of the others
abbrev pub first_takes : (takes : Val → Bool) → (others_take : Vals → Bool) → Vals → Bool
first_takes takes others_take no_vals = false
first_takes takes others_take (first v vs) = takes v && others_take vs

-- no value at all
abbrev pub none_left : Vals → Bool
none_left no_vals = true
none_left (first v vs) = false

-- a product of the parts' values
abbrev pub product_takes : (parts_take : Vals → Bool) → Val → Bool
product_takes parts_take (product vs) = parts_take vs
product_takes parts_take _ = false
