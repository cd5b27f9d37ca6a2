-- The keys and values of entries in turn, as values of children.
use Rattle.std.specs.Prelude.{◌+◌, ◌*◌, ◌≤◌, List, [], ◌∷◌, length, vec_capacity}
use Rattle.std.specs.declared.vec.Vec.{Vec}
use Rattle.std.specs.declared.alloc.Global.{Global}
use Rattle.fr_shape.specs.declared.value.Value.{Value}

-- the keys and values of entries in turn
abbrev pub parts_of_entries : List (Value × Value) → List Value
parts_of_entries [] = []
parts_of_entries (e ∷ es) = e.0 ∷ (e.1 ∷ parts_of_entries es)

-- there is room for the keys and values of these entries beside these values
abbrev pub HasRoom : Vec (Value × Value) Global → Vec Value Global → Type 0
HasRoom entries values = 2 * length entries.items + length values.items ≤ vec_capacity values
