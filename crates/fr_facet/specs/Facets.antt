-- A Rust type's shape in a table, and what reading a value as an element of the type comes to.
use Rattle.std.specs.Prelude.{◌≡◌, ℕ, Bool, true, false, Option, Result, Ok, Err, ⊤}
use Rattle.std.specs.List.{position}
use Rattle.fr_shape.specs.declared.shape.Def.{Def}
use Rattle.fr_shape.specs.declared.shape.Shape.{Shape}
use Rattle.fr_shape.specs.Look.{Table}
use Rattle.fr_facet.specs.Nameable.{nameable}
use Rattle.fr_facet.specs.declared.facet.FacetFault.{FacetFault}

-- the number of the first shape of the table whose definition is a type's own, if there is one
abbrev pub first_own : (is_own : Table → Def → Bool) → Table → Option ℕ
first_own is_own table = position (λ (shape : Shape). is_own table shape.def) (nameable table)

-- a value that is no element mismatches; for want of memory any value may be refused
abbrev pub IsRefusedIf : (is_element : Bool) → FacetFault → Type 0
IsRefusedIf is_element FacetFault.Mismatch = is_element ≡ false
IsRefusedIf is_element FacetFault.OutOfMemory = ⊤

-- a value is read where it is an element, and mismatches exactly where it is none
abbrev pub IsReadIf : {A : Type 0} → (is_element : Bool) → Result A FacetFault → Type 0
IsReadIf is_element (Ok x) = is_element ≡ true
IsReadIf is_element (Err fault) = IsRefusedIf is_element fault
