-- The shape that a Rust type has in a table.
use Rattle.std.specs.Prelude.{ℕ, Bool, IsSome, unwrap_or}
use Rattle.fr_shape.specs.declared.shape.Def.{Def}
use Rattle.fr_shape.specs.declared.shape.ShapeId.{ShapeId}
use Rattle.fr_shape.specs.Look.{Table}
use Rattle.fr_facet.specs.Facets.{first_own}

-- some shape of the table is of the type with these own definitions
abbrev pub HasShape : (is_own : Table → Def → Bool) → Table → Type 0
HasShape is_own table = IsSome (first_own is_own table)

-- the number of the first of them (0 where there is none)
abbrev pub own_number : (is_own : Table → Def → Bool) → Table → ℕ
own_number is_own table = unwrap_or (first_own is_own table) 0

-- the same, as plans name it
abbrev pub own_shape : (is_own : Table → Def → Bool) → Table → ShapeId
own_shape is_own table = record { 0 = own_number is_own table }
