-- The shapes of a table that an id can name.
use Rattle.std.specs.Prelude.{◌≡◌, ℕ, ◌^◌, ◌<◌, nat_lt, take, length, Option, Some, None, if◌then◌else◌}
use Rattle.std.proofs.Common.{get_or, arith}
use Rattle.std.proofs.lemmas.List.{get_or-take, length-take}
use Rattle.fr_shape.specs.declared.shape.Shape.{Shape}
use Rattle.fr_shape.specs.Look.{Table}

-- the first 2 ^ 32 shapes
unfoldable pub nameable : Table → Table
nameable table = take (2 ^ 32) table

-- the number, if an id can name it
abbrev pub named_by : ℕ → Option ℕ
named_by n = if nat_lt n (2 ^ 32) then Some n else None

pub within_table : (table : Table) (i : ℕ) → i < length (nameable table) → i < length table
unfolding nameable
within_table table i h = omega (arith, length-take (2 ^ 32) table)

pub nameable_at : (table : Table) (i : ℕ) (d : Shape) → i < length (nameable table) → get_or (nameable table) i d ≡ get_or table i d
unfolding nameable
nameable_at table i d h =
    let low : i < 2 ^ 32 = omega (arith, length-take (2 ^ 32) table) in
    get_or-take (2 ^ 32) table i d low
