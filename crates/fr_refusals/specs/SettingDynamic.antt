-- Setting a dynamic place to a value of another shape.
use Rattle.std.specs.Prelude.{ℕ, ◌==◌, Bool, not, ◌&&◌}
use Rattle.fr_shape.specs.Look.{Table, def_of}
use Rattle.fr_shape.specs.Plannable.{is_dynamic}
use Rattle.fr_values.specs.ConversionNeeds.{copies_to_convert}

-- a place converts what it is set to: it is dynamic, and the value is of another shape
abbrev pub converts_at : Table → (s given : ℕ) → Bool
converts_at table s given = is_dynamic (def_of table s) && not (s == given)

-- and takes memory for that: the value is a character or a list, which is copied
abbrev pub copies_at : Table → (s given : ℕ) → Bool
copies_at table s given = converts_at table s given && copies_to_convert (def_of table given)
