-- The mode of a builder, as its state tells it.
use Rattle.std.specs.Prelude.{◌<◌, Bool, false, length, nat_lt}
use Rattle.fr_model.specs.Places.{Place}
use Rattle.fr_model.specs.Tree.{Mode as StateMode, strict, deferred}
use Rattle.fr_refusals.specs.declared.mode.Mode.{Mode}

abbrev pub mode_of : Mode → StateMode
mode_of Mode.Strict = strict
mode_of (Mode.Deferred start) = deferred start

-- in deferred mode, and deeper than the place at which that began
abbrev pub IsBelowStart : StateMode → (cursor : Place) → Type 0
IsBelowStart strict cursor = ⊥
IsBelowStart (deferred start) cursor = start < length cursor

-- whether it is
abbrev pub is_below_start : StateMode → (cursor : Place) → Bool
is_below_start strict cursor = false
is_below_start (deferred start) cursor = nat_lt start (length cursor)
