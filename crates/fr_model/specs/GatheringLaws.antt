-- What is distinct stays: nothing is left out of it.
use Rattle.std.specs.Prelude.{◌≡◌}
use Rattle.fr_model.specs.Common.{ℕ, true, none_twice, keys, Val, Vals, Entries, no_vals, no_entries}
use Rattle.fr_model.specs.Basis.{has_same, is_there, items_in, items_left_out, entries_in, entries_left_out, in_turn, wholes}

-- items no two of which are `same` make themselves
abbrev pub DistinctItemsStay : Type 0
DistinctItemsStay = (vs : Vals) → none_twice vs ≡ true → items_in no_vals vs ≡ vs

-- and nothing is left out of them
abbrev pub NoItemIsLeftOut : Type 0
NoItemIsLeftOut = (vs : Vals) (t : ℕ) → none_twice vs ≡ true → items_left_out no_vals vs t ≡ 0

-- and so it is of entries no two of whose keys are
abbrev pub DistinctEntriesStay : Type 0
DistinctEntriesStay = (es : Entries) → none_twice (keys es) ≡ true → entries_in no_entries (in_turn es) ≡ es

abbrev pub NoEntryIsLeftOut : Type 0
NoEntryIsLeftOut = (es : Entries) (t : ℕ) → none_twice (keys es) ≡ true → entries_left_out no_entries (in_turn es) t ≡ 0

-- a value is `same` as one of some whole trees exactly where it is there among their values
abbrev pub SameIsThere : Type 0
SameIsThere = (v : Val) (vs : Vals) → has_same v (wholes vs) ≡ is_there v vs
