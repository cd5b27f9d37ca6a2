-- What `Arena::alloc_extend` asks of its values, and what it appends.
use Rattle.std.specs.Prelude.{ℕ, ◌≤◌, List, Option}
use Rattle.std.specs.Iterator.Runs.{EachRunFrom, WholeRun}

module _ {U S A : Type 0} (becomes : U → S → Type 0) (steps : S → Option A → S → Type 0) (values : U) where
  -- no iterator over `values` gives more than `room` items
  abbrev pub GivesAtMost : ℕ → Type 0
  GivesAtMost room = (it : S) → becomes values it → EachRunFrom steps it (λ run. run.len ≤ room)

  -- P holds of the items that an iterator over `values` gives, all of them and in order
  abbrev pub ForAllItems : (List A → Type 0) → Type 0
  ForAllItems P = (it : S) × becomes values it × WholeRun steps it (λ run. P run.items)
