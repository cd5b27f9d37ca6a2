-- What an index of a list of values holds: the numbers of these values, in runs that rise by the order of values.
use Rattle.std.specs.Prelude.{◌≡◌, ℕ, zero, suc, ◌<◌, ◌≤◌, Bool, true, false, List, [], ◌∷◌, ◌++◌, length, map, nat_eq, slice_index, slice_index_or}
use Rattle.std.specs.List.{list_any}
use Rattle.std.specs.Ordering.{is_lt}
use Rattle.fr_shape.specs.declared.value.Value.{Value}
use Rattle.fr_shape.specs.Compare.{compare}
use Rattle.fr_shape.specs.Val.{Val, unit}
use Rattle.fr_shape.specs.View.{view}
use Rattle.fr_values.specs.declared.value_index.ValueIndex.{ValueIndex}

-- the value of this number
abbrev pub val_at : List Val → ℕ → Val
val_at vs n = slice_index_or vs n unit

-- the number stands in the list
abbrev pub has_number : List ℕ → ℕ → Bool
has_number ns n = list_any (nat_eq n) ns

-- numbers of these values, no later one's value before an earlier one's
pub record IsRun (vs : List Val) (run : List ℕ) : Type 0 where
  pub below : (n : ℕ) → has_number run n ≡ true → n < length vs
  pub rising : (j k : ℕ) → j ≤ k → k < length run → is_lt (compare (val_at vs (slice_index run k)) (val_at vs (slice_index run j))) ≡ false

-- the number stands in one of the runs
abbrev pub is_held : List (List ℕ) → ℕ → Bool
is_held runs n = list_any (λ run. has_number run n) runs

-- so many numbers in a row, from one on
abbrev pub numbers_from : ℕ → (count : ℕ) → List ℕ
numbers_from n zero = []
numbers_from n (suc count) = n ∷ numbers_from (suc n) count

-- the numbers of several runs
abbrev pub joined : List (List ℕ) → List ℕ
joined [] = []
joined (run ∷ runs) = run ++ joined runs

-- each is a run, and each value's number stands in one
pub record AreRuns (vs : List Val) (runs : List (List ℕ)) : Type 0 where
  pub sorted : (j : ℕ) → j < length runs → IsRun vs (slice_index_or runs j [])
  pub each : (n : ℕ) → n < length vs → is_held runs n ≡ true

abbrev pub runs_of : ValueIndex → List (List ℕ)
runs_of index = map (λ run. run.items) index.runs.items

-- the index has the numbers of these values, and no other numbers
pub record Indexes (index : ValueIndex) (values : List Value) : Type 0 where
  pub runs : AreRuns (map view values) (runs_of index)
  pub count : index.len ≡ length values
