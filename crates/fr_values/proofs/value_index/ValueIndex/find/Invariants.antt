use Rattle.std.proofs.Common.{◌≡◌, ℕ, true, false, map, take}
use Rattle.fr_values.specs.Common.{is_held, runs_of, same, val_at, view}
use Rattle.fr_values.proofs.value_index.ValueIndex.find.Given as goal

abbrev pub invariant-loop-run : goal.invariant-loop-run
invariant-loop-run l =
    (n : ℕ) → is_held (take l.run-index (runs_of l.self)) n ≡ true → same (val_at (map view l.values) n) (view l.value) ≡ false
