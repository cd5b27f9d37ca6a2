use Rattle.std.proofs.Common.{◌≡◌, ℕ, ◌<◌, ◌≤◌, ◌-◌, length, map, slice_index}
use Rattle.fr_values.specs.Common.{Greater, Less, compare, val_at, view}
use Rattle.fr_values.proofs.value_index.find_in.Given as goal

abbrev pub invariant-loop-low : goal.invariant-loop-low
invariant-loop-low l = record {
  ends : l.low ≤ l.high;
  within : l.high ≤ length l.run;
  before : (k : ℕ) → k < l.low → compare (val_at (map view l.values) (slice_index l.run k)) (view l.value) ≡ Less;
  behind : (k : ℕ) → l.high ≤ k → k < length l.run → compare (val_at (map view l.values) (slice_index l.run k)) (view l.value) ≡ Greater;
}

abbrev pub decreases-loop-low : goal.decreases-loop-low
decreases-loop-low l = l.high - l.low
