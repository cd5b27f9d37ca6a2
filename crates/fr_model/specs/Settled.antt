-- What an exit owes to the tokens of a script.
use Rattle.std.specs.Prelude.{◌≡◌, ◌+◌, ◌<◌, ◌≤◌}
use Rattle.fr_model.specs.Common.{ℕ, List, length, slice_index}

-- Each token of the script stands once in the returned value or was released once: the two numbers add up to one, and
-- no count falls. Every other count is unchanged, and the returned value holds no token from elsewhere.
pub record IsSettled (brought : ℕ → ℕ) (before : List ℕ) (returned : ℕ → ℕ) (after : List ℕ) : Type 0 where
  pub same_length : length after ≡ length before
  pub each : (t : ℕ) → 0 < brought t → returned t + slice_index after t ≡ slice_index before t + 1
  pub none_falls : (t : ℕ) → slice_index before t ≤ slice_index after t
  pub others : (t : ℕ) → brought t ≡ 0 → slice_index after t ≡ slice_index before t
  pub none_from_elsewhere : (t : ℕ) → brought t ≡ 0 → returned t ≡ 0
