-- What the ledger's counts say of tokens that are held and tokens that were released. A ledger is the list of its
-- counts; `held t` is how often token t is held.
use Rattle.std.specs.Prelude.{◌≡◌, ℕ, ◌+◌, ◌<◌, ◌≤◌, ◌^◌, List, length, slice_index}

-- every token that is held is one of the ledger's, and its count has room for as many releases
abbrev pub Room : (held : ℕ → ℕ) (ledger : List ℕ) → Type 0
Room held ledger = (t : ℕ) → 0 < held t → (t < length ledger) × (slice_index ledger t + held t < 2 ^ 32)

-- each token was released as often as it was held, and no other token was
pub record RoseBy (held : ℕ → ℕ) (before after : List ℕ) : Type 0 where
  pub same_length : length after ≡ length before
  pub each : (t : ℕ) → slice_index after t ≡ slice_index before t + held t

-- Nothing is lost and nothing made: each token that was held is held still, or was released once for each time
-- that it isn't. No count falls.
pub record Conserved (held : ℕ → ℕ) (before : List ℕ) (left : ℕ → ℕ) (after : List ℕ) : Type 0 where
  pub same_length : length after ≡ length before
  pub kept_or_released : (t : ℕ) → slice_index before t + held t ≡ slice_index after t + left t
  pub none_falls : (t : ℕ) → slice_index before t ≤ slice_index after t
