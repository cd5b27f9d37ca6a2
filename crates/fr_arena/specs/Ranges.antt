-- What contracts see of a range of indices.
use Rattle.std.specs.Prelude.{ℕ}

-- the first index of a range, and how many there are
pub record Range : Type 0 where
  pub start : ℕ
  pub len : ℕ

-- the `len` indices from `start` on
abbrev pub indices_from : ℕ → ℕ → Range
indices_from start len = record { start = start; len = len }
