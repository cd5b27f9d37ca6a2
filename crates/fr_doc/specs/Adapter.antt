-- What contracts see of a device over a reader or a writer of std.
use Rattle.std.specs.Prelude.{ℕ}

pub record Adapter (D : Type 0) : Type 0 where
  -- the reader or the writer
  pub inner : D
  -- the faults so far, which stand still at the last value of a u64
  pub faults : ℕ
