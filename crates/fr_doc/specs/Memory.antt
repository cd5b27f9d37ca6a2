-- What contracts see of a device in memory. Its calls are counted from 1, and each count stands still at the last value
-- of a u64.
use Rattle.std.specs.Prelude.{ℕ, List}

pub record MemoryInput : Type 0 where
  -- the bytes that are left
  pub left : List ℕ
  -- the most bytes of one call
  pub piece : ℕ
  -- the calls that fail
  pub fails : List ℕ
  -- the calls so far
  pub calls : ℕ
  -- the faults so far
  pub faults : ℕ

pub record MemoryOutput : Type 0 where
  -- the bytes that were taken
  pub taken : List ℕ
  -- the most bytes of one call
  pub piece : ℕ
  -- the calls that fail
  pub fails : List ℕ
  -- the calls so far
  pub calls : ℕ
  -- the faults so far
  pub faults : ℕ
