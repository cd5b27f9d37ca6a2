-- Around what a place may be begun, and whose items it may have.
use Rattle.std.specs.Prelude.{ℕ}

-- what a place is converted through: the wrapper that its shape is, or a proxy
pub data Through : Type 0 where
  Wrapper : Through
  Proxy : Through

-- a conversion: what it goes through, the hook that makes it, and the shape of the source
pub record Conversion : Type 0 where
  pub through : Through
  pub hook : ℕ
  pub source : ℕ

-- around what a place is begun: the content of an option, either side of a result, what a pointer points to, or the source of a
-- conversion
pub data ContentKind : Type 0 where
  Some : ContentKind
  Ok : ContentKind
  Err : ContentKind
  Pointer : ContentKind
  Source : Conversion → ContentKind

-- whose items a place has: a list's, those of a pointer to a slice, which is open for more of them or closed, a set's, or a dynamic
-- array's
pub data ItemsKind : Type 0 where
  List : ItemsKind
  Slice : ItemsKind
  ClosedSlice : ItemsKind
  Set : ItemsKind
  Array : ItemsKind
