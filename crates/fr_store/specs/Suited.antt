-- What the tree of a builder keeps to.
use Rattle.std.specs.Prelude.{ℕ, None}
use Rattle.fr_shape.specs.Look.{Table}
use Rattle.fr_model.specs.Tree.{Tree}
use Rattle.fr_model.specs.Well.{ConversionsSuit, Suits}

-- each node suits its shape, of a root of shape `root`, and each conversion has the hook and the source of its place's wrapper or of a
-- proxy of its place
pub record IsSuited (table : Table) (root : ℕ) (tree : Tree) : Type 0 where
  pub suits : Suits table root tree
  pub conversions : ConversionsSuit table root None tree
