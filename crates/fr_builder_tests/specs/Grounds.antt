-- What the builder asks of a table.
use Rattle.fr_shape.specs.Checked.{IsChecked}
use Rattle.fr_shape.specs.Look.{Table}
use Rattle.fr_shape.specs.Numbered.{IsNumbered}

-- a checked table whose shapes, fields and variants are told by small numbers
pub record IsGround (table : Table) : Type 0 where
  pub checked : IsChecked table
  pub numbered : IsNumbered table
