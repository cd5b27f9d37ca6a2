use Rattle.std.proofs.Common.{arith}
use Rattle.fr_values.specs.CellLaws.{same_length}
use Rattle.fr_values.proofs.children.Children.len.Goals as goal

pub returns : goal.returns
returns c = record { count = omega (arith, c.len.ensures.count, same_length c.self.inside.given _ _ c.self.view_is) }
