use Rattle.fr_values.specs.CellLaws.{bits_by, values_are}
use Rattle.fr_values.proofs.children.Children.into_parts.Goals as goal

pub returns-clause-values : goal.returns-clause-values
returns-clause-values c = values_are c.self.inside.given _ _ c.self.view_is c.requires

pub returns-clause-numbers : goal.returns-clause-numbers
returns-clause-numbers c = record { all = bits_by c.self.inside.given _ _ c.self.view_is c.requires; room = c.self.invariant.room }
