use Rattle.std.proofs.Common.{arith}
use Rattle.fr_values.specs.CellLaws.{cells_given}
use Rattle.fr_values.proofs.children.Children.of_parts.Goals as goal

pub returns : goal.returns
returns c = record { there = cells_given c.args.numbers 0 c.args.parts (λ j l k. c.requires.numbers.all j (omega (arith, k))) }
