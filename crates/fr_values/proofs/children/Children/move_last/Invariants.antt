use Rattle.std.proofs.Common.{◌≡◌}
use Rattle.fr_values.specs.Common.{absent, without_cell}
use Rattle.fr_values.proofs.SetChildren.{with_one}
use Rattle.fr_values.proofs.children.Children.move_last.Given as goal

abbrev pub invariant-loop-at : goal.invariant-loop-at
invariant-loop-at l = l.self ≡ with_one l.at absent (without_cell l.i l.initial.self)
