use Rattle.std.proofs.Common.{◌≡◌, drop}
use Rattle.fr_values.specs.Common.{has_same_cell, view}
use Rattle.fr_values.proofs.children.Children.has_same_from.Given as goal

abbrev pub invariant-loop-i : goal.invariant-loop-i
invariant-loop-i l = has_same_cell (view l.value) (drop l.first l.self) ≡ has_same_cell (view l.value) (drop l.i l.self)
