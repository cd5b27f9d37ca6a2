use Rattle.fr_values.specs.CellLaws.{Releasing}
use Rattle.fr_frame.proofs.partial_values.release_children.Given as goal

abbrev pub invariant-loop-i : goal.invariant-loop-i
invariant-loop-i l = Releasing l.initial.children l.children l.initial.ledger l.ledger l.i
