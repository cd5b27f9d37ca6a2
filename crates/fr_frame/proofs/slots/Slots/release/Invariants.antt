use Rattle.fr_frame.proofs.ReleaseLaws.{Releasing}
use Rattle.fr_frame.proofs.slots.Slots.release.Given as goal

abbrev pub invariant-loop-i : goal.invariant-loop-i
invariant-loop-i l = Releasing l.initial.self l.self l.initial.ledger l.ledger l.i
