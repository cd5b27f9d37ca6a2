use Rattle.fr_shape.specs.Faults.{EarlierEntriesKeep}
use Rattle.fr_shape.proofs.checking.first_broken.Given as goal

abbrev pub invariant-loop-i : goal.invariant-loop-i
invariant-loop-i l = EarlierEntriesKeep l.table l.rule l.i
