use Rattle.std.proofs.Common.{length, ◌-◌, ◌+◌}
use Rattle.fr_store.proofs.SpreadSteps.{Spreading}
use Rattle.fr_store.proofs.spreading.spread.Given as goal

abbrev pub invariant-loop-opened : goal.invariant-loop-opened
invariant-loop-opened l = Spreading l.slots l.stack l.places l.order l.count l.head l.opened l.at

abbrev pub decreases-loop-opened : goal.decreases-loop-opened
decreases-loop-opened l = (length l.on_stack - l.opened) + (length l.places - l.head)
