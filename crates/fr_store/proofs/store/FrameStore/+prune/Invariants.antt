use Rattle.std.proofs.Common.{◌-◌}
use Rattle.fr_store.specs.Common.{depth_limit, heap_of}
use Rattle.fr_store.proofs.PruneLaws.{depth_found, Pruning}
use Rattle.fr_store.proofs.store.FrameStore.+prune.Given as goal

abbrev pub decreases-prune : goal.decreases-prune
decreases-prune l = depth_limit - depth_found (heap_of l.slots.now l.place.0)

abbrev pub invariant-loop-i : goal.invariant-loop-i
invariant-loop-i l = Pruning l.i l.place.0 l.self l.fn.slots l.slots l.fn.ledger l.ledger
