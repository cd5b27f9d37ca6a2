use Rattle.std.proofs.Common.{length, ◌-◌}
use Rattle.fr_store.proofs.BeneathSteps.{IsQueueBeneath}
use Rattle.fr_store.proofs.listing.walk_beneath.Given as goal

abbrev pub invariant-loop-head : goal.invariant-loop-head
invariant-loop-head l = IsQueueBeneath l.slots l.stack l.queue.items l.head

abbrev pub decreases-loop-head : goal.decreases-loop-head
decreases-loop-head l = length l.slots - l.head
