use Rattle.std.proofs.Common.{◌≡◌, ◌++◌}
use Rattle.fr_store.specs.Common.{cells_found, heap_of, is_map_found, slotted}
use Rattle.fr_store.proofs.listing.add_children.Given as goal

abbrev pub invariant-loop-i : goal.invariant-loop-i
invariant-loop-i l =
    l.queue.items ≡ l.initial.queue.items
    ++ slotted (is_map_found (heap_of l.slots l.place.0)) (cells_found (heap_of l.slots l.place.0)) l.i
