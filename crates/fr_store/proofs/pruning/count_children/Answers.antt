use Rattle.std.proofs.Common.{Some, ◌∙◌}
use Rattle.fr_store.specs.Common.{heap_of}
use Rattle.fr_frame.specs.Heap.{node_of}
use Rattle.fr_store.proofs.OutlineUses.{count_told}
use Rattle.fr_store.proofs.pruning.count_children.Goals as goal

pub returns-in-Some : goal.returns-in-Some
returns-in-Some c =
    c.count_among.ensures
    ∙ count_told (Some (node_of c.in-Some.found.now)) (heap_of c.args.slots.now c.args.place.0) c.in-Some.ensures.place
