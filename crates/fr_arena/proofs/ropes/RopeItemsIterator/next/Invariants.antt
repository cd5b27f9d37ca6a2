use Rattle.std.proofs.Common.{◌≡◌, ◌++◌}
use Rattle.std.specs.Vec.Iter.{into_iter_items, into_iter_len}
use Rattle.fr_arena.specs.Chunks.{items_of}
use Rattle.fr_arena.proofs.ropes.RopeItemsIterator.next.Given as goal

-- the same items are to come
abbrev pub invariant-loop-item : goal.invariant-loop-item
invariant-loop-item g l =
    into_iter_items l.self-inside.chunk ++ items_of (into_iter_items l.self-inside.chunks)
    ≡ into_iter_items l.initial.self-inside.chunk ++ items_of (into_iter_items l.initial.self-inside.chunks)

abbrev pub decreases-loop-item : goal.decreases-loop-item
decreases-loop-item g l = into_iter_len l.self-inside.chunks
