use Rattle.std.proofs.Common.{◌≡◌, ◌++◌, length}
use Rattle.fr_arena.specs.Chunks.{items_of}
use Rattle.fr_arena.proofs.ropes.RopeIterIterator.next.Given as goal

-- the same items are to come
abbrev pub invariant-loop-self : goal.invariant-loop-self
invariant-loop-self g l = record {
  same : l.self-inside.chunk.now ++ items_of l.self-inside.chunks.now ≡ l.initial.self-inside.chunk.now ++ items_of l.initial.self-inside.chunks.now;
  left : l.self-inside.left ≡ l.initial.self-inside.left;
}

abbrev pub decreases-loop-self : goal.decreases-loop-self
decreases-loop-self g l = length l.self-inside.chunks.now
