use Rattle.std.specs.List.{FoldsTo}
use Rattle.std.specs.Vec.Iter.{into_iter_items, into_iter_len}
use Rattle.fr_arena.specs.Chunks.{items_of}
use Rattle.fr_arena.proofs.ropes.ListRope.drain_into.Given as goal

-- `f` may be called, and wherever the calls at the items of the chunks left end, there end the calls at all items
abbrev pub invariant-loop-chunk : goal.invariant-loop-chunk
invariant-loop-chunk g l =
    goal.F-IsAlwaysCallable g l.f
    × ((last : _) → FoldsTo (λ p x q. goal.F-step g p x tt q) l.f (items_of (into_iter_items l.chunks)) last → FoldsTo (λ p x q. goal.F-step g p x tt q) l.fn.f l.fn.self.items last)

abbrev pub decreases-loop-chunk : goal.decreases-loop-chunk
decreases-loop-chunk g l = into_iter_len l.chunks
