use Rattle.std.specs.List.{FoldsTo}
use Rattle.std.specs.Vec.Iter.{into_iter_items, into_iter_len}
use Rattle.fr_arena.proofs.ropes.hand_over.Given as goal

-- `f` may be called, and wherever the calls at the items left end, there end the calls at all items
abbrev pub invariant-loop-item : goal.invariant-loop-item
invariant-loop-item g l =
    goal.F-IsAlwaysCallable g l.f
    × ((last : _) → FoldsTo (λ p x q. goal.F-step g p x tt q) l.f (into_iter_items l.items) last → FoldsTo (λ p x q. goal.F-step g p x tt q) l.fn.f l.fn.chunk.items last)

abbrev pub decreases-loop-item : goal.decreases-loop-item
decreases-loop-item g l = into_iter_len l.items
