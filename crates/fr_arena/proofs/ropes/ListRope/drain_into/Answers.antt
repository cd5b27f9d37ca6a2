use Rattle.std.proofs.Common.{◌≡◌, ◌∷◌, sym, subst, rules}
use Rattle.std.specs.List.{FoldsTo}
use Rattle.std.specs.Vec.Iter.{into_iter_items}
use Rattle.fr_arena.specs.Chunks.{items_of}
use Rattle.fr_arena.proofs.Chunks.{calls_joined}
use Rattle.fr_arena.proofs.ropes.ListRope.drain_into.Goals as goal

pub loop-chunk-preserved : goal.loop-chunk-preserved
loop-chunk-preserved g c =
    let items : into_iter_items c.loop-chunk.chunks ≡ c.in-Some.chunk ∷ into_iter_items c.next.new.self = search rules in (
      search rules,
      λ last rest. c.loop-chunk.invariant.1 last
          (subst (λ chunks. FoldsTo (λ p x q. goal.F-step g p x tt q) c.loop-chunk.f (items_of chunks) last) (sym items)
          (calls_joined _ _ _ _ _ _ c.hand_over.ensures.handed_over rest)),
    )
