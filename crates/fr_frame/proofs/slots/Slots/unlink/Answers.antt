use Rattle.std.proofs.Common.{◌≡◌, not, None, ap, sym, ◌∙◌, arith}
use Rattle.fr_frame.specs.Common.{FrameOwner, Heap, heap_of, unlinked, unlinks}
use Rattle.fr_frame.proofs.OutlinedLaws.{place_missing}
use Rattle.fr_frame.proofs.HeapLaws.{with_body_free}
use Rattle.fr_frame.proofs.ChangedPlaces.{shows, occur_change}
use Rattle.fr_frame.proofs.slots.Slots.unlink.Goals as goal

pub returns-then-is_none-clause-rest : goal.returns-then-is_none-clause-rest
returns-then-is_none-clause-rest c n =
    let free : heap_of c.args.self.now c.in-Child.parent.0 ≡ None
    = place_missing c.place.result (heap_of c.args.self.now c.in-Child.parent.0) c.place.ensures.place
    (c.is_none.ensures ∙ ap not c.if-is_none.true) in
    ap (λ (heap : Heap). heap n) (with_body_free (heap_of c.args.self.now) c.in-Child.parent.0 (unlinked c.args.id.0 c.in-Child.i) free
    ∙ ap (λ (owner : FrameOwner). unlinks owner c.args.id.0 (heap_of c.args.self.now)) (sym c.in-Child.is))

pub returns-clause-rest : goal.returns-clause-rest
returns-clause-rest c n =
    shows c.args.self.now c.in-Child.parent.0 c.place_mut-place.result.now c.place_mut-place.ensures.value c.unlink.new.partial
    (unlinked c.args.id.0 c.in-Child.i) c.unlink.ensures.partial n
    ∙ ap (λ (owner : FrameOwner). unlinks owner c.args.id.0 (heap_of c.args.self.now) n) (sym c.in-Child.is)

pub returns-clause-tokens : goal.returns-clause-tokens
returns-clause-tokens c t =
    let changed = occur_change c.args.self.now c.in-Child.parent.0 c.place_mut-place.result.now c.place_mut-place.ensures.value c.unlink.new.partial t in
    omega (arith, c.unlink.ensures.tokens t)
