use Rattle.std.proofs.Common.{◌+◌, set, subst, arith}
use Rattle.fr_frame.specs.Common.{Body, FrameOwner, Node, Room, Slot, body_occurs, body_of, heap_of, occurs, slots_occur, view, with_ended}
use Rattle.fr_frame.specs.Heap.{ends}
use Rattle.fr_frame.specs.declared.places.Taker.{Taker}
use Rattle.fr_frame.proofs.HandLaws.{ends_unlinked, moved_conserved, passed, so_of}
use Rattle.fr_frame.proofs.ChangedPlaces.{occur_change, with_partial, shows}
use Rattle.fr_frame.proofs.places.SlotId.end.Goals as goal

pub end_child-requires-clause-room : goal.end_child-requires-clause-room
end_child-requires-clause-room c =
    subst (λ (body : Body). Room (body_occurs body) c.args.ledger.now) c.take_whole-i.ensures.taken.whole
    (so_of (heap_of c.args.slots.now c.args.self.0) c.take_whole-i.ensures.taken.at
    (λ (at : Node). Room (body_occurs at.body) c.args.ledger.now) c.take_whole-i.ensures.taken.here c.requires.room)

pub returns-clause-ended : goal.returns-clause-ended
returns-clause-ended c =
    passed c.args.slots.now c.take_whole-i.new.slots c.args.self.0
    (FrameOwner.Child c.take_whole-i.result.0 c.take_whole-i.result.1) (view c.take_whole-i.result.2)
    c.take_whole-i.ensures.taken Taker.Set (set c.take_whole-i.new.slots c.take_whole-i.result.0.0
    (Slot.Used (with_partial c.place_mut-place.result.now c.end_child.new.partial))) ends
    (ends_unlinked (heap_of c.args.slots.now) c.args.self.0 c.take_whole-i.result.0 c.take_whole-i.result.1
    (view c.take_whole-i.result.2))
    (shows c.take_whole-i.new.slots c.take_whole-i.result.0.0 c.place_mut-place.result.now c.place_mut-place.ensures.value
    c.end_child.new.partial (with_ended c.take_whole-i.result.1 (view c.take_whole-i.result.2)) c.end_child.ensures.ended)

pub returns-clause-conserved : goal.returns-clause-conserved
returns-clause-conserved c =
    moved_conserved (λ t. body_occurs (body_of c.place_mut-place.result.now.partial) t + occurs (view c.take_whole-i.result.2) t)
    (body_occurs (body_of c.end_child.new.partial)) (slots_occur c.args.slots.now)
    (slots_occur (set c.take_whole-i.new.slots c.take_whole-i.result.0.0
    (Slot.Used (with_partial c.place_mut-place.result.now c.end_child.new.partial)))) c.args.ledger.now c.end_child.new.ledger
    c.end_child.ensures.conserved (λ t.
    omega (
      arith,
      c.take_whole-i.ensures.tokens t,
      occur_change c.take_whole-i.new.slots c.take_whole-i.result.0.0 c.place_mut-place.result.now
          c.place_mut-place.ensures.value c.end_child.new.partial t,
    ))
