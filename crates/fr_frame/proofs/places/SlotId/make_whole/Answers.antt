use Rattle.std.proofs.Common.{ap, set, arith}
use Rattle.std.proofs.lemmas.Result.{on_ok_weaker, IfErr-weaker}
use Rattle.fr_frame.specs.Common.{Node, Room, Slot, body_occurs, body_of, heap_of, node_in, node_of, option_and_then, slots_occur}
use Rattle.fr_shape.specs.TokenLaws.{Room_conserved}
use Rattle.fr_frame.proofs.HandLaws.{made_here, moved_conserved, so_of}
use Rattle.fr_frame.proofs.ChangedPlaces.{of_with_partial, with_partial, shows_same, occur_change}
use Rattle.fr_frame.proofs.places.SlotId.make_whole.Goals as goal

pub returns-clause-made : goal.returns-clause-made
returns-clause-made c =
    on_ok_weaker c.make_whole.result
    (made_here c.args.slots.now c.args.self.0 c.place_mut-place.result.now c.place_mut-place.ensures.value c.make_whole.new.partial
    c.requires.complete) c.make_whole.ensures.whole

pub returns-clause-refused : goal.returns-clause-refused
returns-clause-refused c =
    IfErr-weaker c.make_whole.result _ _ (λ e.
    shows_same c.args.slots.now c.args.self.0 c.place_mut-place.result.now c.place_mut-place.ensures.value c.make_whole.new.partial)
    c.make_whole.ensures.refused

pub returns-clause-room : goal.returns-clause-room
returns-clause-room c =
    of_with_partial c.args.slots.now c.args.self.0 c.place_mut-place.result.now c.place_mut-place.ensures.value c.make_whole.new.partial
    (λ (at : Node). Room (body_occurs at.body) c.make_whole.new.ledger)
    (Room_conserved (body_occurs (body_of c.place_mut-place.result.now.partial)) c.args.ledger.now
    (body_occurs (body_of c.make_whole.new.partial)) c.make_whole.new.ledger c.make_whole.ensures.conserved
    (so_of (heap_of c.args.slots.now c.args.self.0) (node_of c.place_mut-place.result.now)
    (λ (at : Node). Room (body_occurs at.body) c.args.ledger.now)
    (ap (option_and_then node_in) c.place_mut-place.ensures.value) c.requires.room))

pub returns-clause-conserved : goal.returns-clause-conserved
returns-clause-conserved c =
    moved_conserved (body_occurs (body_of c.place_mut-place.result.now.partial)) (body_occurs (body_of c.make_whole.new.partial))
    (slots_occur c.args.slots.now)
    (slots_occur (set c.args.slots.now c.args.self.0 (Slot.Used (with_partial c.place_mut-place.result.now c.make_whole.new.partial))))
    c.args.ledger.now c.make_whole.new.ledger c.make_whole.ensures.conserved (λ t.
    omega (
      arith,
      occur_change c.args.slots.now c.args.self.0 c.place_mut-place.result.now c.place_mut-place.ensures.value
          c.make_whole.new.partial t,
    ))
