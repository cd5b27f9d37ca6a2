use Rattle.std.specs.Prelude.{IsSome}
use Rattle.fr_frame.specs.Bodies.{value_of}
use Rattle.fr_frame.specs.Heap.{Node, heap_of}
use Rattle.fr_tests.proofs.TokenlessSlots.{is_there, room_at}
use Rattle.fr_tests.proofs.slot_tests.hand_up.Goals as goal

pub hand_over-requires-clause-room : goal.hand_over-requires-clause-room
hand_over-requires-clause-room g c =
    room_at c.args.slots.now c.args.id.0 c.args.ledger.now c.requires
    (is_there (heap_of c.args.slots.now c.args.id.0) (λ (at : Node). IsSome (value_of at.body)) c.check_whole.ensures)

pub hand_over-requires-clause-may : goal.hand_over-requires-clause-may
hand_over-requires-clause-may g c = c.check_owned.ensures
