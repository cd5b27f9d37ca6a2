use Rattle.fr_tests.proofs.TokenlessSlots.{room_at}
use Rattle.fr_tests.proofs.slot_tests.release.Goals as goal

pub release_frame-requires-clause-room : goal.release_frame-requires-clause-room
release_frame-requires-clause-room g c =
    room_at c.args.slots.now c.args.id.0 c.args.ledger.now c.requires c.check_used.ensures
