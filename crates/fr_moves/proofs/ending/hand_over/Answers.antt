use Rattle.fr_moves.proofs.HandingLaws.{handed_over}
use Rattle.fr_moves.proofs.KeepLaws.{room_here}
use Rattle.fr_moves.proofs.ending.hand_over.Goals as goal

pub hand_over-requires-clause-is_open : goal.hand_over-requires-clause-is_open
hand_over-requires-clause-is_open c =
    record { plan = c.requires.are_open.plan; is_open = c.requires.are_open.are_open.shown }

pub hand_over-requires-clause-room : goal.hand_over-requires-clause-room
hand_over-requires-clause-room c = room_here _ _ _ c.args.ledger.now c.requires.are_open.are_open.shown c.requires.room

pub returns-clause-handed : goal.returns-clause-handed
returns-clause-handed c =
    handed_over c.hand_over.result c.args.taker c.args.frames.now c.hand_over.new.slots c.hand_over.new.self c.hand_over.ensures.marks
    c.hand_over.ensures.handed
