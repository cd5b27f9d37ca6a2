use Rattle.std.proofs.Common.{ℕ, ◌+◌, arith}
use Rattle.fr_shape.specs.Tokens.{occurs}
use Rattle.fr_shape.specs.View.{view}
use Rattle.fr_frame.specs.Heap.{heap_of, slots_occur}
use Rattle.fr_tests.proofs.TokenlessSlots.{none_after, room_at}
use Rattle.fr_tests.proofs.slot_tests.put.Goals as goal

pub put-requires-clause-room : goal.put-requires-clause-room
put-requires-clause-room g c =
    room_at c.args.slots.now c.args.id.0 c.args.ledger.now c.requires.none c.check_used.ensures

pub returns : goal.returns
returns g c =
    none_after (heap_of c.args.slots.now c.args.id.0)
    (λ (t : ℕ). slots_occur c.args.slots.now t + occurs (view c.args.value) t) (slots_occur c.put.new.slots)
    c.put.ensures.tokens (λ t. omega (arith, c.requires.none t, c.requires.value t))
