use Rattle.std.proofs.Common.{subst}
use Rattle.fr_store.specs.Common.{IsLeftBy, Taker}
use Rattle.fr_store.proofs.ValuesHandedOver.{handing, last_of, may_take, room_on_top}
use Rattle.fr_store.proofs.Outcomes.{on_ok_each}
use Rattle.fr_store.proofs.stack.Stack.hand_over.Goals as goal

pub hand_over-requires-clause-complete : goal.hand_over-requires-clause-complete
hand_over-requires-clause-complete c =
    c.requires.complete c.in-Some.place.0
    (last_of c.args.taker c.args.self.now c.in-Some.place.0 c.top_for.new.self c.in-Some.ensures.place)

pub hand_over-requires-clause-may : goal.hand_over-requires-clause-may
hand_over-requires-clause-may c =
    may_take c.requires.is_open.is_open c.args.taker c.top_for.new.self c.in-Some.place.0 c.in-Some.ensures.place c.requires.may

pub hand_over-requires-clause-room : goal.hand_over-requires-clause-room
hand_over-requires-clause-room c =
    room_on_top c.requires.is_open.is_open c.args.taker c.top_for.new.self c.in-Some.place.0 c.in-Some.ensures.place c.requires.complete
    c.args.ledger.now c.requires.room

pub returns-clause-handed : goal.returns-clause-handed
returns-clause-handed c = on_ok_each _ c.hand_over.result (λ plan is_open.
    (handing is_open c.args.taker c.top_for.new.self c.in-Some.place.0 c.in-Some.ensures.place c.requires.complete
    c.requires.may c.hand_over.new.slots c.hand_over.result c.hand_over.ensures.handed c.hand_over.ensures.left).0)

pub returns-clause-places : goal.returns-clause-places
returns-clause-places c =
    (handing c.requires.is_open.is_open c.args.taker c.top_for.new.self c.in-Some.place.0 c.in-Some.ensures.place c.requires.complete
    c.requires.may c.hand_over.new.slots c.hand_over.result c.hand_over.ensures.handed c.hand_over.ensures.left).1

pub returns-clause-marks : goal.returns-clause-marks
returns-clause-marks c =
    (handing c.requires.is_open.is_open c.args.taker c.top_for.new.self c.in-Some.place.0 c.in-Some.ensures.place c.requires.complete
    c.requires.may c.hand_over.new.slots c.hand_over.result c.hand_over.ensures.handed c.hand_over.ensures.left).2

pub returns-clause-refused : goal.returns-clause-refused
returns-clause-refused c =
    (handing c.requires.is_open.is_open c.args.taker c.top_for.new.self c.in-Some.place.0 c.in-Some.ensures.place c.requires.complete
    c.requires.may c.hand_over.new.slots c.hand_over.result c.hand_over.ensures.handed c.hand_over.ensures.left).3

pub returns-clause-stack : goal.returns-clause-stack
returns-clause-stack c itself =
    (subst (λ (taker : Taker). IsLeftBy taker c.args.self.now c.in-Some.place.0 c.top_for.new.self) itself
    c.in-Some.ensures.place).1
