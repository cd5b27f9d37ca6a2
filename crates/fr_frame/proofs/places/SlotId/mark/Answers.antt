use Rattle.std.proofs.Common.{arith}
use Rattle.fr_frame.proofs.RawLaws.{mark_shows, mark_tokens, slot_used, used_inside}
use Rattle.fr_frame.proofs.places.SlotId.mark.Goals as goal

pub get_mut-requires : goal.get_mut-requires
get_mut-requires c =
    let inside = used_inside c.slots.inside.entries c.args.slots.now c.args.self.0 c.slots.view_is c.requires.in_use in
    record { inside = omega (arith, c.idx.ensures.number) }

pub mark_slot-requires : goal.mark_slot-requires
mark_slot-requires c =
    slot_used c.slots.inside.entries c.args.slots.now c.slots.view_is c.args.self.0 c.idx.result c.get_mut.result.now
    c.get_mut.result.now c.idx.ensures.number c.requires.in_use c.get_mut.ensures.value

pub returns-clause-marked : goal.returns-clause-marked
returns-clause-marked c =
    mark_shows c.slots.inside.entries c.args.slots.now c.slots.view_is c.args.self.0 c.idx.result c.get_mut.result.now
    c.mark_slot.new.slot c.idx.ensures.number c.requires.in_use c.get_mut.ensures.value c.args.stored c.mark_slot.ensures

pub returns-clause-tokens : goal.returns-clause-tokens
returns-clause-tokens c =
    mark_tokens c.slots.inside.entries c.args.slots.now c.slots.view_is c.args.self.0 c.idx.result c.get_mut.result.now
    c.mark_slot.new.slot c.idx.ensures.number c.requires.in_use c.get_mut.ensures.value c.args.stored c.mark_slot.ensures
