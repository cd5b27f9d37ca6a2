use Rattle.std.proofs.Common.{ap, sym, ◌∙◌, arith}
use Rattle.fr_frame.specs.Common.{Node, Rope, Slot, SlotId, body_of, body_with, cell_at, held_items, option_and_then, slot_of_cell}
use Rattle.fr_frame.proofs.RawLaws.{child_of_list, child_of_none, child_seen}
use Rattle.fr_frame.proofs.SingleSlots.{past_seen}
use Rattle.fr_frame.proofs.slots.Slots.child_slot.Goals as goal

pub returns-then-id-len : goal.returns-then-id-len
returns-then-id-len c = record {
  slot =
      sym (ap (λ found. option_and_then slot_of_cell (option_and_then (λ (x : Node). cell_at x.body c.args.i) found))
      (past_seen c.self.inside.entries c.args.self.now c.self.view_is c.args.id.0 (omega (arith, c.len.ensures.count, c.if-id-len.true))));
}

pub returns-in-Used : goal.returns-in-Used
returns-in-Used c = record {
  slot =
      c.slot_at.ensures
      ∙ sym (child_seen c.self.inside.entries c.args.self.now c.self.view_is c.args.id.0 c.idx.result c.args.i c.get.result.now
      c.idx.ensures.number (omega (arith, c.len.ensures.count, c.if-id-len.false)) c.get.ensures.value (Slot.Used c.in-Used.place)
      c.in-Used.is);
}

pub returns-in-List : goal.returns-in-List
returns-in-List c = record {
  slot =
      c.slot_of_item.ensures ∙ ap (λ (rope : Rope SlotId). option_and_then slot_of_cell
      (cell_at (body_with (held_items c.self.inside.entries) c.args.id.0 rope.items (body_of c.in-List.place.partial)) c.args.i))
      c.deref.ensures
      ∙ sym (child_of_list c.self.inside.entries c.args.self.now c.self.view_is c.args.id.0 c.idx.result c.args.i c.get.result.now
      c.idx.ensures.number (omega (arith, c.len.ensures.count, c.if-id-len.false)) c.get.ensures.value c.in-List.place
      c.in-List.items c.in-List.is);
}

pub returns-in-Free : goal.returns-in-Free
returns-in-Free c = record {
  slot =
      sym (child_of_none c.self.inside.entries c.args.self.now c.self.view_is c.args.id.0 c.idx.result c.args.i c.get.result.now
      c.idx.ensures.number (omega (arith, c.len.ensures.count, c.if-id-len.false)) c.get.ensures.value c.in-Free.is);
}

pub returns-in-Free-2 : goal.returns-in-Free-2
returns-in-Free-2 c = record {
  slot =
      sym (child_of_none c.self.inside.entries c.args.self.now c.self.view_is c.args.id.0 c.idx.result c.args.i c.get.result.now
      c.idx.ensures.number (omega (arith, c.len.ensures.count, c.if-id-len.false)) c.get.ensures.value c.in-Free.is);
}

pub returns-in-Free-3 : goal.returns-in-Free-3
returns-in-Free-3 c = record {
  slot =
      sym (child_of_none c.self.inside.entries c.args.self.now c.self.view_is c.args.id.0 c.idx.result c.args.i c.get.result.now
      c.idx.ensures.number (omega (arith, c.len.ensures.count, c.if-id-len.false)) c.get.ensures.value c.in-Free.is);
}
