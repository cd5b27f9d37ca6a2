use Rattle.std.proofs.Common.{◌≡◌, Some, slice_get, option_map, ap, sym, ◌∙◌, arith}
use Rattle.fr_frame.specs.Common.{held_items, outlined}
use Rattle.fr_frame.proofs.SingleSlots.{no_place, node_seen, past_seen, with_place}
use Rattle.fr_values.specs.SliceLaws.{read}
use Rattle.fr_frame.proofs.slots.Slots.place.Goals as goal

pub returns-then-id-len : goal.returns-then-id-len
returns-then-id-len c = record {
  place =
      sym (ap (option_map outlined) (past_seen c.self.inside.entries c.args.self.now c.self.view_is c.args.id.0
      (omega (arith, c.len.ensures.count, c.if-id-len.true))));
}

pub returns-in-Free : goal.returns-in-Free
returns-in-Free c =
    let here : slice_get c.self.inside.entries c.args.id.0 ≡ Some c.get.result.now =
    read c.self.inside.entries c.args.id.0 c.idx.result c.get.result.now c.idx.ensures.number
    (omega (arith, c.len.ensures.count, c.if-id-len.false)) c.get.ensures.value in
    record {
      place =
          sym (ap (option_map outlined)
          (node_seen c.self.inside.entries c.args.self.now c.self.view_is c.args.id.0 c.get.result.now here
          ∙ no_place c.get.result.now c.in-Free.is (held_items c.self.inside.entries) c.args.id.0));
    }

pub returns-in-Used : goal.returns-in-Used
returns-in-Used c =
    let here : slice_get c.self.inside.entries c.args.id.0 ≡ Some c.get.result.now =
    read c.self.inside.entries c.args.id.0 c.idx.result c.get.result.now c.idx.ensures.number
    (omega (arith, c.len.ensures.count, c.if-id-len.false)) c.get.ensures.value in
    record {
      place =
          with_place c.get.result.now c.in-Used.place c.in-Used.is (held_items c.self.inside.entries) c.args.id.0
          ∙ sym (ap (option_map outlined)
          (node_seen c.self.inside.entries c.args.self.now c.self.view_is c.args.id.0 c.get.result.now here));
    }
