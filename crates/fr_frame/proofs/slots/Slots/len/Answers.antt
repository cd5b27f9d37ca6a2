use Rattle.std.proofs.Common.{List, length, ap, sym, ◌∙◌}
use Rattle.fr_frame.specs.Common.{Slot}
use Rattle.fr_frame.proofs.SeenSlots.{seen_length}
use Rattle.fr_frame.proofs.slots.Slots.len.Goals as goal

pub returns : goal.returns
returns c = record {
  count =
      c.len.ensures.count ∙ sym (seen_length c.self.inside.entries) ∙ ap (λ (slots : List Slot). length slots) c.self.view_is;
}
