use Rattle.std.proofs.Common.{List, slice_get, refl, ap, ◌∙◌, arith}
use Rattle.fr_frame.specs.Common.{Slot, heap_of, slots_occur, slots_seen}
use Rattle.fr_values.specs.SliceLaws.{set_gets}
use Rattle.fr_frame.proofs.SingleSlots.{get_seen, node_seen, set_occur, set_same}
use Rattle.fr_frame.proofs.slots.Slots.vacant.Goals as goal

pub returns-clause-reserved : goal.returns-clause-reserved
returns-clause-reserved c =
    get_seen c.reserve.new.entries (slots_seen c.reserve.new.entries) refl c.in-Some.id.0 Slot.Reserved
    (ap (λ (raw : List Slot). slice_get raw c.in-Some.id.0) c.reserve.ensures.now
    ∙ set_gets c.self.inside.entries c.in-Some.id.0 (Slot.Free c.in-Some-after_free.next) Slot.Reserved c.in-Some-after_free.ensures)

pub returns-clause-vacant : goal.returns-clause-vacant
returns-clause-vacant c =
    node_seen c.self.inside.entries c.args.self.now c.self.view_is c.in-Some.id.0 (Slot.Free c.in-Some-after_free.next)
    c.in-Some-after_free.ensures

pub returns-clause-rest : goal.returns-clause-rest
returns-clause-rest c n =
    ap (λ (raw : List Slot). heap_of (slots_seen raw) n) c.reserve.ensures.now
    ∙ set_same c.self.inside.entries c.args.self.now c.self.view_is c.in-Some.id.0 (Slot.Free c.in-Some-after_free.next) Slot.Reserved
    c.in-Some-after_free.ensures refl refl n

pub returns-clause-tokens : goal.returns-clause-tokens
returns-clause-tokens c t =
    omega (
      arith,
      ap (λ (raw : List Slot). slots_occur (slots_seen raw) t) c.reserve.ensures.now,
      set_occur c.self.inside.entries c.args.self.now c.self.view_is c.in-Some.id.0 (Slot.Free c.in-Some-after_free.next)
          Slot.Reserved c.in-Some-after_free.ensures refl t,
    )
