use Rattle.std.proofs.Common.{List, refl, ap, ◌∙◌, arith}
use Rattle.fr_frame.specs.Common.{Slot, heap_of, slots_occur, slots_seen}
use Rattle.fr_frame.proofs.SingleSlots.{reserved_in, set_occur, set_same}
use Rattle.fr_frame.proofs.slots.Slots.give_back.Goals as goal

pub put-requires : goal.put-requires
put-requires c = record {
  reserved = reserved_in c.self.inside.entries c.args.self.now c.self.view_is c.args.id.0 c.requires.reserved;
}

pub returns-clause-rest : goal.returns-clause-rest
returns-clause-rest c n =
    ap (λ (raw : List Slot). heap_of (slots_seen raw) n) c.put.ensures.now
    ∙ set_same c.self.inside.entries c.args.self.now c.self.view_is c.args.id.0 Slot.Reserved (Slot.Free c.self.inside.free)
    (reserved_in c.self.inside.entries c.args.self.now c.self.view_is c.args.id.0 c.requires.reserved) refl refl n

pub returns-clause-tokens : goal.returns-clause-tokens
returns-clause-tokens c t =
    omega (
      arith,
      ap (λ (raw : List Slot). slots_occur (slots_seen raw) t) c.put.ensures.now,
      set_occur c.self.inside.entries c.args.self.now c.self.view_is c.args.id.0 Slot.Reserved (Slot.Free c.self.inside.free)
          (reserved_in c.self.inside.entries c.args.self.now c.self.view_is c.args.id.0 c.requires.reserved) refl t,
    )
