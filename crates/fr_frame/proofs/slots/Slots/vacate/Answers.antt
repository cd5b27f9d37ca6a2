use Rattle.std.proofs.Common.{◌≡◌, ℕ, List, Some, set, slice_get, refl, sym, ap, ap₂, ◌∙◌, arith}
use Rattle.fr_frame.specs.Common.{IsPlain, Slot, heap_of, slots_occur, slots_seen}
use Rattle.fr_frame.proofs.SingleSlots.{drained_inside, drained_slot, node_seen, plain_used, set_occur, set_shows}
use Rattle.fr_values.specs.SliceLaws.{read}
use Rattle.fr_frame.proofs.slots.Slots.vacate.Goals as goal

pub get_mut-requires : goal.get_mut-requires
get_mut-requires c =
    let inside = drained_inside c.self.inside.entries c.args.self.now c.self.view_is c.drain.new.entries c.args.id.0 c.requires c.drain.ensures.plain in
    record { inside = omega (arith, c.idx.ensures.number) }

pub unreachable-requires : goal.unreachable-requires
unreachable-requires c =
    let plain : IsPlain c.get_mut.result.now =
    drained_slot c.self.inside.entries c.args.self.now c.self.view_is c.drain.new.entries c.args.id.0 c.requires
    c.drain.ensures.plain c.idx.result c.get_mut.result.now c.idx.ensures.number c.get_mut.ensures.value in
    c.in_default.not-Used (plain_used c.get_mut.result.now plain).0
    (c.replace-slot.ensures.value ∙ (plain_used c.get_mut.result.now plain).1)

-- what lay in the slot
there : (c : goal.In-Used) → slice_get c.drain.new.entries c.args.id.0 ≡ Some (Slot.Used c.in-Used.place)
there c =
    read c.drain.new.entries c.args.id.0 c.idx.result c.get_mut.result.now c.idx.ensures.number
    (drained_inside c.self.inside.entries c.args.self.now c.self.view_is c.drain.new.entries c.args.id.0 c.requires
    c.drain.ensures.plain) c.get_mut.ensures.value ∙ ap (λ (slot : Slot). Some slot) (sym c.in-Used.ensures.value)

now : (c : goal.In-Used) → set c.drain.new.entries c.idx.result c.replace-slot.new.dest
    ≡ set c.drain.new.entries c.args.id.0 (Slot.Free c.drain.new.free)
now c = ap₂ (λ (at : ℕ) (slot : Slot). set c.drain.new.entries at slot) c.idx.ensures.number c.replace-slot.ensures.after

pub returns-clause-place : goal.returns-clause-place
returns-clause-place c =
    node_seen c.drain.new.entries c.args.self.now (c.drain.ensures.seen ∙ c.self.view_is) c.args.id.0 (Slot.Used c.in-Used.place)
    (there c)

pub returns-clause-rest : goal.returns-clause-rest
returns-clause-rest c n =
    ap (λ (raw : List Slot). heap_of (slots_seen raw) n) (now c)
    ∙ set_shows c.drain.new.entries c.args.self.now (c.drain.ensures.seen ∙ c.self.view_is) c.args.id.0 (Slot.Used c.in-Used.place)
    (Slot.Free c.drain.new.free) (there c) refl n

pub returns-clause-tokens : goal.returns-clause-tokens
returns-clause-tokens c t =
    omega (
      arith,
      ap (λ (raw : List Slot). slots_occur (slots_seen raw) t) (now c),
      set_occur c.drain.new.entries c.args.self.now (c.drain.ensures.seen ∙ c.self.view_is) c.args.id.0 (Slot.Used c.in-Used.place)
          (Slot.Free c.drain.new.free) (there c) refl t,
    )
