use Rattle.std.proofs.Common.{◌≡◌, ℕ, Some, set, slice_get, refl, ap, arith, ◌∙◌}
use Rattle.fr_frame.specs.Common.{Place, Slot, slots_seen}
use Rattle.fr_frame.proofs.SingleSlots.{drained_inside, drained_slot, get_seen, set_seen}
use Rattle.fr_values.specs.SliceLaws.{read}
use Rattle.fr_frame.proofs.slots.Slots.place_mut.Goals as goal

pub get_mut-slot-requires : goal.get_mut-slot-requires
get_mut-slot-requires c =
    let inside = drained_inside c.self.inside.entries c.args.self.now c.self.view_is c.drain.new.entries c.args.id.0 c.requires c.drain.ensures.plain in
    record { inside = omega (arith, c.idx.ensures.number) }

pub place_mut-requires : goal.place_mut-requires
place_mut-requires c =
    drained_slot c.self.inside.entries c.args.self.now c.self.view_is c.drain.new.entries c.args.id.0 c.requires c.drain.ensures.plain
    c.idx.result c.get_mut-slot.result.now c.idx.ensures.number c.get_mut-slot.ensures.value

pub returns : goal.returns
returns c =
    let here : slice_get c.drain.new.entries c.args.id.0 ≡ Some (Slot.Used c.place_mut.result.now) =
    read c.drain.new.entries c.args.id.0 c.idx.result c.get_mut-slot.result.now c.idx.ensures.number
    (drained_inside c.self.inside.entries c.args.self.now c.self.view_is c.drain.new.entries c.args.id.0 c.requires
    c.drain.ensures.plain) c.get_mut-slot.ensures.value
    ∙ ap (λ (slot : Slot). Some slot) c.place_mut.ensures.value in (
      (
        refl,
        λ (w : Place). ap (λ (at : ℕ). slots_seen (set c.drain.new.entries at (Slot.Used w))) c.idx.ensures.number
            ∙ set_seen c.drain.new.entries c.args.self.now (c.drain.ensures.seen ∙ c.self.view_is) c.args.id.0
            (Slot.Used c.place_mut.result.now) (Slot.Used w) here refl,
      ),
      record {
        writes_back = tt;
        value =
            get_seen c.drain.new.entries c.args.self.now (c.drain.ensures.seen ∙ c.self.view_is) c.args.id.0
            (Slot.Used c.place_mut.result.now) here;
      },
    )
