use Rattle.std.proofs.Common.{◌∙◌, ◌<◌, ap, length, subst, sym, ℕ, arith}
use Rattle.std.proofs.lemmas.List.Elements.{AllWithin-more_set}
use Rattle.fr_store.specs.Common.{BelongsTo, HasOwner, IfInUse, IsNarrow, IsNoted, Node, SlotId, heap_of}
use Rattle.fr_store.proofs.NoteLaws.{slot_read, slots_set}
use Rattle.fr_store.proofs.turning.note_all.Goals as goal

pub noted-requires : goal.noted-requires
noted-requires c = record {
  owned =
      subst (λ (n : ℕ). IfInUse c.args.slots.now n (λ (at : Node). HasOwner at.owner))
      (sym (slot_read c.loop-i.places c.args.places.now c.loop-i.i _
      (omega (arith, c.loop-i.auto.places, c.loop-i-test.true)) c.loop-i.invariant.slots))
      (c.requires.owned c.loop-i.i (record { slot = record { 0 = 0 }; parent = 0; number = 0; order = 0 }) c.loop-i-test.true);
}

pub loop-i-preserved : goal.loop-i-preserved
loop-i-preserved c =
    let here : c.loop-i.i < length c.loop-i.places = omega (arith, c.loop-i.auto.places, c.loop-i-test.true) in
    record {
      slots =
          slots_set c.loop-i.places c.loop-i.i c.noted.result (record { slot = record { 0 = 0 }; parent = 0; number = 0; order = 0 }) here
          (ap (λ (slot : SlotId). slot.0) c.noted.ensures.slot) ∙ c.loop-i.invariant.slots;
      noted =
          AllWithin-more_set c.loop-i.places c.loop-i.i c.noted.result here (IsNoted (heap_of c.args.slots.now))
          c.loop-i.invariant.noted
          (subst (λ (slot : SlotId). IfInUse c.args.slots.now slot.0 (λ (at : Node). BelongsTo (heap_of c.args.slots.now) c.noted.result at.owner))
          (sym c.noted.ensures.slot) c.noted.ensures.belongs);
      narrow =
          AllWithin-more_set c.loop-i.places c.loop-i.i c.noted.result here IsNarrow c.loop-i.invariant.narrow
          c.noted.ensures.narrow;
    }
