use Rattle.std.proofs.Common.{◌≡◌, ℕ, ◌+◌, set, ap, arith}
use Rattle.fr_frame.specs.Common.{Body, Node, PartialValue, Slot, body_occurs, body_of, occurs, slots_occur, view, whole_body}
use Rattle.fr_frame.proofs.ChangedPlaces.{with_partial, of_place, occur_change, shows}
use Rattle.fr_frame.proofs.places.SlotId.put.Goals as goal

pub returns-clause-put : goal.returns-clause-put
returns-clause-put c =
    shows c.args.slots.now c.args.self.0 c.place_mut-place.result.now c.place_mut-place.ensures.value c.replace-before.new.dest
    (λ (old : Body). whole_body (view c.args.value)) (ap body_of c.replace-before.ensures.after)

pub returns-clause-tokens : goal.returns-clause-tokens
returns-clause-tokens c =
    of_place c.args.slots.now c.args.self.0 c.place_mut-place.result.now c.place_mut-place.ensures.value (λ (at : Node).
    (t : ℕ) → slots_occur c.args.slots.now t + occurs (view c.args.value) t
    ≡ slots_occur (set c.args.slots.now c.args.self.0 (Slot.Used (with_partial c.place_mut-place.result.now c.replace-before.new.dest))) t
    + body_occurs at.body t) (λ t.
    omega (
      arith,
      occur_change c.args.slots.now c.args.self.0 c.place_mut-place.result.now c.place_mut-place.ensures.value
          c.replace-before.new.dest t,
      ap (λ (p : PartialValue). body_occurs (body_of p) t) c.replace-before.ensures.after,
    ))
