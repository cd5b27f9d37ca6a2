use Rattle.std.proofs.Common.{◌≡◌, ℕ, ◌+◌, List, set, ap, ◌∙◌, arith}
use Rattle.fr_frame.specs.Common.{Cell, Node, PartialValue, Slot, as_tracker, begun_body, body_occurs, body_of, cells_occur, restarted, slots_occur}
use Rattle.fr_frame.proofs.BodyValues.{none_occur}
use Rattle.fr_frame.proofs.ChangedPlaces.{with_partial, of_place, occur_change, shows}
use Rattle.fr_frame.proofs.places.SlotId.restart.Goals as goal

pub returns-clause-restarted : goal.returns-clause-restarted
returns-clause-restarted c =
    shows c.args.slots.now c.args.self.0 c.place_mut-place.result.now c.place_mut-place.ensures.value c.replace-was.new.dest
    (restarted (as_tracker c.args.tracker) c.args.count) (ap body_of c.replace-was.ensures.after
    ∙ ap (λ (cells : List Cell). begun_body (as_tracker c.args.tracker) cells) c.in_ok-children.ensures.absent)

pub returns-clause-tokens : goal.returns-clause-tokens
returns-clause-tokens c =
    of_place c.args.slots.now c.args.self.0 c.place_mut-place.result.now c.place_mut-place.ensures.value (λ (at : Node).
    (t : ℕ) → slots_occur c.args.slots.now t
    ≡ slots_occur (set c.args.slots.now c.args.self.0 (Slot.Used (with_partial c.place_mut-place.result.now c.replace-was.new.dest))) t
    + body_occurs at.body t) (λ t.
    let gone : body_occurs (body_of c.replace-was.new.dest) t ≡ 0
    = ap (λ (p : PartialValue). body_occurs (body_of p) t) c.replace-was.ensures.after
    ∙ ap (λ (cells : List Cell). cells_occur cells t) c.in_ok-children.ensures.absent ∙ none_occur c.args.count t in
    omega (
      arith,
      occur_change c.args.slots.now c.args.self.0 c.place_mut-place.result.now c.place_mut-place.ensures.value
          c.replace-was.new.dest t,
      gone,
    ))
