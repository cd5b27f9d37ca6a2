use Rattle.std.proofs.Common.{◌≡◌, Some, None}
use Rattle.std.proofs.lemmas.Result.{on_ok_weaker, IfErr-weaker}
use Rattle.fr_frame.specs.Common.{Node, Slot, first_hole_left, shape_of}
use Rattle.fr_frame.proofs.ChangedPlaces.{of_place}
use Rattle.fr_values.specs.SliceLaws.{set_as_was}
use Rattle.fr_frame.proofs.places.SlotId.require_full_initialization.Goals as goal

pub returns-clause-full : goal.returns-clause-full
returns-clause-full g c =
    on_ok_weaker c.test_partial.result
    (of_place c.args.slots.now c.args.self.0 c.place_mut-place.result.now c.place_mut-place.ensures.value
    (λ (at : Node). first_hole_left (shape_of c.args.plan.now at.node) at.body ≡ None)) c.test_partial.ensures.passing

pub returns-clause-why : goal.returns-clause-why
returns-clause-why g c =
    IfErr-weaker c.test_partial.result _ _ (λ kind.
    of_place c.args.slots.now c.args.self.0 c.place_mut-place.result.now c.place_mut-place.ensures.value
    (λ (at : Node). first_hole_left (shape_of c.args.plan.now at.node) at.body ≡ Some kind)) c.test_partial.ensures.failing

pub returns-clause-unchanged : goal.returns-clause-unchanged
returns-clause-unchanged g c =
    set_as_was c.args.slots.now c.args.self.0 (Slot.Used c.place_mut-place.result.now) c.place_mut-place.ensures.value
