use Rattle.std.proofs.Common.{◌≡◌, slice_get, Some, ap, sym, ◌∙◌, arith}
use Rattle.fr_frame.specs.Common.{as_tracker, reformed}
use Rattle.fr_frame.specs.RawSlots.{stays_list}
use Rattle.fr_values.specs.SliceLaws.{read}
use Rattle.fr_frame.proofs.ChangedPlaces.{shows, occur_change}
use Rattle.fr_frame.proofs.RawLaws.{reform_same, reform_shows, used_inside}
use Rattle.fr_frame.proofs.places.SlotId.reform.Goals as goal

pub get-requires : goal.get-requires
get-requires c =
    let inside = used_inside c.slots.inside.entries c.args.slots.now c.args.self.0 c.slots.view_is c.requires.in_use in
    record { inside = omega (arith, c.idx.ensures.number) }

pub get_mut-requires : goal.get_mut-requires
get_mut-requires c =
    let inside = used_inside c.slots.inside.entries c.args.slots.now c.args.self.0 c.slots.view_is c.requires.in_use in
    record { inside = omega (arith, c.idx-then-stays_list.ensures.number) }

pub reform_list-requires : goal.reform_list-requires
reform_list-requires c =
    let inside = used_inside c.slots.inside.entries c.args.slots.now c.args.self.0 c.slots.view_is c.requires.in_use in
    let one : slice_get c.slots.inside.entries c.args.self.0 ≡ Some c.get.result.now
    = read c.slots.inside.entries c.args.self.0 c.idx.result c.get.result.now c.idx.ensures.number inside c.get.ensures.value in
    let other : slice_get c.slots.inside.entries c.args.self.0 ≡ Some c.get_mut.result.now
    = read c.slots.inside.entries c.args.self.0 c.idx-then-stays_list.result c.get_mut.result.now c.idx-then-stays_list.ensures.number inside
    c.get_mut.ensures.value in
    let same : c.get_mut.result.now ≡ c.get.result.now = cc in
    ap (stays_list c.args.tracker) same ∙ sym c.stays_list.ensures ∙ c.if-stays_list.true

pub returns-then-stays_list-clause-reformed : goal.returns-then-stays_list-clause-reformed
returns-then-stays_list-clause-reformed c =
    reform_shows c.slots.inside.entries c.args.slots.now c.slots.view_is c.args.self.0 c.idx-then-stays_list.result c.get_mut.result.now
    c.reform_list.new.slot c.idx-then-stays_list.ensures.number c.requires.in_use c.get_mut.ensures.value c.args.tracker
    c.reform_list.ensures

pub returns-then-stays_list-clause-tokens : goal.returns-then-stays_list-clause-tokens
returns-then-stays_list-clause-tokens c =
    reform_same c.slots.inside.entries c.args.slots.now c.slots.view_is c.args.self.0 c.idx-then-stays_list.result c.get_mut.result.now
    c.reform_list.new.slot c.idx-then-stays_list.ensures.number c.requires.in_use c.get_mut.ensures.value c.args.tracker
    c.reform_list.ensures

pub returns-clause-reformed : goal.returns-clause-reformed
returns-clause-reformed c =
    shows c.args.slots.now c.args.self.0 c.place_mut-place.result.now c.place_mut-place.ensures.value c.reform.new.partial
    (reformed (as_tracker c.args.tracker)) c.reform.ensures.partial

pub returns-clause-tokens : goal.returns-clause-tokens
returns-clause-tokens c t =
    let changed = occur_change c.args.slots.now c.args.self.0 c.place_mut-place.result.now c.place_mut-place.ensures.value c.reform.new.partial t in
    omega (arith, c.reform.ensures.tokens t)
