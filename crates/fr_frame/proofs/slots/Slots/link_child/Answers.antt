use Rattle.std.proofs.Common.{arith}
use Rattle.fr_frame.specs.Common.{Slot, linked}
use Rattle.fr_frame.proofs.ChangedPlaces.{keeps_reserved, with_partial, shows, occur_change}
use Rattle.fr_frame.proofs.slots.Slots.link_child.Goals as goal

pub returns-clause-rest : goal.returns-clause-rest
returns-clause-rest c =
    shows c.args.self.now c.args.parent.0 c.place_mut-place.result.now c.place_mut-place.ensures.value c.link.new.partial
    (linked c.args.id.0 c.args.i) c.link.ensures.partial

pub returns-clause-tokens : goal.returns-clause-tokens
returns-clause-tokens c t =
    let changed = occur_change c.args.self.now c.args.parent.0 c.place_mut-place.result.now c.place_mut-place.ensures.value c.link.new.partial t in
    omega (arith, c.link.ensures.tokens t)

pub returns-clause-reserved : goal.returns-clause-reserved
returns-clause-reserved c =
    keeps_reserved c.args.self.now c.args.parent.0 c.place_mut-place.result.now
    (Slot.Used (with_partial c.place_mut-place.result.now c.link.new.partial)) c.place_mut-place.ensures.value
