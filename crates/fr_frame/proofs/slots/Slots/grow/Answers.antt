use Rattle.std.proofs.Common.{arith}
use Rattle.std.proofs.lemmas.Result.{on_ok_weaker, IfErr-weaker}
use Rattle.fr_frame.specs.Common.{Slot}
use Rattle.fr_frame.specs.Growing.{grown}
use Rattle.fr_frame.proofs.ChangedPlaces.{keeps_reserved, with_partial, shows, shows_same, occur_change}
use Rattle.fr_frame.proofs.slots.Slots.grow.Goals as goal

pub returns-clause-grown : goal.returns-clause-grown
returns-clause-grown c =
    on_ok_weaker c.grow.result
    (shows c.args.self.now c.args.parent.0 c.place_mut-place.result.now c.place_mut-place.ensures.value c.grow.new.partial (grown c.args.growth))
    c.grow.ensures.grown

pub returns-clause-refused : goal.returns-clause-refused
returns-clause-refused c =
    IfErr-weaker c.grow.result _ _ (λ e.
    shows_same c.args.self.now c.args.parent.0 c.place_mut-place.result.now c.place_mut-place.ensures.value c.grow.new.partial)
    c.grow.ensures.refused

pub returns-clause-tokens : goal.returns-clause-tokens
returns-clause-tokens c t =
    let changed = occur_change c.args.self.now c.args.parent.0 c.place_mut-place.result.now c.place_mut-place.ensures.value c.grow.new.partial t in
    omega (arith, c.grow.ensures.tokens t)

pub returns-clause-reserved : goal.returns-clause-reserved
returns-clause-reserved c =
    keeps_reserved c.args.self.now c.args.parent.0 c.place_mut-place.result.now
    (Slot.Used (with_partial c.place_mut-place.result.now c.grow.new.partial)) c.place_mut-place.ensures.value
