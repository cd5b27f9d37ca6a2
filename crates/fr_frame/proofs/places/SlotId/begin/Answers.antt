use Rattle.std.proofs.Common.{◌≡◌, true, sym, ◌∙◌, arith}
use Rattle.std.proofs.lemmas.Result.{on_ok_weaker, IfErr-weaker}
use Rattle.fr_frame.specs.Common.{Node, as_tracker, is_begun_body, opened}
use Rattle.fr_frame.proofs.ChangedPlaces.{in_use_so, shows, shows_same, occur_change}
use Rattle.fr_frame.proofs.UnchangedPlaces.{begun_before}
use Rattle.fr_frame.proofs.places.SlotId.begin.Goals as goal

pub returns-then-is_begun-clause-begun : goal.returns-then-is_begun-clause-begun
returns-then-is_begun-clause-begun c =
    begun_before c.args.slots.now c.args.self.0 (as_tracker c.args.tracker) c.args.count
    (in_use_so c.args.slots.now c.args.self.0 (λ (at : Node). c.is_begun.result ≡ is_begun_body at.body)
    (λ (at : Node). is_begun_body at.body ≡ true) (λ at e. sym e ∙ c.if-is_begun.true) c.is_begun.ensures)

pub returns-clause-begun : goal.returns-clause-begun
returns-clause-begun c =
    on_ok_weaker c.open.result
    (shows c.args.slots.now c.args.self.0 c.place_mut-place.result.now c.place_mut-place.ensures.value c.open.new.partial
    (opened (as_tracker c.args.tracker) c.args.count)) c.open.ensures.opened

pub returns-clause-refused : goal.returns-clause-refused
returns-clause-refused c =
    IfErr-weaker c.open.result _ _
    (λ e. shows_same c.args.slots.now c.args.self.0 c.place_mut-place.result.now c.place_mut-place.ensures.value c.open.new.partial)
    c.open.ensures.refused

pub returns-clause-tokens : goal.returns-clause-tokens
returns-clause-tokens c t =
    let changed = occur_change c.args.slots.now c.args.self.0 c.place_mut-place.result.now c.place_mut-place.ensures.value c.open.new.partial t in
    omega (arith, c.open.ensures.tokens t)
