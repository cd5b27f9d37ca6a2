use Rattle.std.proofs.Common.{◌≡◌, ◌⊎◌, refl, subst, sym}
use Rattle.std.proofs.lemmas.Result.{err_from_is_err_and}
use Rattle.fr_store.specs.Common.{LacksHere, ReflectErrorKind, top_in_use}
use Rattle.fr_store.proofs.DoneLaws.{done_begun, done_whole, top_may_complete, top_refused}
use Rattle.fr_store.proofs.TakenLaws.{closed_room, filled_valued}
use Rattle.fr_store.proofs.finishing.complete_top.Goals as goal

pub becomes_whole-whole-requires : goal.becomes_whole-whole-requires
becomes_whole-whole-requires g c = top_in_use c.requires.is_open c.in-Some.ensures.last

pub complete_by_defaults-requires-clause-place : goal.complete_by_defaults-requires-clause-place
complete_by_defaults-requires-clause-place g c =
    top_may_complete c.requires.is_open c.in-Some.top.0 c.in-Some.ensures.last c.requires.strict
    c.law_plan_lookups.ensures.agree c.law_plan_lookups.ensures.paths c.law_plan_reach.ensures.reached c.law_plan_reach.ensures.nodes c.requires.checked c.requires.plan c.requires.suits

pub hand_over-requires-clause-complete : goal.hand_over-requires-clause-complete
hand_over-requires-clause-complete g c =
    filled_valued (g.H.Hooks.means c.args.hooks.now) c.args.table.now c.args.plan.now c.args.slots.now
    c.complete_by_defaults.new.slots c.in-Some.top.0 c.in_ok-complete_by_defaults.ensures.filled

pub returns-in_err-complete_by_defaults-clause-why : goal.returns-in_err-complete_by_defaults-clause-why
returns-in_err-complete_by_defaults-clause-why g c =
    let exit = err_from_is_err_and c.from_residual.result c.from_residual.ensures.1 in
    rw exit.1 (subst (λ (kind : ReflectErrorKind). (kind ≡ ReflectErrorKind.OutOfMemory)
    ⊎ LacksHere (g.H.Hooks.means c.args.hooks.now) c.args.table.now c.args.plan.now c.args.slots.now c.args.stack.now kind)
    (sym exit.2)
    (top_refused c.requires.is_open c.in-Some.top.0 c.in-Some.ensures.last c.requires.strict
    c.law_plan_lookups.ensures.agree c.law_plan_lookups.ensures.paths c.law_plan_reach.ensures.reached c.law_plan_reach.ensures.nodes c.requires.checked c.requires.plan c.requires.suits
    (g.H.Hooks.means c.args.hooks.now) c.in_err-complete_by_defaults.field-0.0 c.in_err-complete_by_defaults.ensures.why))

pub returns-then-not-whole-clause-finished : goal.returns-then-not-whole-clause-finished
returns-then-not-whole-clause-finished g c =
    (done_begun c.requires.is_open c.in-Some.top.0 c.in-Some.ensures.last c.requires.strict c.law_plan_lookups.ensures.agree
    c.law_plan_lookups.ensures.paths c.law_plan_reach.ensures.reached c.law_plan_reach.ensures.nodes c.requires.checked c.requires.plan c.requires.suits (g.H.Hooks.means c.args.hooks.now)
    c.complete_by_defaults.new.slots c.in_ok-complete_by_defaults.ensures.filled c.in_ok-complete_by_defaults.ensures.tracker
    c.if-not-whole.ensures).0

pub returns-then-not-whole-clause-strict : goal.returns-then-not-whole-clause-strict
returns-then-not-whole-clause-strict g c =
    (done_begun c.requires.is_open c.in-Some.top.0 c.in-Some.ensures.last c.requires.strict c.law_plan_lookups.ensures.agree
    c.law_plan_lookups.ensures.paths c.law_plan_reach.ensures.reached c.law_plan_reach.ensures.nodes c.requires.checked c.requires.plan c.requires.suits (g.H.Hooks.means c.args.hooks.now)
    c.complete_by_defaults.new.slots c.in_ok-complete_by_defaults.ensures.filled c.in_ok-complete_by_defaults.ensures.tracker
    c.if-not-whole.ensures).1

pub returns-in-Ok-clause-finished : goal.returns-in-Ok-clause-finished
returns-in-Ok-clause-finished g c =
    (done_whole c.requires.is_open c.in-Some.top.0 c.in-Some.ensures.last c.requires.strict c.law_plan_lookups.ensures.agree
    c.law_plan_lookups.ensures.paths c.law_plan_reach.ensures.reached c.law_plan_reach.ensures.nodes c.requires.checked c.requires.plan c.requires.suits (g.H.Hooks.means c.args.hooks.now)
    c.complete_by_defaults.new.slots c.in_ok-complete_by_defaults.ensures.filled c.hand_over.new.slots
    c.in-Ok.ensures.handed c.if-not-whole.ensures).0

pub returns-in-Ok-clause-strict : goal.returns-in-Ok-clause-strict
returns-in-Ok-clause-strict g c =
    (done_whole c.requires.is_open c.in-Some.top.0 c.in-Some.ensures.last c.requires.strict c.law_plan_lookups.ensures.agree
    c.law_plan_lookups.ensures.paths c.law_plan_reach.ensures.reached c.law_plan_reach.ensures.nodes c.requires.checked c.requires.plan c.requires.suits (g.H.Hooks.means c.args.hooks.now)
    c.complete_by_defaults.new.slots c.in_ok-complete_by_defaults.ensures.filled c.hand_over.new.slots
    c.in-Ok.ensures.handed c.if-not-whole.ensures).1

pub hand_over-requires-clause-room : goal.hand_over-requires-clause-room
hand_over-requires-clause-room g c =
    closed_room c.complete_by_defaults.new.slots c.in-Some.top.0 {ledger = c.args.ledger.now} c.requires.is_open c.requires.room
    c.complete_by_defaults.ensures.tokens refl c.complete_by_defaults.ensures.closed
