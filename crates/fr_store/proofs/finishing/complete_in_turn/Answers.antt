use Rattle.std.proofs.Common.{◌≡◌, ◌⊎◌, refl, subst, sym}
use Rattle.std.proofs.lemmas.Result.{err_from_is_err_and, on_ok_weaker}
use Rattle.fr_store.specs.Common.{IsLackingAt, ReflectErrorKind}
use Rattle.fr_store.proofs.MadeConversions.{none_by}
use Rattle.fr_store.proofs.Outcomes.{if_err_each}
use Rattle.fr_store.proofs.TurnedSlots.{convertible, due_in_use, has_turned, keeps_the_rest, may_be_completed, owned_first, refused, rest_above, turned_above, unconverted_why}
use Rattle.fr_store.proofs.TakenLaws.{closed_room, filled_valued}
use Rattle.fr_store.proofs.finishing.complete_in_turn.Goals as goal

pub complete_by_defaults-requires-clause-in_use : goal.complete_by_defaults-requires-clause-in_use
complete_by_defaults-requires-clause-in_use g c = due_in_use c.requires.is_open c.requires.due

pub complete_by_defaults-requires-clause-place : goal.complete_by_defaults-requires-clause-place
complete_by_defaults-requires-clause-place g c =
    may_be_completed c.requires.is_open c.requires.due c.law_plan_lookups.ensures.agree c.law_plan_lookups.ensures.paths
    c.law_plan_reach.ensures.reached c.law_plan_reach.ensures.nodes c.requires.checked c.requires.plan c.requires.suits

pub returns-in_err-complete_by_defaults-clause-why : goal.returns-in_err-complete_by_defaults-clause-why
returns-in_err-complete_by_defaults-clause-why g c =
    let exit = err_from_is_err_and c.from_residual.result c.from_residual.ensures.1 in
    rw exit.1 (subst (λ (kind : ReflectErrorKind). (kind ≡ ReflectErrorKind.OutOfMemory) ⊎ IsLackingAt
    (g.H.Hooks.means c.args.hooks.now) c.args.table.now c.args.plan.now c.args.slots.now c.args.stack.now c.args.place.0 kind)
    (sym exit.2) (refused c.requires.is_open c.requires.due c.law_plan_lookups.ensures.agree c.law_plan_lookups.ensures.paths
    c.law_plan_reach.ensures.reached c.law_plan_reach.ensures.nodes c.requires.checked c.requires.plan c.requires.suits (g.H.Hooks.means c.args.hooks.now) c.in_err-complete_by_defaults.field-0.0
    c.in_err-complete_by_defaults.ensures.why))

pub convert-requires-clause-complete : goal.convert-requires-clause-complete
convert-requires-clause-complete g c =
    filled_valued (g.H.Hooks.means c.args.hooks.now) c.args.table.now c.args.plan.now c.args.slots.now
    c.complete_by_defaults.new.slots c.args.place.0 c.in_ok-complete_by_defaults.ensures.filled

pub convert-requires-clause-source : goal.convert-requires-clause-source
convert-requires-clause-source g c =
    convertible c.requires.is_open c.requires.due c.law_plan_lookups.ensures.agree c.law_plan_lookups.ensures.paths
    c.law_plan_reach.ensures.reached c.law_plan_reach.ensures.nodes c.requires.checked c.requires.plan c.requires.suits (g.H.Hooks.means c.args.hooks.now) c.complete_by_defaults.new.slots c.in_ok-complete_by_defaults.ensures.filled (sym c.if-is_source.ensures)

pub convert-requires-clause-room : goal.convert-requires-clause-room
convert-requires-clause-room g c =
    closed_room c.complete_by_defaults.new.slots c.args.place.0 {ledger = c.args.ledger.now} c.requires.is_open c.requires.room
    c.complete_by_defaults.ensures.tokens refl c.complete_by_defaults.ensures.closed

pub returns-then-is_source-clause-turned : goal.returns-then-is_source-clause-turned
returns-then-is_source-clause-turned g c = on_ok_weaker c.convert.result (λ converted.
    turned_above c.requires.is_open c.requires.due c.law_plan_lookups.ensures.agree c.law_plan_lookups.ensures.paths
    c.law_plan_reach.ensures.reached c.law_plan_reach.ensures.nodes c.requires.checked c.requires.plan c.requires.suits (g.H.Hooks.means c.args.hooks.now) c.complete_by_defaults.new.slots c.in_ok-complete_by_defaults.ensures.filled (sym c.if-is_source.ensures) c.convert.new.slots converted) c.convert.ensures.converted

pub returns-then-is_source-clause-rest : goal.returns-then-is_source-clause-rest
returns-then-is_source-clause-rest g c = on_ok_weaker c.convert.result (λ converted.
    rest_above c.requires.is_open c.requires.due c.law_plan_lookups.ensures.agree c.law_plan_lookups.ensures.paths
    c.law_plan_reach.ensures.reached c.law_plan_reach.ensures.nodes c.requires.checked c.requires.plan c.requires.suits (g.H.Hooks.means c.args.hooks.now) c.complete_by_defaults.new.slots c.in_ok-complete_by_defaults.ensures.filled (sym c.if-is_source.ensures) c.convert.new.slots converted c.law_closing.ensures.completion
    c.law_closing.ensures.failures c.law_closing.ensures.finish c.law_closing.ensures.failures_off) c.convert.ensures.converted

pub returns-then-is_source-clause-why : goal.returns-then-is_source-clause-why
returns-then-is_source-clause-why g c = if_err_each c.convert.result (λ kind why.
    unconverted_why c.requires.is_open c.requires.due c.law_plan_lookups.ensures.agree c.law_plan_lookups.ensures.paths
    c.law_plan_reach.ensures.reached c.law_plan_reach.ensures.nodes c.requires.checked c.requires.plan c.requires.suits (g.H.Hooks.means c.args.hooks.now) c.complete_by_defaults.new.slots c.in_ok-complete_by_defaults.ensures.filled (sym c.if-is_source.ensures) kind why) c.convert.ensures.why

pub hand_over-requires-clause-may : goal.hand_over-requires-clause-may
hand_over-requires-clause-may g c =
    owned_first c.requires.is_open c.requires.due c.law_plan_lookups.ensures.agree c.law_plan_lookups.ensures.paths
    c.law_plan_reach.ensures.reached c.law_plan_reach.ensures.nodes c.requires.checked c.requires.plan c.requires.suits (g.H.Hooks.means c.args.hooks.now) c.complete_by_defaults.new.slots c.in_ok-complete_by_defaults.ensures.filled

pub hand_over-requires-clause-room : goal.hand_over-requires-clause-room
hand_over-requires-clause-room g c =
    closed_room c.complete_by_defaults.new.slots c.args.place.0 {ledger = c.args.ledger.now} c.requires.is_open c.requires.room
    c.complete_by_defaults.ensures.tokens refl c.complete_by_defaults.ensures.closed

pub hand_over-requires-clause-complete : goal.hand_over-requires-clause-complete
hand_over-requires-clause-complete g c =
    filled_valued (g.H.Hooks.means c.args.hooks.now) c.args.table.now c.args.plan.now c.args.slots.now
    c.complete_by_defaults.new.slots c.args.place.0 c.in_ok-complete_by_defaults.ensures.filled

pub returns-in-Ok-clause-turned : goal.returns-in-Ok-clause-turned
returns-in-Ok-clause-turned g c =
    has_turned c.requires.is_open c.requires.due c.law_plan_lookups.ensures.agree c.law_plan_lookups.ensures.paths
    c.law_plan_reach.ensures.reached c.law_plan_reach.ensures.nodes c.requires.checked c.requires.plan c.requires.suits (g.H.Hooks.means c.args.hooks.now) c.complete_by_defaults.new.slots c.in_ok-complete_by_defaults.ensures.filled c.hand_over.new.slots (none_by _ c.if-is_source.ensures) c.in-Ok.ensures.handed

pub returns-in-Ok-clause-rest : goal.returns-in-Ok-clause-rest
returns-in-Ok-clause-rest g c =
    keeps_the_rest c.requires.is_open c.requires.due c.law_plan_lookups.ensures.agree c.law_plan_lookups.ensures.paths
    c.law_plan_reach.ensures.reached c.law_plan_reach.ensures.nodes c.requires.checked c.requires.plan c.requires.suits (g.H.Hooks.means c.args.hooks.now) c.complete_by_defaults.new.slots c.in_ok-complete_by_defaults.ensures.filled c.hand_over.new.slots (none_by _ c.if-is_source.ensures) c.in-Ok.ensures.handed c.law_closing.ensures.completion
    c.law_closing.ensures.failures c.law_closing.ensures.finish c.law_closing.ensures.failures_off
