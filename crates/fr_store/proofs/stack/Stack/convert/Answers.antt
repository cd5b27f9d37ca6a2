use Rattle.std.proofs.lemmas.Result.{on_ok_weaker}
use Rattle.fr_store.specs.Common.{Taker}
use Rattle.fr_store.proofs.ConvertUp.{converted_up, convertible, stays_converted, unconverted}
use Rattle.fr_store.proofs.ValuesHandedOver.{room_on_top}
use Rattle.fr_store.proofs.Outcomes.{if_err_each}
use Rattle.fr_store.proofs.stack.Stack.convert.Goals as goal

pub convert-requires-clause-complete : goal.convert-requires-clause-complete
convert-requires-clause-complete g c = c.requires.complete c.in-Some.place.0 (c.pop.new.self, c.in-Some.ensures.last)

pub convert-requires-clause-source : goal.convert-requires-clause-source
convert-requires-clause-source g c =
    convertible c.requires.is_open c.requires.below c.pop.new.self c.in-Some.place.0 c.in-Some.ensures.last
    c.law_plan_lookups.ensures.agree c.law_plan_lookups.ensures.paths c.law_plan_reach.ensures.reached c.law_plan_reach.ensures.nodes
    c.requires.checked c.requires.plan c.requires.suits c.requires.source

pub convert-requires-clause-room : goal.convert-requires-clause-room
convert-requires-clause-room g c =
    room_on_top c.requires.is_open Taker.Above c.pop.new.self c.in-Some.place.0 c.in-Some.ensures.last c.requires.complete
    c.args.ledger.now c.requires.room

pub returns-clause-converted : goal.returns-clause-converted
returns-clause-converted g c = on_ok_weaker c.convert.result (λ result.
    converted_up c.requires.is_open c.requires.below c.pop.new.self c.in-Some.place.0 c.in-Some.ensures.last
    c.law_plan_lookups.ensures.agree c.law_plan_lookups.ensures.paths c.law_plan_reach.ensures.reached c.law_plan_reach.ensures.nodes
    c.requires.checked c.requires.plan c.requires.suits c.requires.source (g.H.Hooks.means c.args.hooks.now) c.convert.new.slots result) c.convert.ensures.converted

pub returns-clause-places : goal.returns-clause-places
returns-clause-places g c = on_ok_weaker c.convert.result (λ result. (stays_converted
    c.requires.is_open c.requires.below c.pop.new.self c.in-Some.place.0 c.in-Some.ensures.last
    c.law_plan_lookups.ensures.agree c.law_plan_lookups.ensures.paths c.law_plan_reach.ensures.reached c.law_plan_reach.ensures.nodes
    c.requires.checked c.requires.plan c.requires.suits c.requires.source (g.H.Hooks.means c.args.hooks.now) c.convert.new.slots result c.requires.complete).0) c.convert.ensures.converted

pub returns-clause-marks : goal.returns-clause-marks
returns-clause-marks g c = on_ok_weaker c.convert.result (λ result. (stays_converted
    c.requires.is_open c.requires.below c.pop.new.self c.in-Some.place.0 c.in-Some.ensures.last
    c.law_plan_lookups.ensures.agree c.law_plan_lookups.ensures.paths c.law_plan_reach.ensures.reached c.law_plan_reach.ensures.nodes
    c.requires.checked c.requires.plan c.requires.suits c.requires.source (g.H.Hooks.means c.args.hooks.now) c.convert.new.slots result c.requires.complete).1) c.convert.ensures.converted

pub returns-clause-why : goal.returns-clause-why
returns-clause-why g c = if_err_each c.convert.result (λ kind why.
    unconverted c.requires.is_open c.requires.below c.pop.new.self c.in-Some.place.0 c.in-Some.ensures.last
    c.law_plan_lookups.ensures.agree c.law_plan_lookups.ensures.paths c.law_plan_reach.ensures.reached c.law_plan_reach.ensures.nodes
    c.requires.checked c.requires.plan c.requires.suits c.requires.source (g.H.Hooks.means c.args.hooks.now) kind why) c.convert.ensures.why
