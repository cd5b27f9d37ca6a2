use Rattle.std.proofs.lemmas.Result.{on_ok_weaker}
use Rattle.fr_store.specs.Common.{as_tracker, top_in_use}
use Rattle.fr_store.proofs.BeginningTops.{open_begun, stay_begun}
use Rattle.fr_store.proofs.Outcomes.{either_way, on_ok_each}
use Rattle.fr_store.proofs.PlacesBeside.{stay_refused}
use Rattle.fr_store.proofs.stack.Stack.begin.Goals as goal

pub begin-requires-clause-in_use : goal.begin-requires-clause-in_use
begin-requires-clause-in_use c = top_in_use c.requires.is_open.is_open c.in-Some.ensures.last

pub returns-clause-begun : goal.returns-clause-begun
returns-clause-begun c = on_ok_each _ c.begin.result (λ plan is_open.
    on_ok_weaker c.begin.result (λ shows. open_begun c.begin.new.slots is_open c.in-Some.ensures.last
    (as_tracker c.args.tracker) c.args.count c.requires.may_have c.requires.base shows) c.begin.ensures.begun)

pub returns-clause-places : goal.returns-clause-places
returns-clause-places c =
    either_way c.begin.result (λ shows. stay_begun c.begin.new.slots
    c.requires.is_open.is_open c.in-Some.ensures.last (as_tracker c.args.tracker) c.args.count c.requires.may_have c.requires.base shows)
    (λ shows. stay_refused c.begin.new.slots c.requires.is_open.is_open shows) c.begin.ensures.begun c.begin.ensures.refused
