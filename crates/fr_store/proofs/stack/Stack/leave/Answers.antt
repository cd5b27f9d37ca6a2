use Rattle.fr_store.specs.Common.{top_in_use}
use Rattle.fr_store.proofs.StoreLaws.{open_left, taken_off, top_unmarked}
use Rattle.fr_store.proofs.stack.Stack.leave.Goals as goal

pub insert-requires-clause-in_use : goal.insert-requires-clause-in_use
insert-requires-clause-in_use c = top_in_use c.requires.is_open.is_open c.in-Some.ensures.last

pub insert-requires-clause-unmarked : goal.insert-requires-clause-unmarked
insert-requires-clause-unmarked c = top_unmarked c.requires.is_open.is_open c.in-Some.ensures.last

pub returns-clause-left : goal.returns-clause-left
returns-clause-left c plan is_open =
    (open_left c.insert.new.slots c.pop.new.self is_open c.requires.below c.requires.not_item
    c.in-Some.place.0 (taken_off c.pop.new.self c.pop.result c.in-Some.ensures.last c.pop.ensures.last c.pop.ensures.none)
    c.in_ok-insert.ensures.marked).0

pub returns-clause-places : goal.returns-clause-places
returns-clause-places c =
    (open_left c.insert.new.slots c.pop.new.self c.requires.is_open.is_open c.requires.below c.requires.not_item
    c.in-Some.place.0 (taken_off c.pop.new.self c.pop.result c.in-Some.ensures.last c.pop.ensures.last c.pop.ensures.none)
    c.in_ok-insert.ensures.marked).1
