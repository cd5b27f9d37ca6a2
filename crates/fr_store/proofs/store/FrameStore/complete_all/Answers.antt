use Rattle.fr_store.proofs.FinishedLaws.{came_by_turns, held_here, is_finished, nothing_left, stopped_here}
use Rattle.fr_store.proofs.Outcomes.{or_so}
use Rattle.fr_store.proofs.HeldOrReleased.{conserved_on}
use Rattle.fr_store.proofs.TakenLaws.{room_still}
use Rattle.fr_store.proofs.store.FrameStore.complete_all.Goals as goal

pub complete_top-requires-clause-strict : goal.complete_top-requires-clause-strict
complete_top-requires-clause-strict g c = nothing_left c.in-Ok.ensures.walked

pub returns-in-Ok-complete_top-clause-finished : goal.returns-in-Ok-complete_top-clause-finished
returns-in-Ok-complete_top-clause-finished g c =
    is_finished c.in-Ok.ensures.walked c.in-Ok-complete_top.ensures.finished c.law_failing.ensures.done

pub returns-in-Ok-complete_top-clause-turns : goal.returns-in-Ok-complete_top-clause-turns
returns-in-Ok-complete_top-clause-turns g c = came_by_turns c.in-Ok.ensures.walked c.in-Ok-complete_top.ensures.finished

pub returns-clause-why : goal.returns-clause-why
returns-clause-why g c =
    or_so c.in-Err-complete_top.ensures.why (λ lacks.
    held_here c.in-Ok.ensures.walked c.law_failing.ensures.refuses c.law_failing.ensures.nothing c.requires.is_open lacks)

pub returns-clause-stopped : goal.returns-clause-stopped
returns-clause-stopped g c =
    or_so c.in-Err-complete_top.ensures.why (λ lacks.
    stopped_here c.in-Ok.ensures.walked c.law_failing.ensures.refuses c.law_failing.ensures.nothing c.requires.is_open lacks)

pub complete_top-requires-clause-room : goal.complete_top-requires-clause-room
complete_top-requires-clause-room g c =
    room_still c.requires.is_open c.in-Ok.ensures.walked.still c.complete_in_order.ensures.conserved c.requires.room

pub returns-in-Ok-complete_top-clause-conserved : goal.returns-in-Ok-complete_top-clause-conserved
returns-in-Ok-complete_top-clause-conserved g c = conserved_on c.complete_in_order.ensures.conserved c.complete_top.ensures.conserved

pub returns-clause-conserved : goal.returns-clause-conserved
returns-clause-conserved g c = conserved_on c.complete_in_order.ensures.conserved c.complete_top.ensures.conserved

pub take_walk-walk-requires-clause-is_open : goal.take_walk-walk-requires-clause-is_open
take_walk-walk-requires-clause-is_open g c = record { plan = c.args.plan.now; is_open = c.requires.is_open }
