use Rattle.fr_moves.specs.Common.{Room_conserved}
use Rattle.fr_moves.proofs.HandingLaws.{completed, may_receive, not_handed}
use Rattle.fr_moves.specs.StateLaws.{open_then}
use Rattle.fr_moves.proofs.ending.complete_here.Goals as goal

pub hand_over-requires-clause-are_open : goal.hand_over-requires-clause-are_open
hand_over-requires-clause-are_open g c =
    record { plan = c.args.plan.now; are_open = open_then c.in_ok-complete_top.ensures.completed.changed }

pub hand_over-requires-clause-may : goal.hand_over-requires-clause-may
hand_over-requires-clause-may g c = may_receive c.in_ok-complete_top.ensures.completed c.args.taker c.requires.may

pub hand_over-requires-clause-room : goal.hand_over-requires-clause-room
hand_over-requires-clause-room g c = Room_conserved _ _ _ _ c.complete_top.ensures.tokens c.requires.room

pub returns-in-Ok-clause-completed : goal.returns-in-Ok-clause-completed
returns-in-Ok-clause-completed g c =
    completed c.in_ok-complete_top.ensures.completed c.args.taker c.requires.may
    (c.in-Ok.ensures.handed c.args.plan.now (open_then c.in_ok-complete_top.ensures.completed.changed))

pub returns-in-Err-clause-why : goal.returns-in-Err-clause-why
returns-in-Err-clause-why g c = not_handed c.in_ok-complete_top.ensures.completed c.in-Err.is c.hand_over.ensures.memory
