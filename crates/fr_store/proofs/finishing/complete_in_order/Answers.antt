use Rattle.std.proofs.Common.{refl}
use Rattle.fr_store.proofs.Outcomes.{or_so}
use Rattle.fr_store.proofs.WalkedLaws.{head_due, walk_begins, walk_goes_on, walk_held_up, walk_next, walk_stopped}
use Rattle.fr_store.proofs.TakenLaws.{room_still}
use Rattle.fr_store.proofs.HeldOrReleased.{conserved_on, conserved_same}
use Rattle.fr_store.proofs.finishing.complete_in_order.Goals as goal

pub loop-place-init : goal.loop-place-init
loop-place-init g c = record {
  walked = walk_begins c.requires.is_open c.requires.suits c.requires.walk;
  conserved = conserved_same (λ t. refl) refl;
}

pub complete_in_turn-requires-clause-due : goal.complete_in_turn-requires-clause-due
complete_in_turn-requires-clause-due g c =
    head_due (walk_next c.args.walk.now c.loop-place.place-index c.loop-place-test.true c.loop-place.invariant.walked)

pub returns-in-Err-clause-why : goal.returns-in-Err-clause-why
returns-in-Err-clause-why g c =
    or_so c.in-Err.ensures.why (λ lacks.
    walk_held_up (walk_next c.args.walk.now c.loop-place.place-index c.loop-place-test.true c.loop-place.invariant.walked)
    lacks c.law_failing.ensures.places c.law_failing.ensures.lacking c.law_closing.ensures.failures_off
    c.law_completes.ensures.or_fails c.law_failing.ensures.first c.law_failing.ensures.refuses c.requires.is_open)

pub returns-in-Err-clause-stopped : goal.returns-in-Err-clause-stopped
returns-in-Err-clause-stopped g c =
    or_so c.in-Err.ensures.why (λ lacks.
    walk_stopped (walk_next c.args.walk.now c.loop-place.place-index c.loop-place-test.true c.loop-place.invariant.walked) lacks)

pub loop-place-preserved : goal.loop-place-preserved
loop-place-preserved g c = record {
  walked =
      walk_goes_on (walk_next c.args.walk.now c.loop-place.place-index c.loop-place-test.true c.loop-place.invariant.walked)
      c.law_completes.ensures.fits (c.law_hooks.ensures.lawful c.args.hooks.now) c.requires.checked c.in-Ok.ensures.turned c.in-Ok.ensures.rest;
  conserved = conserved_on c.loop-place.invariant.conserved c.complete_in_turn.ensures.conserved;
}

pub complete_in_turn-requires-clause-room : goal.complete_in_turn-requires-clause-room
complete_in_turn-requires-clause-room g c =
    room_still c.requires.is_open c.loop-place.invariant.walked.still c.loop-place.invariant.conserved c.requires.room

pub returns-in-Err-clause-conserved : goal.returns-in-Err-clause-conserved
returns-in-Err-clause-conserved g c = conserved_on c.loop-place.invariant.conserved c.complete_in_turn.ensures.conserved
