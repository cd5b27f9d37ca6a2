use Rattle.std.proofs.Common.{ℕ, List, refl, get_or, subst}
use Rattle.std.proofs.lemmas.List.{drop_all}
use Rattle.fr_store.proofs.BeneathTurns.{WalkedBeneath, beneath_begins, beneath_complete, beneath_due, beneath_goes_on, beneath_held_up, beneath_kept, beneath_marked, beneath_next, beneath_stays}
use Rattle.fr_store.proofs.Outcomes.{or_so}
use Rattle.fr_store.proofs.HeldOrReleased.{conserved_on, conserved_same}
use Rattle.fr_store.proofs.TakenLaws.{room_still}
use Rattle.fr_store.proofs.store.FrameStore.complete_in_order_beneath.Goals as goal

pub loop-place-init : goal.loop-place-init
loop-place-init g c = record {
  walked = beneath_begins c.requires.is_open c.requires.suits c.requires.walk;
  kept = c.requires.kept;
  conserved = conserved_same (λ t. refl) refl;
}

pub complete_in_turn-requires-clause-due : goal.complete_in_turn-requires-clause-due
complete_in_turn-requires-clause-due g c =
    beneath_due c.requires.is_open
    (beneath_next c.args.walk.now c.loop-place.place-index c.loop-place-test.true c.loop-place.invariant.walked)

pub complete_in_turn-requires-clause-room : goal.complete_in_turn-requires-clause-room
complete_in_turn-requires-clause-room g c =
    room_still c.requires.is_open c.loop-place.invariant.walked.still c.loop-place.invariant.conserved c.requires.room

pub remove-requires : goal.remove-requires
remove-requires g c =
    (c.loop-place.invariant.kept (get_or c.args.walk.now c.loop-place.place-index 0)).0 (beneath_marked c.requires.is_open
    (beneath_next c.args.walk.now c.loop-place.place-index c.loop-place-test.true c.loop-place.invariant.walked))

pub returns-in-Err-clause-why : goal.returns-in-Err-clause-why
returns-in-Err-clause-why g c =
    or_so c.in-Err.ensures.why (λ lacks. beneath_held_up c.requires.is_open
    (beneath_next c.args.walk.now c.loop-place.place-index c.loop-place-test.true c.loop-place.invariant.walked)
    c.law_failing.ensures.places c.law_failing.ensures.lacking c.law_closing.ensures.failures_off c.law_failing.ensures.first c.law_completes.ensures.or_fails lacks)

pub returns-in-Err-clause-conserved : goal.returns-in-Err-clause-conserved
returns-in-Err-clause-conserved g c = conserved_on c.loop-place.invariant.conserved c.in-Err.ensures.conserved

pub loop-place-preserved : goal.loop-place-preserved
loop-place-preserved g c =
    let walked = beneath_next c.args.walk.now c.loop-place.place-index c.loop-place-test.true c.loop-place.invariant.walked in
    record {
      walked =
          beneath_goes_on c.requires.is_open walked c.in-Ok.ensures.turned c.law_completes.ensures.fits
          (c.law_hooks.ensures.lawful c.args.hooks.now) c.requires.checked c.law_closing.ensures.finish
          c.law_closing.ensures.completion c.in-Ok.ensures.rest;
      kept =
          beneath_kept c.requires.is_open walked c.in-Ok.ensures.turned c.loop-place.self c.remove.new.self
          c.loop-place.invariant.kept c.remove.ensures.rest;
      conserved = conserved_on c.loop-place.invariant.conserved c.in-Ok.ensures.conserved;
    }

pub returns-clause-completed : goal.returns-clause-completed
returns-clause-completed g c =
    beneath_complete c.requires.is_open (subst
    (λ (rest : List ℕ). WalkedBeneath (g.H.Hooks.means c.args.hooks.now) c.args.table.now c.args.plan.now c.args.slots.now
    c.args.stack.now c.loop-place.slots rest) (drop_all c.loop-place.place-index c.args.walk.now c.loop-place-test.false)
    c.loop-place.invariant.walked)

pub returns-clause-others : goal.returns-clause-others
returns-clause-others g c = beneath_stays c.requires.is_open c.loop-place.invariant.walked
