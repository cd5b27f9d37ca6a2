use Rattle.std.proofs.Common.{inl, inr}
use Rattle.fr_moves.specs.Common.{Rules, mode_of, top_place}
use Rattle.fr_moves.proofs.BeneathLaws.{beneath, held_up_here, IsBeneath}
use Rattle.fr_moves.proofs.EndingLaws.{holds, if_err, may_complete, on_both}
use Rattle.fr_moves.proofs.EndOfDeferred.{suits_root}
use Rattle.fr_moves.specs.StateLaws.{below_start}
use Rattle.fr_moves.specs.WorkLaws.{room_tree}
use Rattle.fr_moves.proofs.ending.complete_wholly.Given.{Over}
use Rattle.fr_moves.proofs.ending.complete_wholly.Goals as goal
use Rattle.fr_moves.proofs.ending.complete_wholly.Goals.{In-Some}

pub complete_beneath-requires-clause-suits : goal.complete_beneath-requires-clause-suits
complete_beneath-requires-clause-suits g c = suits_root c.law_plan_lookups.ensures.paths c.requires.at_work

pub complete_beneath-requires-clause-room : goal.complete_beneath-requires-clause-room
complete_beneath-requires-clause-room g c =
    room_tree c.args.frames.now c.requires.at_work.ready.shown c.args.ledger.now c.requires.room

pub returns-in-Err-clause-why : goal.returns-in-Err-clause-why
returns-in-Err-clause-why g c =
    elim c.in-Err.ensures.why [
      | inl memory ↦ inl memory
      | inr held ↦ inr
          (held_up_here c.law_plan_lookups.ensures.paths c.requires.at_work (g.H.Hooks.means c.args.hooks.now) _ held)
    ]

-- the place on top, once all beneath it is completed
below : (g : Over) (c : In-Some g) → IsBeneath (g.H.Hooks.means c.args.hooks.now) c.args.plan.now c.args.frames.now
    (record c.args.frames.now { slots = c.complete_beneath.new.slots; store = c.complete_beneath.new.self }) c.in-Some.top.0
below g c =
    beneath c.law_plan_lookups.ensures.paths c.requires.at_work (g.H.Hooks.means c.args.hooks.now)
    c.law_plan_lookups.ensures.agree c.law_plan_reach.ensures.reached c.law_plan_reach.ensures.nodes c.in-Ok.ensures.completed c.complete_beneath.new.self c.in-Ok.ensures.kept
    ((below_start (mode_of c.args.frames.now.mode) (top_place c.args.frames.now) c.requires.deferred).1 _) c.in-Some.ensures.last

pub complete_by_defaults-requires-clause-place : goal.complete_by_defaults-requires-clause-place
complete_by_defaults-requires-clause-place g c =
    may_complete (below g (goal.at.complete_by_defaults-requires-clause-place g c).In-Some).top

pub returns-clause-completed : goal.returns-clause-completed
returns-clause-completed g c =
    let at = below g (goal.at.returns-clause-completed g c).In-Some in
    on_both c.complete_by_defaults.result (λ filled tracker. at.holds _
    (holds at.top Rules.Deferred (g.H.Hooks.means c.args.hooks.now) c.complete_by_defaults.new.slots filled tracker))
    c.complete_by_defaults.ensures.filled c.complete_by_defaults.ensures.tracker

pub returns-clause-why : goal.returns-clause-why
returns-clause-why g c =
    if_err c.complete_by_defaults.result (below g (goal.at.returns-clause-why g c).In-Some).why c.complete_by_defaults.ensures.why
