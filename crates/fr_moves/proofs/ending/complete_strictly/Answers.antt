use Rattle.fr_moves.specs.Common.{Rules}
use Rattle.fr_moves.proofs.EndingLaws.{holds, if_err, in_use, may_complete, on_both, strict_top, why_here, IsTop}
use Rattle.fr_moves.proofs.ending.complete_strictly.Given.{Over}
use Rattle.fr_moves.proofs.ending.complete_strictly.Goals as goal
use Rattle.fr_moves.proofs.ending.complete_strictly.Goals.{In-Some}

top : (g : Over) (c : In-Some g) → IsTop c.args.plan.now c.args.frames.now c.in-Some.top.0
top g c =
    strict_top c.law_plan_lookups.ensures.agree c.law_plan_lookups.ensures.paths c.law_plan_reach.ensures.reached c.law_plan_reach.ensures.nodes c.requires.at_work c.requires.strict
    c.in-Some.ensures.last

pub fill_and_require_fields-requires-clause-in_use : goal.fill_and_require_fields-requires-clause-in_use
fill_and_require_fields-requires-clause-in_use g c =
    in_use (top g (goal.at.fill_and_require_fields-requires-clause-in_use g c).In-Some)

pub fill_and_require_fields-requires-clause-place : goal.fill_and_require_fields-requires-clause-place
fill_and_require_fields-requires-clause-place g c =
    may_complete (top g (goal.at.fill_and_require_fields-requires-clause-place g c).In-Some)

pub returns-clause-completed : goal.returns-clause-completed
returns-clause-completed g c =
    on_both c.fill_and_require_fields.result
    (holds (top g (goal.at.returns-clause-completed g c).In-Some) Rules.Strict (g.H.Hooks.means c.args.hooks.now)
    c.fill_and_require_fields.new.slots) c.fill_and_require_fields.ensures.filled c.fill_and_require_fields.ensures.tracker

pub returns-clause-why : goal.returns-clause-why
returns-clause-why g c =
    if_err c.fill_and_require_fields.result
    (why_here (top g (goal.at.returns-clause-why g c).In-Some) (g.H.Hooks.means c.args.hooks.now))
    c.fill_and_require_fields.ensures.why
