use Rattle.std.proofs.Common.{Ok, inl, inr, refl, sym, ap, ◌∙◌, subst}
use Rattle.fr_moves.specs.Common.{Conserved_same, IsAtWork, Plan, State, slots_tokens}
use Rattle.fr_moves.proofs.EndOfDeferred.{ended_is, ends, held_up, sound_ended, suits_root}
use Rattle.fr_moves.specs.RemovedLaws.{all_released}
use Rattle.fr_moves.specs.WorkLaws.{room_tree}
use Rattle.fr_moves.proofs.deferring.finish.Given.{Over}
use Rattle.fr_moves.proofs.deferring.finish.Goals as goal
use Rattle.fr_moves.proofs.deferring.finish.Goals.{After-core-plan}

-- the open places by the plan that was taken out
at_work : (g : Over) (c : After-core-plan g) → IsAtWork c.core-plan.result.now c.args.parts.now.frames
at_work g c = subst (λ (p : Plan). IsAtWork p c.args.parts.now.frames) (sym c.core-plan.ensures.plan) c.requires.sound.at_work

pub finish-requires-clause-suits : goal.finish-requires-clause-suits
finish-requires-clause-suits g c =
    suits_root c.law_plan_lookups.ensures.paths (at_work g (goal.at.finish-requires-clause-suits g c).After-core-plan)

pub finish-requires-clause-room : goal.finish-requires-clause-room
finish-requires-clause-room g c =
    room_tree c.args.parts.now.frames c.requires.sound.at_work.ready.shown c.args.ledger.now c.requires.room

pub returns-in-Ok-clause-sound : goal.returns-in-Ok-clause-sound
returns-in-Ok-clause-sound g c =
    sound_ended c.law_plan_lookups.ensures.paths (g.H.Hooks.means c.args.hooks.now) c.args.parts.now
    (at_work g (goal.at.returns-in-Ok-clause-sound g c).After-core-plan) c.in-Ok.ensures.finished c.law_well.ensures.in_order
    c.law_well.ensures.rests c.law_well.ensures.conversions c.law_paths.ensures.finish (c.law_hooks.ensures.lawful c.args.hooks.now) c.requires.sound c.requires.meant c.core-plan.ensures.plan
    c.finish.ensures.empty c.finish.ensures.strict c.saturating_add-parts.ensures

pub returns-in-Ok-clause-moved : goal.returns-in-Ok-clause-moved
returns-in-Ok-clause-moved g c =
    let work = at_work g (goal.at.returns-in-Ok-clause-moved g c).After-core-plan in (
      ends c.law_plan_lookups.ensures.paths (g.H.Hooks.means c.args.hooks.now) c.args.parts.now work c.in-Ok.ensures.finished
          ∙ ap (λ (next : State). Ok next) (sym
          (ended_is c.law_plan_lookups.ensures.paths (g.H.Hooks.means c.args.hooks.now) c.args.parts.now work
          c.in-Ok.ensures.finished c.saturating_add-parts.ensures)),
      refl,
      refl,
      refl,
    )

pub returns-in-Err-clause-moved : goal.returns-in-Err-clause-moved
returns-in-Err-clause-moved g c =
    elim c.in-Err.ensures.why [
      | inl memory ↦ inl memory
      | inr held ↦ inr (held_up c.law_plan_lookups.ensures.paths (g.H.Hooks.means c.args.hooks.now) c.args.parts.now
          (at_work g (goal.at.returns-in-Err-clause-moved g c).After-core-plan) c.in-Err.kind held)
    ]

pub returns-in-Err-clause-tokens : goal.returns-in-Err-clause-tokens
returns-in-Err-clause-tokens g c =
    Conserved_same _ _ _ _ _ _ (λ t. sym (slots_tokens c.requires.sound.at_work.ready.shown t))
    (λ t. sym (c.in-Err.ensures.emptied t)) (all_released _ _ _ c.in-Err.ensures.released)
