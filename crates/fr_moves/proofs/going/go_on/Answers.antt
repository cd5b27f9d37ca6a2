use Rattle.std.proofs.Common.{List, [], ◌∷◌, ◌++◌, refl, sym, ap, ◌∙◌, subst}
use Rattle.fr_moves.specs.Common.{Parts, PathStep, State, Table, cursor_tree, def_of, no_hooks, onward, shape_at, site, Plan, plan_in}
use Rattle.fr_model.specs.PathLaws.{step_on}
use Rattle.fr_shape.specs.HookLaws.{no_hooks_are_lawful}
use Rattle.fr_moves.specs.SuitLaws.{suits_here}
use Rattle.fr_moves.proofs.GoingLaws.{admitted, step_is}
use Rattle.fr_moves.specs.StateLaws.{order, site_moved, sound_moved, well_after}
use Rattle.fr_moves.proofs.going.go_on.Goals as goal
use Rattle.fr_moves.proofs.SourcedLaws.{way_sourced}
use Rattle.fr_moves.specs.Moving.{gone, IsSourcedOn}

pub enter-requires-clause-may : goal.enter-requires-clause-may
enter-requires-clause-may c = c.requires.meant.1.may

-- the call leads to a state in which each conversion suits its place
pub enter-requires-clause-sourced : goal.enter-requires-clause-sourced
enter-requires-clause-sourced c =
    let parts : Parts = c.args.parts.now in
    let meant = c.requires.meant in
    let next = gone parts.frames.table.now (shape_at (site parts)) (site parts).state c.args.way in
    let well =
    well_after c.requires.sound c.law_well.ensures.in_order c.law_well.ensures.rests c.law_well.ensures.conversions no_hooks
    no_hooks_are_lawful next meant.0 meant.1.fitting (meant.1.means no_hooks) in
    subst (λ (plan : Plan). IsSourcedOn plan c.args.way) (sym c.core.ensures.plan)
    (way_sourced c.law_plan_lookups.ensures.agree c.law_plan_lookups.ensures.paths c.law_plan_reach.ensures.reached
    c.law_plan_reach.ensures.nodes parts.frames.table.now parts.frames.root (plan_in parts.plan) parts.frames.slots
    parts.frames.stack c.requires.sound.at_work.ready c.args.way meant.1.may well.conversions)

pub returns-clause-sound : goal.returns-clause-sound
returns-clause-sound c =
    let parts : Parts = c.args.parts.now in
    let state : State = (site parts).state in
    let table : Table = parts.frames.table.now in
    let ordered = order c.requires.sound in
    let suits = suits_here (site parts) ordered in
    let may = c.requires.meant.1.may in
    let here = cursor_tree state in
    let s = shape_at (site parts) in
    sound_moved c.requires.sound c.core.ensures.plan c.in_ok-enter.ensures.entered c.saturating_add-parts.ensures
    c.law_well.ensures.in_order c.law_well.ensures.rests c.law_well.ensures.conversions no_hooks no_hooks_are_lawful c.requires.meant refl c.push.new.self
    (c.in_ok-push.ensures.appended ∙ ap (λ (step : PathStep). parts.path ++ step ∷ [])
    (c.in_ok-step.ensures.step ∙ sym (step_is table s here suits c.args.way may))
    ∙ ap (λ (steps : List PathStep). steps ++ step_on (def_of table s) here (onward c.args.way here) ∷ []) c.requires.sound.path
    ∙ sym (c.law_paths.ensures.enter_way table parts.frames.root.0 state (onward c.args.way here) ordered
    (admitted table s here suits c.args.way may)))

pub returns-clause-moved : goal.returns-clause-moved
returns-clause-moved c =
    site_moved c.requires.sound c.core.ensures.plan c.in_ok-enter.ensures.entered c.saturating_add-parts.ensures c.push.new.self
