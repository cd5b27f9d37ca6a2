use Rattle.std.proofs.Common.{refl, sym, ◌∙◌}
use Rattle.fr_moves.specs.Common.{State, changed, cursor_tree, no_hooks, shape_at, site}
use Rattle.fr_shape.specs.HookLaws.{no_hooks_are_lawful}
use Rattle.fr_moves.specs.StateLaws.{made_moved, sound_moved}
use Rattle.fr_moves.proofs.staying.stay.Goals as goal

pub change_top-requires-clause-may : goal.change_top-requires-clause-may
change_top-requires-clause-may c = c.requires.meant.1.may

pub returns-in-Ok-clause-sound : goal.returns-in-Ok-clause-sound
returns-in-Ok-clause-sound c =
    let state : State = (site c.args.parts.now).state in
    sound_moved c.requires.sound c.core.ensures.plan c.in-Ok.ensures.changed c.saturating_add-parts.ensures
    c.law_well.ensures.in_order c.law_well.ensures.rests c.law_well.ensures.conversions no_hooks no_hooks_are_lawful c.requires.meant refl c.args.parts.now.path
    (c.requires.sound.path ∙ sym (c.law_paths.ensures.change state
    (changed c.args.parts.now.frames.table.now (shape_at (site c.args.parts.now)) state.mode (cursor_tree state) c.args.change)))

pub returns-in-Ok-clause-moved : goal.returns-in-Ok-clause-moved
returns-in-Ok-clause-moved c =
    made_moved c.requires.sound c.core.ensures.plan c.in-Ok.ensures.changed c.saturating_add-parts.ensures (tt {0})
    c.args.parts.now.path refl

pub returns-in-Err-clause-memory : goal.returns-in-Err-clause-memory
returns-in-Err-clause-memory c none =
    let done = c.change_top.ensures.memory none in
    let no = rw c.in-Err.is at done in
    cc
