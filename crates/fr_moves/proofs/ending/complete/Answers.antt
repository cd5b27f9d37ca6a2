use Rattle.fr_moves.specs.Common.{shape_at, site}
use Rattle.fr_moves.proofs.HandingLaws.{is_meant, needed_none, path_then, refused_first}
use Rattle.fr_moves.specs.StateLaws.{made_moved, sound_moved}
use Rattle.fr_moves.proofs.ending.complete.Goals as goal

pub returns-in-Ok-clause-sound : goal.returns-in-Ok-clause-sound
returns-in-Ok-clause-sound g c =
    let before = site c.args.parts.now in
    sound_moved c.requires.sound c.core-plan.ensures.plan c.in-Ok.ensures.completed.handed c.saturating_add-parts.ensures
    c.law_well.ensures.in_order c.law_well.ensures.rests c.law_well.ensures.conversions (g.H.Hooks.means c.args.hooks.now)
    (c.law_hooks.ensures.lawful c.args.hooks.now) c.requires.meant
    (is_meant c.args.rules c.args.taker (g.H.Hooks.means c.args.hooks.now) before.shapes (shape_at before) before.state _
    c.in-Ok.ensures.completed.meant) c.go_back.new.path
    (path_then before.state c.requires.sound.path c.law_paths.ensures.change c.law_paths.ensures.leave c.law_paths.ensures.deep
    c.args.taker c.in-Ok.ensures.completed.value c.requires.meant.1.may.1 c.go_back.ensures)

pub returns-in-Ok-clause-moved : goal.returns-in-Ok-clause-moved
returns-in-Ok-clause-moved g c =
    let before = site c.args.parts.now in
    made_moved c.requires.sound c.core-plan.ensures.plan c.in-Ok.ensures.completed.handed c.saturating_add-parts.ensures (tt {0})
    c.go_back.new.path
    (is_meant c.args.rules c.args.taker (g.H.Hooks.means c.args.hooks.now) before.shapes (shape_at before) before.state _
    c.in-Ok.ensures.completed.meant)

pub returns-in-Err-clause-refused : goal.returns-in-Err-clause-refused
returns-in-Err-clause-refused g c late refused passes wanted =
    refused_first (g.H.Hooks.means c.args.hooks.now) _ _ (site c.args.parts.now).state wanted c.args.rules c.args.taker passes
    c.in-Err.ensures.why late refused

pub returns-in-Err-clause-memory : goal.returns-in-Err-clause-memory
returns-in-Err-clause-memory g c none passes wanted =
    needed_none (g.H.Hooks.means c.args.hooks.now) _ _ (site c.args.parts.now).state wanted c.args.rules c.args.taker passes
    c.in-Err.ensures.why none
