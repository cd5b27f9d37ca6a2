use Rattle.fr_moves.specs.Common.{site}
use Rattle.fr_moves.proofs.ConvertLaws.{ends_not, ends_so, refused_first}
use Rattle.fr_moves.proofs.HandingLaws.{path_raised}
use Rattle.fr_moves.specs.StateLaws.{made_moved, sound_moved}
use Rattle.fr_moves.proofs.converting.convert_up.Goals as goal

pub returns-in-Ok-clause-sound : goal.returns-in-Ok-clause-sound
returns-in-Ok-clause-sound g c =
    let before = site c.args.parts.now in
    let means = g.H.Hooks.means c.args.hooks.now in
    let done = c.in-Ok.ensures.converted in
    sound_moved c.requires.sound c.core.ensures.plan done.became c.saturating_add-parts.ensures
    c.law_well.ensures.in_order c.law_well.ensures.rests c.law_well.ensures.conversions means
    (c.law_hooks.ensures.lawful c.args.hooks.now) c.requires.meant
    (ends_so means before.shapes before.root before.state done.value done.meant) c.step_back.new.path
    (path_raised before.state c.requires.sound.path c.law_paths.ensures.leave c.law_paths.ensures.deep done.value
    c.requires.meant.1.may.1 c.step_back.ensures)

pub returns-in-Ok-clause-moved : goal.returns-in-Ok-clause-moved
returns-in-Ok-clause-moved g c =
    let before = site c.args.parts.now in
    let means = g.H.Hooks.means c.args.hooks.now in
    let done = c.in-Ok.ensures.converted in
    made_moved c.requires.sound c.core.ensures.plan done.became c.saturating_add-parts.ensures (tt {0}) c.step_back.new.path
    (ends_so means before.shapes before.root before.state done.value done.meant)

pub returns-in-Err-clause-moved : goal.returns-in-Err-clause-moved
returns-in-Err-clause-moved g c =
    let before = site c.args.parts.now in
    ends_not (g.H.Hooks.means c.args.hooks.now) before.shapes before.root before.state c.in-Err.ensures.why

pub returns-in-Err-clause-refused : goal.returns-in-Err-clause-refused
returns-in-Err-clause-refused g c refused passes wanted =
    let before = site c.args.parts.now in
    refused_first (g.H.Hooks.means c.args.hooks.now) before.shapes before.root before.state c.in-Err.ensures.why wanted passes refused
