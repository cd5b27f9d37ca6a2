use Rattle.std.proofs.Common.{refl}
use Rattle.fr_moves.specs.Common.{Became, no_hooks, plan_in, site, top_place, up, whole_tree}
use Rattle.fr_shape.specs.HookLaws.{no_hooks_are_lawful}
use Rattle.fr_moves.proofs.HandingLaws.{path_left}
use Rattle.fr_moves.specs.StateLaws.{below_start, sound_moved}
use Rattle.fr_moves.proofs.ending.leave.Goals as goal

pub leave-requires-clause-is_open : goal.leave-requires-clause-is_open
leave-requires-clause-is_open c =
    record { plan = plan_in c.args.parts.now.plan; is_open = c.requires.sound.at_work.ready.shown }

pub leave-requires-clause-below : goal.leave-requires-clause-below
leave-requires-clause-below c =
    (below_start (site c.args.parts.now).state.mode (site c.args.parts.now).state.cursor c.requires.meant.1.may.0).0

pub leave-requires-clause-not_item : goal.leave-requires-clause-not_item
leave-requires-clause-not_item c = c.requires.meant.1.may.1

pub returns-in-Ok-clause-sound : goal.returns-in-Ok-clause-sound
returns-in-Ok-clause-sound c =
    let parts = c.args.parts.now in
    let below = below_start (site parts).state.mode (site parts).state.cursor c.requires.meant.1.may.0 in
    let became : Became (plan_in parts.plan) (up (top_place parts.frames)) (whole_tree parts.frames) parts.frames
    (record parts.frames { slots = c.leave.new.slots; stack = c.leave.new.self; store = c.leave.new.store })
    = record {
      stands = c.in-Ok.ensures.left (plan_in parts.plan) c.requires.sound.at_work.ready.shown;
      kept = c.leave.ensures.kept;
      stores = below.1 c.leave.new.store;
      same = refl;
    } in
    sound_moved c.requires.sound refl became c.saturating_add-parts.ensures c.law_well.ensures.in_order
    c.law_well.ensures.rests c.law_well.ensures.conversions no_hooks no_hooks_are_lawful c.requires.meant refl c.step_back.new.path
    (path_left (site parts).state c.requires.sound.path c.law_paths.ensures.leave c.law_paths.ensures.deep below.0
    c.step_back.ensures)
