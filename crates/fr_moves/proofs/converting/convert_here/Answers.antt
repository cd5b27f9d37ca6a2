use Rattle.std.proofs.Common.{◌≡◌, true, inl, inr}
use Rattle.fr_moves.specs.Common.{Changed, IsAtWork, Room_conserved, Val, fits, top_shape, top_tree, whole}
use Rattle.fr_store.specs.ConvertingSources.{IsConvertedUp, IsRefusedUp}
use Rattle.fr_moves.proofs.ConvertLaws.{at_work_between, converted_up, refused_up, source_between, source_here, suited_put, top_between, wanted_up, why_unmade, IsSourceHere}
use Rattle.fr_moves.proofs.EndingLaws.{if_err, on_both}
use Rattle.fr_moves.proofs.EndOfDeferred.{suits_root}
use Rattle.fr_moves.proofs.TopBodyLaws.{holds_value, of_value}
use Rattle.fr_moves.proofs.KeepLaws.{room_here}
use Rattle.fr_moves.specs.PlaceLaws.{here_along}
use Rattle.fr_moves.proofs.converting.convert_here.Given.{Over}
use Rattle.fr_moves.proofs.converting.convert_here.Goals as goal
use Rattle.fr_moves.proofs.converting.convert_here.Goals.{In-Ok}

-- the conversion above the place
here : (g : Over) (c : In-Ok g) → IsSourceHere c.args.frames.now
here g c =
    source_here c.law_plan_lookups.ensures.agree c.law_plan_lookups.ensures.paths c.law_plan_reach.ensures.reached
    c.law_plan_reach.ensures.nodes c.requires.at_work c.requires.source

-- the source holds its value
put : (g : Over) (c : In-Ok g) → Changed c.args.plan.now (λ old. whole c.in-Ok.ensures.completed.value) c.args.frames.now c.complete_here.new.frames
put g c = c.in-Ok.ensures.completed.handed

-- which fits it, so that all is as it may be
work : (g : Over) (c : In-Ok g) → IsAtWork c.args.plan.now c.complete_here.new.frames
work g c =
    let v : Val = c.in-Ok.ensures.completed.value in
    let along =
    here_along c.law_plan_lookups.ensures.agree c.law_plan_lookups.ensures.paths c.law_plan_reach.ensures.reached
    c.law_plan_reach.ensures.nodes _ _ _ _ _ c.requires.at_work.ready in
    let fit : fits c.args.frames.now.table.now (top_shape c.args.frames.now) v ≡ true
    = c.law_completes.ensures.fits _ (g.H.Hooks.means c.args.hooks.now) c.args.frames.now.table.now (top_shape c.args.frames.now)
    (top_tree c.args.frames.now) v (c.law_hooks.ensures.lawful c.args.hooks.now) c.requires.at_work.ready.checked along.suits
    c.in-Ok.ensures.completed.meant in
    at_work_between c.requires.at_work c.requires.source v (put g c)
    (suited_put c.law_well.ensures.in_order c.law_well.ensures.conversions c.requires.at_work v fit)

pub returns-in-Err-clause-why : goal.returns-in-Err-clause-why
returns-in-Err-clause-why g c =
    why_unmade c.law_completes.ensures.or_lacks (g.H.Hooks.means c.args.hooks.now)
    (source_here c.law_plan_lookups.ensures.agree c.law_plan_lookups.ensures.paths c.law_plan_reach.ensures.reached
    c.law_plan_reach.ensures.nodes c.requires.at_work c.requires.source) c.in-Err.kind c.in-Err.ensures.why

pub convert-requires-clause-suits : goal.convert-requires-clause-suits
convert-requires-clause-suits g c =
    suits_root c.law_plan_lookups.ensures.paths (work g (goal.at.convert-requires-clause-suits g c).In-Ok)

pub convert-requires-clause-source : goal.convert-requires-clause-source
convert-requires-clause-source g c =
    (source_between c.requires.at_work c.requires.source _ (put g (goal.at.convert-requires-clause-source g c).In-Ok)).1

pub convert-requires-clause-complete : goal.convert-requires-clause-complete
convert-requires-clause-complete g c =
    let put = put g (goal.at.convert-requires-clause-complete g c).In-Ok in
    holds_value put.stands.open_still _ (top_between c.requires.at_work c.requires.source _ put)

pub convert-requires-clause-room : goal.convert-requires-clause-room
convert-requires-clause-room g c =
    let put = put g (goal.at.convert-requires-clause-room g c).In-Ok in
    room_here _ _ _ _ put.stands.open_still (Room_conserved _ _ _ _ c.complete_here.ensures.tokens c.requires.room)

pub returns-clause-converted : goal.returns-clause-converted
returns-clause-converted g c =
    let at = (goal.at.returns-clause-converted g c).In-Ok in
    let put = put g at in
    let v : Val = c.in-Ok.ensures.completed.value in
    let means = g.H.Hooks.means c.args.hooks.now in
    on_both c.convert.result (λ done marks.
    converted_up c.requires.at_work c.requires.source v put c.law_plan_lookups.ensures.paths c.law_completes.ensures.or_lacks means
    (here g at) c.in-Ok.ensures.completed.meant marks
    (of_value put.stands.open_still v (top_between c.requires.at_work c.requires.source v put) (λ (u : Val).
    IsConvertedUp means c.complete_here.new.frames.table.now c.args.plan.now c.complete_here.new.frames.slots
    c.complete_here.new.frames.stack c.convert.new.slots c.convert.new.self u) done)) c.convert.ensures.converted
    c.convert.ensures.marks

pub returns-clause-why : goal.returns-clause-why
returns-clause-why g c =
    let at = (goal.at.returns-clause-why g c).In-Ok in
    let put = put g at in
    let v : Val = c.in-Ok.ensures.completed.value in
    let means = g.H.Hooks.means c.args.hooks.now in
    if_err c.convert.result (λ kind why.
    elim why [
      | inl memory ↦ wanted_up c.requires.at_work c.requires.source v put c.law_plan_lookups.ensures.paths
          c.law_completes.ensures.or_lacks means (here g at) c.in-Ok.ensures.completed.meant kind memory
      | inr refused ↦ refused_up c.requires.at_work c.requires.source v put c.law_plan_lookups.ensures.paths
          c.law_completes.ensures.or_lacks means (here g at) c.in-Ok.ensures.completed.meant kind
          (of_value put.stands.open_still v (top_between c.requires.at_work c.requires.source v put) (λ (u : Val).
          IsRefusedUp means c.complete_here.new.frames.table.now c.args.plan.now c.complete_here.new.frames.slots
          c.complete_here.new.frames.stack u kind) refused)
    ]) c.convert.ensures.why
