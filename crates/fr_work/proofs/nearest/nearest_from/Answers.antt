use Rattle.std.proofs.Common.{◌-◌, ◌<◌, arith, sym, ◌∙◌}
use Rattle.fr_work.proofs.NearestLaws.{nearest_is, nearing_none, nearing_top, nearing_up, never_free, never_root, on_above, way_field, way_inside}
use Rattle.fr_work.proofs.nearest.nearest_from.Goals as goal

pub loop-level-init : goal.loop-level-init
loop-level-init c =
    nearing_top c.args.frames.now.table.now c.args.frames.now.root.0 c.requires.at_work.ready.shown c.args.top.0 _ c.requires.last
    (omega (arith, c.requires.levels))

pub unreachable-requires : goal.unreachable-requires
unreachable-requires c = never_free c.requires.at_work.ready.shown c.loop-level.invariant.on c.in_default.ensures.place

pub unreachable-requires-in_default-owner : goal.unreachable-requires-in_default-owner
unreachable-requires-in_default-owner c =
    never_root c.requires.at_work.ready.shown c.loop-level.invariant (omega (arith, c.loop-level-test.true)) c.in-Some.place.now
    c.in-Some.ensures.place c.in_default-owner.is

pub unreachable-requires-in_default-place : goal.unreachable-requires-in_default-place
unreachable-requires-in_default-place c =
    never_free c.requires.at_work.ready.shown
    (on_above c.requires.at_work.ready.shown c.loop-level.invariant (omega (arith, c.loop-level-test.true)) c.in-Some.place.now
    c.in-Some.ensures.place c.in-Child.is) c.in_default-place.ensures.place

pub node-requires : goal.node-requires
node-requires c =
    let lookups = c.law_plan_lookups.ensures in
    let reach = c.law_plan_reach.ensures in
    record {
      inside =
          way_inside lookups.agree lookups.paths reach.reached reach.nodes _ _ _ _ _ c.requires.at_work.ready
          (on_above c.requires.at_work.ready.shown c.loop-level.invariant (omega (arith, c.loop-level-test.true)) c.in-Some.place.now
          c.in-Some.ensures.place c.in-Child.is) c.in-Some-place.above.now c.in-Some-place.ensures.place;
    }

pub returns-in-Some-field_below : goal.returns-in-Some-field_below
returns-in-Some-field_below c =
    let lookups = c.law_plan_lookups.ensures in
    let reach = c.law_plan_reach.ensures in
    let some_left : 0 < c.args.levels - c.loop-level._level = omega (arith, c.loop-level-test.true) in
    let on = on_above c.requires.at_work.ready.shown c.loop-level.invariant some_left c.in-Some.place.now c.in-Some.ensures.place
    c.in-Child.is in
    let is = c.in-Some-field_below.ensures
    ∙ way_field lookups.agree lookups.paths reach.reached reach.nodes _ _ _ _ _ c.requires.at_work.ready on c.in-Some-place.above.now
    c.in-Some-place.ensures.place c.node.result.now c.node.ensures.node c.in-Child.number in
    nearest_is c.requires.at_work.ready.shown c.loop-level.invariant some_left c.in-Some.place.now c.in-Some.ensures.place
    c.in-Child.is _ is

pub loop-level-preserved : goal.loop-level-preserved
loop-level-preserved c =
    let lookups = c.law_plan_lookups.ensures in
    let reach = c.law_plan_reach.ensures in
    let some_left : 0 < c.args.levels - c.loop-level._level = omega (arith, c.loop-level-test.true) in
    let on = on_above c.requires.at_work.ready.shown c.loop-level.invariant some_left c.in-Some.place.now c.in-Some.ensures.place
    c.in-Child.is in
    let is = c.in_default-field_below.ensures
    ∙ way_field lookups.agree lookups.paths reach.reached reach.nodes _ _ _ _ _ c.requires.at_work.ready on c.in-Some-place.above.now
    c.in-Some-place.ensures.place c.node.result.now c.node.ensures.node c.in-Child.number in
    nearing_up c.requires.at_work.ready.shown c.loop-level.invariant some_left c.in-Some.place.now c.in-Some.ensures.place c.in-Child.is _
    (omega (arith, c.loop-level-test.true)) (sym is)

pub returns : goal.returns
returns c = sym (nearing_none c.loop-level.invariant (omega (arith, c.loop-level-test.false)))
