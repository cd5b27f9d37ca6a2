use Rattle.fr_moves.specs.PlaceLaws.{none_found, found_inside, found_shape, lacks_found, looks_found}
use Rattle.fr_moves.proofs.placing.place_here.Goals as goal

pub node-requires : goal.node-requires
node-requires c = record {
  inside =
      found_inside c.law_plan_lookups.ensures.agree c.law_plan_lookups.ensures.paths c.law_plan_reach.ensures.reached c.law_plan_reach.ensures.nodes _ _ _ _ _ c.requires.at_work.ready
      c.in-Some.ensures.last c.in-Some-place.place.now c.in-Some-place.ensures.place;
}

pub unreachable-requires-in-None : goal.unreachable-requires-in-None
unreachable-requires-in-None c = none_found _ _ _ c.requires.at_work.ready.shown _ c.in-Some.ensures.last c.in-None.ensures.place

pub returns : goal.returns
returns c = record {
  shape =
      found_shape c.law_plan_lookups.ensures.agree c.law_plan_lookups.ensures.paths c.law_plan_reach.ensures.reached c.law_plan_reach.ensures.nodes _ _ _ _ _ c.requires.at_work.ready
      c.in-Some.ensures.last c.in-Some-place.place.now c.in-Some-place.ensures.place c.node.result.now c.node.ensures.node;
  last = lacks_found c.requires.at_work.ready.shown c.in-Some.ensures.last c.in-Some-place.place.now c.in-Some-place.ensures.place;
  partial = looks_found c.requires.at_work.ready.shown c.in-Some.ensures.last c.in-Some-place.place.now c.in-Some-place.ensures.place;
}
