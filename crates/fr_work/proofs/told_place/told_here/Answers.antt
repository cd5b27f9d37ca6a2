use Rattle.std.proofs.Common.{ap}
use Rattle.fr_work.specs.Common.{Node}
use Rattle.fr_moves.specs.PlaceLaws.{none_found, found_is}
use Rattle.fr_work.proofs.ToldLaws.{says_found}
use Rattle.fr_work.proofs.told_place.told_here.Goals as goal

pub unreachable-requires-in-None : goal.unreachable-requires-in-None
unreachable-requires-in-None c = none_found _ _ _ c.requires.ready.shown _ c.in-Some.ensures.last c.in-None.ensures.place

pub returns : goal.returns
returns c = record {
  node =
      ap (λ (found : Node). found.node)
      (found_is _ _ _ c.requires.ready.shown _ c.in-Some.ensures.last c.in-Some-place.place.now c.in-Some-place.ensures.place);
  says = says_found c.requires.ready.shown c.in-Some.ensures.last c.in-Some-place.place.now c.in-Some-place.ensures.place;
}
