use Rattle.std.proofs.Common.{ap}
use Rattle.fr_moves.specs.Common.{Node}
use Rattle.fr_moves.specs.PlaceLaws.{none_found, found_is}
use Rattle.fr_moves.proofs.going.node_here.Goals as goal

pub unreachable-requires-in-None : goal.unreachable-requires-in-None
unreachable-requires-in-None c = none_found _ _ _ c.requires.are_open.shown _ c.in-Some.ensures.last c.in-None.ensures.place

pub returns : goal.returns
returns c plan open_now =
    ap (λ (found : Node). found.node)
    (found_is _ _ _ open_now.shown _ c.in-Some.ensures.last c.in-Some-place.place.now c.in-Some-place.ensures.place)
