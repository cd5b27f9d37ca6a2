use Rattle.std.proofs.Common.{List, Option, ap, arith}
use Rattle.fr_frame.specs.Common.{Cell, Val, cells_occur, placed, value_occurs}
use Rattle.fr_values.specs.CellLaws.{occur_taken}
use Rattle.fr_frame.proofs.partial_values.link_child.Goals as goal

pub returns-clause-tokens : goal.returns-clause-tokens
returns-clause-tokens c t =
    omega (
      arith,
      occur_taken c.args.children.now c.in_ok-at.at (placed c.args.slot.0) t c.in_ok-at.ensures.inside,
      ap (λ (cs : List Cell). cells_occur cs t) c.place.ensures.placed,
      ap (λ (o : Option Val). value_occurs o t) c.place.ensures.taken,
    )
