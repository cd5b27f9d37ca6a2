use Rattle.std.proofs.Common.{List, Option, ap, arith}
use Rattle.fr_frame.specs.Common.{Cell, absent, cells_occur, option_and_then, value_occurs, value_of_cell}
use Rattle.fr_values.specs.CellLaws.{occur_taken}
use Rattle.fr_values.specs.CellLaws.{slot_child}
use Rattle.fr_frame.proofs.partial_values.unlink_child.Goals as goal

pub returns-then-held-slot-clause-tokens : goal.returns-then-held-slot-clause-tokens
returns-then-held-slot-clause-tokens c t =
    let here = slot_child c.args.children.now c.in-Some.at c.in-Some-slot.held c.in-Some-slot.ensures.slot in
    omega (
      arith,
      occur_taken c.args.children.now c.in-Some.at absent t c.in-Some.ensures.inside,
      ap (λ (cs : List Cell). cells_occur cs t) c.clear.ensures.cleared,
      ap (λ (found : Option Cell). value_occurs (option_and_then value_of_cell found) t) here,
    )
