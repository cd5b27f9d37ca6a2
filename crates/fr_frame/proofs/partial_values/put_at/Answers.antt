use Rattle.std.proofs.Common.{◌≡◌, List, Some, slice_get, ap, sym, ◌∙◌, arith}
use Rattle.fr_frame.specs.Common.{Cell, absent, cells_occur, given, view}
use Rattle.fr_values.specs.CellLaws.{occur_set}
use Rattle.fr_frame.proofs.partial_values.put_at.Goals as goal

pub returns-clause-tokens : goal.returns-clause-tokens
returns-clause-tokens c t =
    let here : slice_get c.args.children.now c.in-Some.at ≡ Some absent = sym c.in-Some.ensures.cell ∙ c.requires in
    omega (
      arith,
      occur_set c.args.children.now c.in-Some.at absent (given (view c.args.value)) t here,
      ap (λ (cs : List Cell). cells_occur cs t) c.put.ensures.put,
    )
