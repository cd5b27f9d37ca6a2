use Rattle.std.proofs.Common.{◌≤◌, List, [], length, replicate, ◌∙◌, ap, arith}
use Rattle.fr_values.specs.Common.{Value, absent, cells_of, count_in_base}
use Rattle.fr_values.specs.CellLaws.{cells_absent}
use Rattle.fr_values.proofs.IndexedChildren.{none_indexed}
use Rattle.fr_values.proofs.children.Children.none_yet.Goals as goal

pub returns-clause-absent : goal.returns-clause-absent
returns-clause-absent c =
    ap (cells_of c.in-Ok.given 0) c.of_values.ensures.values
    ∙ cells_absent c.in-Ok.given 0 c.in_ok-values.values.items (λ j. c.in-Ok.ensures.by_index j) c.in_ok-values.ensures.absent
    ∙ ap (λ n. replicate n absent) c.in_ok-values.ensures.count

pub invariant_of-result : goal.invariant_of-result
invariant_of-result c =
    let nothing : count_in_base c.none-2.result ≤ 0 = (c.none-2.ensures.apart []).within in
    let count = ap (λ (vs : List Value). length vs) c.of_values.ensures.values in
    none_indexed c.in-Ok.given c.of_values.result c.none-2.result c.new-2.result
    (omega (arith, count, c.in_ok-values.ensures.count, c.in-Ok.ensures.room)) (λ j h. absurd (omega (arith, h, nothing)))
    (c.none-2.ensures.apart c.of_values.result) c.new-2.ensures.empty
