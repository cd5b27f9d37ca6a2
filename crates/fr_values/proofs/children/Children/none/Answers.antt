use Rattle.std.proofs.Common.{◌≤◌, List, [], length, ap, arith}
use Rattle.fr_values.specs.Common.{Value, count_in_base}
use Rattle.fr_values.proofs.IndexedChildren.{none_indexed}
use Rattle.fr_values.proofs.children.Children.none.Goals as goal

pub invariant_of-result : goal.invariant_of-result
invariant_of-result c =
    let nothing : count_in_base c.none-2.result ≤ 0 = (c.none-2.ensures.apart []).within in
    let count = ap (λ (vs : List Value). length vs) c.none.ensures.none in
    none_indexed c.default.result c.none.result c.none-2.result c.new.result (omega (arith, count))
    (λ j h. absurd (omega (arith, h, nothing))) (c.none-2.ensures.apart c.none.result) c.new.ensures.empty
