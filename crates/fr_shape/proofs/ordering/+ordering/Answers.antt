use Rattle.std.proofs.Common.{◌≡◌, sym, ◌∙◌, arith}
use Rattle.fr_shape.proofs.Ordered.{entries_end}
use Rattle.fr_shape.proofs.ordering.+ordering.Goals as goal

pub compare_entries-returns : goal.compare_entries-returns
compare_entries-returns t c =
    let all : c.loop-i.i ≡ c.min-i-end.result = omega arith in
    c.cmp.ensures ∙ sym (entries_end c.as_slice-left.result.now c.as_slice-right.result.now c.loop-i.i (all ∙ c.min-i-end.ensures)) ∙ sym c.loop-i.invariant
