use Rattle.std.proofs.Common.{◌≡◌, sym, ◌∙◌, arith}
use Rattle.fr_shape.proofs.Ordered.{members_end}
use Rattle.fr_shape.proofs.ordering.+ordering_dynamic.Goals as goal

pub compare_members-returns : goal.compare_members-returns
compare_members-returns t c =
    let all : c.loop-i.i ≡ c.min-i-end.result = omega arith in
    c.cmp.ensures ∙ sym (members_end c.as_slice-left.result.now c.as_slice-right.result.now c.loop-i.i (all ∙ c.min-i-end.ensures)) ∙ sym c.loop-i.invariant
