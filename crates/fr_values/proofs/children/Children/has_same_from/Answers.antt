use Rattle.std.proofs.Common.{ap, sym, ◌∙◌, arith}
use Rattle.fr_values.specs.Common.{has_same_cell, view}
use Rattle.std.proofs.lemmas.List.{drop_all}
use Rattle.fr_values.proofs.SetChildren.{same_here, same_later}
use Rattle.fr_values.proofs.children.Children.has_same_from.Goals as goal

pub loop-i-preserved : goal.loop-i-preserved
loop-i-preserved c =
    c.loop-i.invariant
    ∙ same_later (view c.args.value.now) c.args.self.now c.loop-i.i c.is_same.result (omega (arith, c.len-i-end.ensures.count))
    c.is_same.ensures c.if-is_same.false

pub returns-then-is_same : goal.returns-then-is_same
returns-then-is_same c =
    sym (c.loop-i.invariant
    ∙ same_here (view c.args.value.now) c.args.self.now c.loop-i.i c.is_same.result (omega (arith, c.len-i-end.ensures.count))
    c.is_same.ensures c.if-is_same.true)

pub returns : goal.returns
returns c =
    sym (c.loop-i.invariant ∙ ap (has_same_cell (view c.args.value.now))
    (drop_all c.loop-i.i c.args.self.now (omega (arith, c.len-i-end.ensures.count))))
