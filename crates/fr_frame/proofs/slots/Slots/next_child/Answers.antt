use Rattle.std.proofs.Common.{◌≡◌, ◌+◌, ◌<◌, ◌^◌, ◌∙◌, arith}
use Rattle.std.proofs.lemmas.Result.{IfOk-weaker, on_ok_weaker}
use Rattle.fr_frame.specs.Common.{IfInUse, Node, body_of, count_cells, heap_of, node_of}
use Rattle.fr_frame.proofs.OutlinedLaws.{of_outline, same_body, same_count}
use Rattle.fr_frame.proofs.slots.Slots.next_child.Goals as goal

pub returns-clause-number : goal.returns-clause-number
returns-clause-number c =
    IfOk-weaker c.narrow.result _ (λ number. IfInUse c.args.self.now c.args.parent.0 (λ (at : Node). number ≡ count_cells at.body))
    (λ number is.
    of_outline (node_of c.in-Some.above.now) (heap_of c.args.self.now c.args.parent.0) (λ (at : Node). number ≡ count_cells at.body)
    c.in-Some.ensures.place (λ at there same. is ∙ c.count_children.ensures
    ∙ same_count (body_of c.in-Some.above.now.partial) at.body (same_body (node_of c.in-Some.above.now) at same)))
    c.narrow.ensures.same

pub returns-clause-narrow : goal.returns-clause-narrow
returns-clause-narrow c =
    on_ok_weaker c.narrow.result (λ below.
    of_outline (node_of c.in-Some.above.now) (heap_of c.args.self.now c.args.parent.0) (λ (at : Node). count_cells at.body + 1 < 2 ^ 32)
    c.in-Some.ensures.place (λ at there same.
    omega (
      arith,
      below,
      c.count_children.ensures,
      same_count (body_of c.in-Some.above.now.partial) at.body (same_body (node_of c.in-Some.above.now) at same),
    ))) c.narrow.ensures.narrow
