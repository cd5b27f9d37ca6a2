use Rattle.std.proofs.Common.{◌+◌, ap, sym, ◌∙◌, length, get_or, arith, ℕ}
use Rattle.std.proofs.lemmas.List.{length_push}
use Rattle.fr_plan.specs.declared.plan_lists.PlanLists.{PlanLists}
use Rattle.fr_plan.specs.declared.nodes.TypePlanNode.{TypePlanNode}
use Rattle.fr_plan.specs.declared.outlines.Outline.{Outline}
use Rattle.fr_plan.specs.Nodes.{IsNode}
use Rattle.fr_plan.proofs.Growing.{node_grows, zip_weaker}
use Rattle.fr_plan.proofs.OneMoreRow.{zip_more}
use Rattle.fr_plan.proofs.telling.nodes_of.Goals as goal

pub loop-i-preserved : goal.loop-i-preserved
loop-i-preserved c =
    let R : PlanLists → Outline → TypePlanNode → Type 0 = IsNode c.args.table.now in
    record {
      told =
          rw c.in-Ok.ensures.appended
          (zip_more (R c.node_of.new.lists) c.args.outlines.now c.loop-i.nodes c.loop-i.i c.get-outline.result.now c.in_ok-node.node
          (omega (arith, c.loop-i-test.true, c.len-i-end.ensures.count))
          (ap (λ (n : ℕ). get_or c.args.outlines.now n c.get-outline.result.now) (sym c.new.ensures.number) ∙ sym c.get-outline.ensures.value)
          (zip_weaker (R c.loop-i.lists) (R c.node_of.new.lists)
          (node_grows c.args.table.now c.loop-i.lists c.node_of.new.lists c.law_lookups_stay.ensures.stay c.in_ok-node.ensures.grown)
          _ _ c.loop-i.invariant.told)
          c.in_ok-node.ensures.told);
      long = ap length c.in-Ok.ensures.appended ∙ length_push c.loop-i.nodes c.in_ok-node.node ∙ ap (λ (n : ℕ). n + 1) c.loop-i.invariant.long;
    }
