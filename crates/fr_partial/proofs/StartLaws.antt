-- Starting by a plan that is there: its root's shape, and what is left to refuse.
use Rattle.std.proofs.Common.{◌≡◌, [], Option, Some, option_map, sym, ap, ◌∙◌}
use Rattle.fr_partial.specs.Common.{IsChecked, IsPlanFrom, Plan, Table, TypePlanNode, option_or, unsized_refusal}
use Rattle.fr_shape.specs.declared.error.AllocError.{AllocError}
use Rattle.fr_model.specs.Run.{alloc_refusal}
use Rattle.fr_plan.specs.Lookups.{node_at}
use Rattle.fr_plan.specs.PathLaws.{PathsAgree}
use Rattle.fr_plan.specs.RefusalLaws.{RefusesFirst, refusal_in}

-- the root's node has the root's shape
pub root_shape : PathsAgree → (table : Table) (plan : Plan) (node : TypePlanNode) → IsChecked table
    → (from : IsPlanFrom table plan) → node_at plan plan.root ≡ Some node → node.shape ≡ from.root
root_shape agree table plan node checked from at =
    let same : Some node.shape ≡ Some from.root = ap (option_map (λ (n : TypePlanNode). n.shape)) (sym at)
    ∙ agree table from.root plan [] checked from.inside from.planned in
    cc

-- of a root that was planned, only that it is unsized is left to refuse
pub only_unsized : RefusesFirst → (table : Table) (plan : Plan) → (from : IsPlanFrom table plan)
    → alloc_refusal table from.root.0 ≡ unsized_refusal table from.root.0
only_unsized first table plan from =
    ap (λ (refusal : Option AllocError). option_or refusal (unsized_refusal table from.root.0))
    (sym (first table from.root) ∙ ap refusal_in from.planned.built)
