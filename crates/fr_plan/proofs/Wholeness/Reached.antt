-- The nodes of a plan are those of the shapes that its root reaches.
use Rattle.std.proofs.Common.{◌≡◌, ◌∙◌, ap, sym, subst, Some}
use Rattle.std.specs.Option.{option_map}
use Rattle.fr_shape.specs.declared.shape.ShapeId.{ShapeId}
use Rattle.fr_shape.specs.Look.{Table}
use Rattle.fr_shape.specs.Plannable.{Reached}
use Rattle.fr_plan.specs.declared.nodes.NodeId.{NodeId}
use Rattle.fr_plan.specs.declared.nodes.TypePlanNode.{TypePlanNode}
use Rattle.fr_plan.specs.Build.{Made}
use Rattle.fr_plan.specs.LookupLaws.{shape_of, shape_at}
use Rattle.fr_plan.specs.Lookups.{node_at, finished, own_id}
use Rattle.fr_plan.specs.Nodes.{IsNode}
use Rattle.fr_plan.specs.PlanLaws.{HasOwn, IsComplete}
use Rattle.fr_plan.specs.ReachLaws.{NodesAreReached, ReachedHaveNodes}
use Rattle.fr_plan.specs.TypePlan.{Plan, IsPlanOf}
use Rattle.fr_plan.proofs.Wholeness.Paths.{told_at}
use Rattle.fr_plan.proofs.Wholeness.Reaching.{reached_has_own}
use Rattle.fr_plan.proofs.Wholeness.Standing.{zip_get_right}
use Rattle.fr_plan.proofs.Wholeness.Whole.{plans_are_complete}

module _ (table : Table) (root : ShapeId) (plan : Plan) (is_plan : IsPlanOf table root plan)
    (complete : IsComplete table root (record { walk = plan.walk; node = plan.root })) where
  node_reached : (id : NodeId) (node : TypePlanNode) → node_at plan id ≡ Some node → Reached table root.0 node.shape.0
  node_reached id node at =
      let told = zip_get_right (IsNode table plan.lists) plan.walk.nodes plan.nodes id.0 node is_plan.told at in
      let P : ShapeId → Type 0 = λ s. Reached table root.0 s.0 in
      subst P (sym told.2.shape) (complete.nodes id.0 told.0 told.1).reached

  own_has_node : (shape : ShapeId) → HasOwn plan.walk shape
      → (id : NodeId) × (own_id plan shape ≡ Some id) × (shape_at plan id ≡ Some shape)
  own_has_node shape own =
      let told =
      told_at table root plan is_plan complete own.node shape
      (record { outline = own.own.outline; here = own.own.here; shape = own.own.shape }) in (
        own.node,
        ap finished own.mark,
        ap (option_map shape_of) told.1 ∙ ap (λ (s : ShapeId). Some s) told.2,
      )

pub nodes_are_reached : NodesAreReached
nodes_are_reached table root plan id node checked inside is at =
    node_reached table root plan is
    (plans_are_complete table root (record { walk = plan.walk; node = plan.root }) checked inside is.built) id node at

pub reached_have_nodes : ReachedHaveNodes
reached_have_nodes table root plan shape checked inside is reached =
    let made : Made = record { walk = plan.walk; node = plan.root } in
    let complete : IsComplete table root made = plans_are_complete table root made checked inside is.built in
    own_has_node table root plan is complete shape (reached_has_own table root made complete reached)
