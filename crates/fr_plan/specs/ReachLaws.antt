-- A plan has nodes for the shapes that its root reaches, and for no others.
use Rattle.std.specs.Prelude.{◌≡◌, Some}
use Rattle.fr_shape.specs.declared.shape.ShapeId.{ShapeId}
use Rattle.fr_shape.specs.Checked.{IsChecked}
use Rattle.fr_shape.specs.Look.{Table, IsIn}
use Rattle.fr_shape.specs.Plannable.{Reached}
use Rattle.fr_plan.specs.declared.nodes.NodeId.{NodeId}
use Rattle.fr_plan.specs.declared.nodes.TypePlanNode.{TypePlanNode}
use Rattle.fr_plan.specs.LookupLaws.{shape_at}
use Rattle.fr_plan.specs.Lookups.{node_at, own_id}
use Rattle.fr_plan.specs.TypePlan.{Plan, IsPlanOf}

-- in a plan over a checked table, the shape of each node is one that the root reaches
abbrev pub NodesAreReached : Type 0
NodesAreReached =
    (table : Table) (root : ShapeId) (plan : Plan) (id : NodeId) (node : TypePlanNode) → IsChecked table → IsIn table root.0
    → IsPlanOf table root plan → node_at plan id ≡ Some node → Reached table root.0 node.shape.0

-- and each shape that the root reaches has its own node, which is one of this shape
abbrev pub ReachedHaveNodes : Type 0
ReachedHaveNodes =
    (table : Table) (root : ShapeId) (plan : Plan) (shape : ShapeId) → IsChecked table → IsIn table root.0
    → IsPlanOf table root plan → Reached table root.0 shape.0
    → (id : NodeId) × (own_id plan shape ≡ Some id) × (shape_at plan id ≡ Some shape)
