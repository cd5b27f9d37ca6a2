-- The ways down from a plan's root, child by child, and what the table gives for them.
use Rattle.std.specs.Prelude.{◌≡◌, ℕ, List, [], ◌∷◌, slice_get, Option, Some}
use Rattle.std.specs.Option.{option_map, option_and_then}
use Rattle.fr_shape.specs.declared.shape.Shape.{Shape}
use Rattle.fr_shape.specs.declared.shape.ShapeId.{ShapeId}
use Rattle.fr_shape.specs.Checked.{IsChecked}
use Rattle.fr_shape.specs.Look.{Table, IsIn}
use Rattle.fr_shape.specs.Plannable.{children_of}
use Rattle.fr_plan.specs.declared.nodes.NodeId.{NodeId}
use Rattle.fr_plan.specs.declared.nodes.TypePlanNode.{TypePlanNode}
use Rattle.fr_plan.specs.Lookups.{node_at, child_at}
use Rattle.fr_plan.specs.TypePlan.{Plan, IsPlanOf}

-- a shape's child of this number: the fields of a struct or of all of an enum's variants, contents, keys and values, a
-- pointee, what is wrapped, or what the shape is built from
abbrev pub child_shape : Table → ShapeId → ℕ → Option ShapeId
child_shape table id i = option_and_then (λ (shape : Shape). slice_get (children_of shape) i) (slice_get table id.0)

-- the shape at the end of this path of child numbers
abbrev pub shape_along : Table → ShapeId → List ℕ → Option ShapeId
shape_along table id [] = Some id
shape_along table id (i ∷ path) =
    option_and_then (λ (next : ShapeId). shape_along table next path) (child_shape table id i)

-- the node at the end of it; at each step a node that refers back stands for the own node of its shape
abbrev pub node_along : Plan → NodeId → List ℕ → Option TypePlanNode
node_along plan id [] = node_at plan id
node_along plan id (i ∷ path) =
    option_and_then
    (λ (node : TypePlanNode). option_and_then (λ (next : NodeId). node_along plan next path) (child_at plan node.shape i))
    (node_at plan id)

-- in a plan over a checked table, the node at the end of each path from the root has the shape that the table gives for
-- that path, and there is none exactly where the table gives none
abbrev pub PathsAgree : Type 0
PathsAgree =
    (table : Table) (root : ShapeId) (plan : Plan) (path : List ℕ) → IsChecked table → IsIn table root.0
    → IsPlanOf table root plan
    → option_map (λ (node : TypePlanNode). node.shape) (node_along plan plan.root path) ≡ shape_along table root path
