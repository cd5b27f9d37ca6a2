-- What contracts see of a plan, and when it is the plan of a root.
use Rattle.std.specs.Prelude.{◌≡◌, Bool, List, Ok}
use Rattle.fr_shape.specs.declared.shape.ShapeId.{ShapeId}
use Rattle.fr_shape.specs.Look.{Table}
use Rattle.fr_plan.specs.declared.shape_fields.ShapeFields.{ShapeFields}
use Rattle.fr_plan.specs.declared.nodes.NodeId.{NodeId}
use Rattle.fr_plan.specs.declared.nodes.TypePlanNode.{TypePlanNode}
use Rattle.fr_plan.specs.declared.outlines.Walk.{Walk}
use Rattle.fr_plan.specs.declared.plan_lists.PlanLists.{PlanLists}
use Rattle.fr_plan.specs.Build.{planned}
use Rattle.fr_plan.specs.Invariants.{have_invariants}
use Rattle.fr_plan.specs.Nodes.{AreNodes}
use Rattle.fr_plan.specs.ShapeFields.{AreAllKept}

-- the nodes with their outlines, the lists in which the parts of nodes lie, the number of the root's node, what is kept of each
-- shape's fields, and whether any shape has an invariant
pub record Plan : Type 0 where
  pub nodes : List TypePlanNode
  pub root : NodeId
  pub lists : PlanLists
  pub walk : Walk
  pub shape_fields : List ShapeFields
  pub has_invariants : Bool

-- the nodes are those that are built for the root, each told from its outline, and the fields of all that is built are kept; so is
-- whether any of it has an invariant
pub record IsPlanOf (table : Table) (id : ShapeId) (plan : Plan) : Type 0 where
  pub built : planned table id ≡ Ok (record { walk = plan.walk; node = plan.root })
  pub told : AreNodes table plan.lists plan.walk.nodes plan.nodes
  pub fields : AreAllKept table plan.walk.marks plan.shape_fields
  pub invariants : plan.has_invariants ≡ have_invariants table plan.walk.nodes
