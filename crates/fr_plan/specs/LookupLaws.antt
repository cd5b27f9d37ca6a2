-- What the lookups of a plan lead to: the children that the table gives.
use Rattle.std.specs.Prelude.{◌≡◌, ◌≢◌, ℕ, List, [], ◌∷◌, slice_get, Option, Some, None, is_some, if◌then◌else◌}
use Rattle.std.specs.Option.{option_map, option_and_then}
use Rattle.fr_shape.specs.declared.shape.Shape.{Shape}
use Rattle.fr_shape.specs.declared.shape.ShapeId.{ShapeId}
use Rattle.fr_shape.specs.declared.shape.Def.{Def}
use Rattle.fr_shape.specs.declared.shape.Field.{Field}
use Rattle.fr_shape.specs.Checked.{IsChecked}
use Rattle.fr_shape.specs.Look.{Table, IsIn, field_in}
use Rattle.fr_shape.specs.Plannable.{children_of}
use Rattle.fr_plan.specs.declared.nodes.NodeId.{NodeId}
use Rattle.fr_plan.specs.declared.nodes.TypePlanNode.{TypePlanNode}
use Rattle.fr_plan.specs.declared.nodes.TypePlanNodeKind.{TypePlanNodeKind}
use Rattle.fr_plan.specs.Lookups.{node_at, resolved, resolved_id, struct_field, enum_variant_field, list_item, set_item, map_key, map_value, option_inner, result_ok, result_err, pointer_pointee, inner}
use Rattle.fr_plan.specs.TypePlan.{Plan, IsPlanOf}

-- a step to a child: each is one lookup
pub data Step : Type 0 where
  struct_field_step : (i : ℕ) → Step
  enum_variant_field_step : (variant i : ℕ) → Step
  list_item_step set_item_step map_key_step map_value_step option_inner_step result_ok_step result_err_step pointer_pointee_step inner_step : Step

-- the node that is looked up
abbrev pub looked_up : Plan → TypePlanNode → Step → Option NodeId
looked_up plan node (struct_field_step i) = struct_field plan node i
looked_up plan node (enum_variant_field_step variant i) = enum_variant_field plan node variant i
looked_up plan node list_item_step = list_item plan node
looked_up plan node set_item_step = set_item plan node
looked_up plan node map_key_step = map_key plan node
looked_up plan node map_value_step = map_value plan node
looked_up plan node option_inner_step = option_inner plan node
looked_up plan node result_ok_step = result_ok plan node
looked_up plan node result_err_step = result_err plan node
looked_up plan node pointer_pointee_step = pointer_pointee plan node
looked_up plan node inner_step = inner plan node

-- what a list, an array or a slice has
abbrev pub item_of : Def → Option ShapeId
item_of (Def.List t) = Some t
item_of (Def.Array t n) = Some t
item_of (Def.Slice t) = Some t
item_of _ = None

abbrev pub set_item_of : Def → Option ShapeId
set_item_of (Def.Set t) = Some t
set_item_of _ = None

abbrev pub key_of : Def → Option ShapeId
key_of (Def.Map k v) = Some k
key_of _ = None

abbrev pub value_of : Def → Option ShapeId
value_of (Def.Map k v) = Some v
value_of _ = None

abbrev pub some_of : Def → Option ShapeId
some_of (Def.Option t) = Some t
some_of _ = None

abbrev pub ok_of : Def → Option ShapeId
ok_of (Def.Result t e) = Some t
ok_of _ = None

abbrev pub err_of : Def → Option ShapeId
err_of (Def.Result t e) = Some e
err_of _ = None

abbrev pub pointee_of : Def → Option ShapeId
pointee_of (Def.Pointer pointer) = pointer.pointee
pointee_of _ = None

-- what a shape with a conversion is converted from: its only child
abbrev pub converted_from : Shape → Option ShapeId
converted_from shape = if is_some shape.convert then slice_get (children_of shape) 0 else None

-- the child that a shape has there
abbrev pub child_of : Shape → Step → Option ShapeId
child_of shape (struct_field_step i) = option_map (λ (field : Field). field.shape) (field_in shape.def None i)
child_of shape (enum_variant_field_step variant i) =
    option_map (λ (field : Field). field.shape) (field_in shape.def (Some variant) i)
child_of shape list_item_step = item_of shape.def
child_of shape set_item_step = set_item_of shape.def
child_of shape map_key_step = key_of shape.def
child_of shape map_value_step = value_of shape.def
child_of shape option_inner_step = some_of shape.def
child_of shape result_ok_step = ok_of shape.def
child_of shape result_err_step = err_of shape.def
child_of shape pointer_pointee_step = pointee_of shape.def
child_of shape inner_step = converted_from shape

abbrev pub shape_of : TypePlanNode → ShapeId
shape_of node = node.shape

-- the shape of a node, where it is there
abbrev pub shape_at : Plan → NodeId → Option ShapeId
shape_at plan id = option_map shape_of (node_at plan id)

abbrev pub child_in : Table → ShapeId → Step → Option ShapeId
child_in table id step = option_and_then (λ (shape : Shape). child_of shape step) (slice_get table id.0)

-- In a plan over a checked table each lookup gives a node of the shape that the table has there, and none exactly where the
-- table has none.
abbrev pub LookupsAgree : Type 0
LookupsAgree =
    (table : Table) (root : ShapeId) (plan : Plan) (id : NodeId) (node : TypePlanNode) (step : Step) → IsChecked table
    → IsIn table root.0 → IsPlanOf table root plan → node_at plan id ≡ Some node
    → option_map (shape_at plan) (looked_up plan node step) ≡ option_map (λ (s : ShapeId). Some s) (child_in table node.shape step)

-- what a node stands for: a node of the plan, of the same shape, that doesn't refer back
pub record StandsFor (plan : Plan) (id : NodeId) (node : TypePlanNode) : Type 0 where
  pub there : node_at plan (resolved_id plan id) ≡ Some (resolved plan node)
  pub shape : (resolved plan node).shape ≡ node.shape
  pub kind : (target : ShapeId) → (resolved plan node).kind ≢ TypePlanNodeKind.BackRef target

abbrev pub BackReferencesResolve : Type 0
BackReferencesResolve =
    (table : Table) (root : ShapeId) (plan : Plan) (id : NodeId) (node : TypePlanNode) → IsChecked table
    → IsIn table root.0 → IsPlanOf table root plan → node_at plan id ≡ Some node → StandsFor plan id node

-- the shape at the end of this path of lookups
abbrev pub shape_by_lookups : Table → ShapeId → List Step → Option ShapeId
shape_by_lookups table id [] = Some id
shape_by_lookups table id (step ∷ path) =
    option_and_then (λ (next : ShapeId). shape_by_lookups table next path) (child_in table id step)

-- the node at the end of it
abbrev pub node_by_lookups : Plan → NodeId → List Step → Option TypePlanNode
node_by_lookups plan id [] = node_at plan id
node_by_lookups plan id (step ∷ path) =
    option_and_then
    (λ (node : TypePlanNode).
    option_and_then (λ (next : NodeId). node_by_lookups plan next path) (looked_up plan node step))
    (node_at plan id)

-- in a plan over a checked table, the node that lookups reach from the root on any path has the shape that the table gives
-- for that path, and there is none exactly where the table gives none
abbrev pub LookupPathsAgree : Type 0
LookupPathsAgree =
    (table : Table) (root : ShapeId) (plan : Plan) (path : List Step) → IsChecked table → IsIn table root.0
    → IsPlanOf table root plan
    → option_map shape_of (node_by_lookups plan plan.root path) ≡ shape_by_lookups table root path
