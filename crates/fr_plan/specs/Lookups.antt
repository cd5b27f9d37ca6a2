-- What is looked up in a plan. A node that refers back stands for the own node of its shape; a child is looked up by the kind
-- of the node that is stood for, and there is none where that kind has no such child.
use Rattle.std.specs.Prelude.{ℕ, Bool, true, false, List, slice_get, Option, Some, None, unwrap_or, if◌then◌else◌}
use Rattle.std.specs.Option.{option_map, option_and_then}
use Rattle.fr_arena.specs.Ranges.{Range}
use Rattle.fr_rules.specs.Pools.{part_of}
use Rattle.fr_shape.specs.declared.shape.ShapeId.{ShapeId}
use Rattle.fr_plan.specs.declared.nodes.NodeId.{NodeId}
use Rattle.fr_plan.specs.declared.nodes.TypePlanNode.{TypePlanNode}
use Rattle.fr_plan.specs.declared.nodes.TypePlanNodeKind.{TypePlanNodeKind}
use Rattle.fr_plan.specs.declared.outlines.Mark.{Mark}
use Rattle.fr_plan.specs.declared.outlines.Outline.{Outline}
use Rattle.fr_plan.specs.declared.plans.EnumPlan.{EnumPlan}
use Rattle.fr_plan.specs.declared.plans.FieldPlan.{FieldPlan}
use Rattle.fr_plan.specs.declared.plans.StructPlan.{StructPlan}
use Rattle.fr_plan.specs.declared.plans.VariantPlanMeta.{VariantPlanMeta}
use Rattle.fr_plan.specs.Nodes.{struct_plan_of, enum_plan_of}
use Rattle.fr_plan.specs.TypePlan.{Plan}

-- the node of this number
abbrev pub node_at : Plan → NodeId → Option TypePlanNode
node_at plan id = slice_get plan.nodes id.0

-- the node that was looked up, where one was
abbrev pub node_found : Plan → Option NodeId → Option TypePlanNode
node_found plan found = option_and_then (node_at plan) found

-- Own nodes.

abbrev pub finished : Option Mark → Option NodeId
finished (Some (Mark.Done node)) = Some node
finished _ = None

-- the own node of a shape
abbrev pub own_id : Plan → ShapeId → Option NodeId
own_id plan shape = finished (slice_get plan.walk.marks shape.0)

abbrev pub own_node : Plan → ShapeId → Option TypePlanNode
own_node plan shape = node_found plan (own_id plan shape)

abbrev pub resolved_by : TypePlanNodeKind → (own : ShapeId → Option TypePlanNode) → TypePlanNode → TypePlanNode
resolved_by (TypePlanNodeKind.BackRef shape) own node = unwrap_or (own shape) node
resolved_by _ own node = node

-- a node that refers back stands for the own node of its shape (which each such node of a plan has), any other for itself
abbrev pub resolved : Plan → TypePlanNode → TypePlanNode
resolved plan node = resolved_by node.kind (own_node plan) node

abbrev pub resolved_id_by : Option TypePlanNodeKind → (own : ShapeId → Option NodeId) → NodeId → NodeId
resolved_id_by (Some (TypePlanNodeKind.BackRef shape)) own id = unwrap_or (own shape) id
resolved_id_by _ own id = id

-- the same by number
abbrev pub resolved_id : Plan → NodeId → NodeId
resolved_id plan id =
    resolved_id_by (option_map (λ (node : TypePlanNode). node.kind) (node_at plan id)) (own_id plan) id

-- Plans of structs and enums.

abbrev pub struct_plan_at : Plan → TypePlanNode → Option StructPlan
struct_plan_at plan node = struct_plan_of (resolved plan node).kind

abbrev pub enum_plan_at : Plan → TypePlanNode → Option EnumPlan
enum_plan_at plan node = enum_plan_of (resolved plan node).kind

abbrev pub field_in_range : Plan → Range → ℕ → Option NodeId
field_in_range plan fields i =
    option_map (λ (field : FieldPlan). field.type_node) (slice_get (part_of plan.lists.fields fields) i)

-- the field of this number of a struct
abbrev pub struct_field : Plan → TypePlanNode → ℕ → Option NodeId
struct_field plan parent i =
    option_and_then (λ (struct : StructPlan). field_in_range plan struct.fields i) (struct_plan_at plan parent)

-- the variant of this number of an enum
abbrev pub enum_variant : Plan → TypePlanNode → ℕ → Option VariantPlanMeta
enum_variant plan parent i =
    option_and_then (λ (enumeration : EnumPlan). slice_get (part_of plan.lists.variants enumeration.variants) i)
    (enum_plan_at plan parent)

-- the field of this number of a variant of an enum
abbrev pub enum_variant_field : Plan → TypePlanNode → (variant : ℕ) → ℕ → Option NodeId
enum_variant_field plan parent variant i =
    option_and_then (λ (found : VariantPlanMeta). field_in_range plan found.fields i) (enum_variant plan parent variant)

-- Other children.

-- the child of this place, as it was built for the shape's own node
abbrev pub own_outline : Plan → ShapeId → Option Outline
own_outline plan shape =
    option_and_then (λ (id : NodeId). slice_get plan.walk.nodes id.0) (own_id plan shape)

abbrev pub child_at : Plan → ShapeId → ℕ → Option NodeId
child_at plan shape place =
    option_and_then (λ (outline : Outline). slice_get outline.children place) (own_outline plan shape)

-- the child of this place, where the kind has it
abbrev pub child_if : Bool → Plan → TypePlanNode → ℕ → Option NodeId
child_if there plan parent place = if there then child_at plan parent.shape place else None

abbrev pub has_items : TypePlanNodeKind → Bool
has_items TypePlanNodeKind.List = true
has_items (TypePlanNodeKind.Array len) = true
has_items TypePlanNodeKind.Slice = true
has_items _ = false

abbrev pub is_set : TypePlanNodeKind → Bool
is_set TypePlanNodeKind.Set = true
is_set _ = false

abbrev pub is_map : TypePlanNodeKind → Bool
is_map TypePlanNodeKind.Map = true
is_map _ = false

abbrev pub is_option : TypePlanNodeKind → Bool
is_option TypePlanNodeKind.Option = true
is_option _ = false

abbrev pub is_result : TypePlanNodeKind → Bool
is_result TypePlanNodeKind.Result = true
is_result _ = false

abbrev pub is_pointer : TypePlanNodeKind → Bool
is_pointer TypePlanNodeKind.Pointer = true
is_pointer _ = false

abbrev pub list_item : Plan → TypePlanNode → Option NodeId
list_item plan parent = child_if (has_items (resolved plan parent).kind) plan parent 0

abbrev pub set_item : Plan → TypePlanNode → Option NodeId
set_item plan parent = child_if (is_set (resolved plan parent).kind) plan parent 0

abbrev pub map_key : Plan → TypePlanNode → Option NodeId
map_key plan parent = child_if (is_map (resolved plan parent).kind) plan parent 0

abbrev pub map_value : Plan → TypePlanNode → Option NodeId
map_value plan parent = child_if (is_map (resolved plan parent).kind) plan parent 1

abbrev pub option_inner : Plan → TypePlanNode → Option NodeId
option_inner plan parent = child_if (is_option (resolved plan parent).kind) plan parent 0

abbrev pub result_ok : Plan → TypePlanNode → Option NodeId
result_ok plan parent = child_if (is_result (resolved plan parent).kind) plan parent 0

abbrev pub result_err : Plan → TypePlanNode → Option NodeId
result_err plan parent = child_if (is_result (resolved plan parent).kind) plan parent 1

abbrev pub pointer_pointee : Plan → TypePlanNode → Option NodeId
pointer_pointee plan parent = child_if (is_pointer (resolved plan parent).kind) plan parent 0

abbrev pub converts : Option Outline → Bool
converts (Some outline) = outline.converts
converts None = false

-- the child of a shape that is converted from it
abbrev pub inner : Plan → TypePlanNode → Option NodeId
inner plan parent = child_if (converts (own_outline plan parent.shape)) plan parent 0

abbrev pub both : Option NodeId → Option NodeId → Option (NodeId × NodeId)
both (Some first) (Some second) = Some (first, second)
both _ _ = None

-- the ok side and the err side of a result
abbrev pub result_sides : Plan → TypePlanNode → Option (NodeId × NodeId)
result_sides plan parent = both (result_ok plan parent) (result_err plan parent)

-- the same of a node by its number
abbrev pub by_id : {X : Type 0} → Plan → (TypePlanNode → Option X) → NodeId → Option X
by_id plan looks_up id = option_and_then looks_up (node_at plan id)

-- What is read of a struct, or of the variant of an enum that is selected, by the number of its node.

-- the plan of the variant that is selected, if one is
abbrev pub variant_plan_at : Plan → (selected : Option ℕ) → NodeId → Option VariantPlanMeta
variant_plan_at plan (Some k) id = by_id plan (λ node. enum_variant plan node k) id
variant_plan_at plan None id = None

-- where the plans of its fields lie: those of the variant that is selected, or of a struct
abbrev pub field_range_at : Plan → (selected : Option ℕ) → NodeId → Option Range
field_range_at plan (Some k) id = option_map (λ (variant : VariantPlanMeta). variant.fields) (variant_plan_at plan (Some k) id)
field_range_at plan None id = option_map (λ (struct : StructPlan). struct.fields) (by_id plan (struct_plan_at plan) id)

-- the plans of its fields
abbrev pub field_plans_at : Plan → (selected : Option ℕ) → NodeId → Option (List FieldPlan)
field_plans_at plan selected id = option_map (part_of plan.lists.fields) (field_range_at plan selected id)
