-- What a node says, told from its outline and the table: its kind, its strategy, whether there is a default, and the nodes
-- of its proxies.
use Rattle.std.specs.Prelude.{◌≡◌, ◌==◌, Bool, true, false, not, ◌&&◌, ◌||◌, List, [], length, map, drop, zip, slice_get, Option, Some, None, is_some, option_to_list, IsSomeAnd, if◌then◌else◌}
use Rattle.std.specs.Option.{option_map}
use Rattle.std.specs.List.{AllZip}
use Rattle.fr_shape.specs.declared.shape.Shape.{Shape}
use Rattle.fr_shape.specs.declared.shape.ShapeId.{ShapeId}
use Rattle.fr_shape.specs.declared.shape.Def.{Def}
use Rattle.fr_shape.specs.declared.shape.Field.{Field}
use Rattle.fr_shape.specs.declared.shape.FormatProxy.{FormatProxy}
use Rattle.fr_shape.specs.declared.shape.ProxyDef.{ProxyDef}
use Rattle.fr_shape.specs.declared.shape.ScalarKind.{ScalarKind}
use Rattle.fr_shape.specs.declared.shape.StructKind.{StructKind}
use Rattle.fr_shape.specs.declared.shape.StructDef.{StructDef}
use Rattle.fr_shape.specs.declared.shape.PointerDef.{PointerDef}
use Rattle.fr_shape.specs.Look.{Table, def_of, field_at}
use Rattle.fr_shape.specs.Checked.{pointees_of, proxies_of}
use Rattle.fr_shape.specs.Fills.{has_default}
use Rattle.fr_shape.specs.Lists.{is_nil}
use Rattle.fr_plan.specs.declared.nodes.NodeId.{NodeId}
use Rattle.fr_plan.specs.declared.nodes.ProxyNodes.{ProxyNodes}
use Rattle.fr_plan.specs.declared.nodes.TypePlanNode.{TypePlanNode}
use Rattle.fr_plan.specs.declared.nodes.TypePlanNodeKind.{TypePlanNodeKind}
use Rattle.fr_plan.specs.declared.nodes.DeserStrategy.{DeserStrategy}
use Rattle.fr_plan.specs.declared.outlines.Outline.{Outline}
use Rattle.fr_plan.specs.declared.outlines.Role.{Role}
use Rattle.fr_plan.specs.declared.plan_lists.PlanLists.{PlanLists}
use Rattle.fr_plan.specs.declared.plans.EnumPlan.{EnumPlan}
use Rattle.fr_plan.specs.declared.plans.StructPlan.{StructPlan}
use Rattle.fr_plan.specs.Plans.{nth_node, scalar_of, IsStructPlan, IsEnumPlan}

-- Kinds.

abbrev pub struct_plan_of : TypePlanNodeKind → Option StructPlan
struct_plan_of (TypePlanNodeKind.Struct plan) = Some plan
struct_plan_of _ = None

abbrev pub enum_plan_of : TypePlanNodeKind → Option EnumPlan
enum_plan_of (TypePlanNodeKind.Enum plan) = Some plan
enum_plan_of _ = None

abbrev pub pointer_kind : PointerDef → TypePlanNodeKind
pointer_kind pointer =
    if is_some pointer.pointee then TypePlanNodeKind.Pointer else TypePlanNodeKind.OpaquePointer

-- the shape is opaque or undefined, but built from another
abbrev pub is_built_from : Shape → Bool
is_built_from shape = is_some shape.builder && is_some shape.convert

abbrev pub opaque_kind : Shape → TypePlanNodeKind
opaque_kind shape = if is_built_from shape then TypePlanNodeKind.Transparent else TypePlanNodeKind.Opaque

-- the kind of a shape's own node, by the shape's definition; `nodes` are those of its children
abbrev pub IsKindBy : Table → PlanLists → ShapeId → (nodes : List NodeId) → Shape → Def → TypePlanNodeKind → Type 0
IsKindBy table lists id nodes shape (Def.Scalar kind) is = is ≡ TypePlanNodeKind.Scalar
IsKindBy table lists id nodes shape Def.Str is = is ≡ TypePlanNodeKind.Scalar
IsKindBy table lists id nodes shape (Def.Option t) is = is ≡ TypePlanNodeKind.Option
IsKindBy table lists id nodes shape (Def.List t) is = is ≡ TypePlanNodeKind.List
IsKindBy table lists id nodes shape (Def.Set t) is = is ≡ TypePlanNodeKind.Set
IsKindBy table lists id nodes shape (Def.Array t n) is = is ≡ TypePlanNodeKind.Array n
IsKindBy table lists id nodes shape (Def.Slice t) is = is ≡ TypePlanNodeKind.Slice
IsKindBy table lists id nodes shape (Def.Result t e) is = is ≡ TypePlanNodeKind.Result
IsKindBy table lists id nodes shape (Def.Map k v) is = is ≡ TypePlanNodeKind.Map
IsKindBy table lists id nodes shape (Def.Pointer pointer) is = is ≡ pointer_kind pointer
IsKindBy table lists id nodes shape Def.Dynamic is = is ≡ TypePlanNodeKind.DynamicValue
IsKindBy table lists id nodes shape (Def.Struct struct) is =
    IsSomeAnd (struct_plan_of is) (IsStructPlan table lists id nodes shape struct)
IsKindBy table lists id nodes shape (Def.Enum enumeration) is =
    IsSomeAnd (enum_plan_of is) (IsEnumPlan table lists id nodes enumeration)
IsKindBy table lists id nodes shape Def.Opaque is = is ≡ opaque_kind shape
IsKindBy table lists id nodes shape Def.Undefined is = is ≡ opaque_kind shape
IsKindBy table lists id nodes shape Def.Other is = is ≡ TypePlanNodeKind.Transparent

-- the kind of a shape's own node (a shape that the table hasn't, which is never met, would have a reference to it)
abbrev pub IsOwnKind : Table → PlanLists → ShapeId → (nodes : List NodeId) → Option Shape → TypePlanNodeKind → Type 0
IsOwnKind table lists id nodes (Some shape) is = IsKindBy table lists id nodes shape shape.def is
IsOwnKind table lists id nodes None is = is ≡ TypePlanNodeKind.BackRef id

abbrev pub IsKindOf : Table → PlanLists → Outline → Role → TypePlanNodeKind → Type 0
IsKindOf table lists outline Role.Own is =
    IsOwnKind table lists outline.shape outline.children (slice_get table outline.shape.0) is
IsKindOf table lists outline Role.BackRef is = is ≡ TypePlanNodeKind.BackRef outline.shape
IsKindOf table lists outline (Role.FieldProxy field) is = is ≡ TypePlanNodeKind.BackRef outline.shape

-- Strategies.

abbrev pub has_proxy : Shape → Bool
has_proxy shape = not (is_nil (proxies_of shape.proxy shape.format_proxies))

-- the kind is Pointer
abbrev pub has_pointee : Def → Bool
has_pointee def = not (is_nil (pointees_of def))

-- the kind is Transparent
abbrev pub is_transparent : Def → Shape → Bool
is_transparent Def.Opaque shape = is_built_from shape
is_transparent Def.Undefined shape = is_built_from shape
is_transparent Def.Other shape = true
is_transparent (Def.Scalar kind) shape = false
is_transparent Def.Str shape = false
is_transparent (Def.Struct struct) shape = false
is_transparent (Def.Enum enumeration) shape = false
is_transparent (Def.Option t) shape = false
is_transparent (Def.Result t e) shape = false
is_transparent (Def.List t) shape = false
is_transparent (Def.Map k v) shape = false
is_transparent (Def.Set t) shape = false
is_transparent (Def.Array t n) shape = false
is_transparent (Def.Pointer pointer) shape = false
is_transparent (Def.Slice t) shape = false
is_transparent Def.Dynamic shape = false

-- the shape is converted from what it wraps, or from what it is built from
abbrev pub is_converted : Shape → Bool
is_converted shape = is_some shape.convert && (is_some shape.inner || is_transparent shape.def shape)

abbrev pub struct_strategy : StructDef → StructKind → (transparent : Bool) → DeserStrategy
struct_strategy struct StructKind.Struct transparent = DeserStrategy.Struct
struct_strategy struct StructKind.Unit transparent = DeserStrategy.Struct
struct_strategy struct StructKind.Tuple transparent =
    DeserStrategy.Tuple (length struct.fields) ((length struct.fields == 1) && transparent)
struct_strategy struct StructKind.TupleStruct transparent =
    DeserStrategy.Tuple (length struct.fields) ((length struct.fields == 1) && transparent)

abbrev pub is_byte : Option ScalarKind → Bool
is_byte (Some ScalarKind.U8) = true
is_byte _ = false

-- By kind alone. (An `Other` that comes to here is converted: one that isn't, and has no proxy and no metadata, is refused.)
abbrev pub strategy_by_kind : Table → (nodes : List NodeId) → Shape → Def → DeserStrategy
strategy_by_kind table nodes shape (Def.Scalar kind) = DeserStrategy.Scalar (Some kind) true
strategy_by_kind table nodes shape Def.Str = DeserStrategy.Scalar None true
strategy_by_kind table nodes shape Def.Opaque = DeserStrategy.Opaque
strategy_by_kind table nodes shape Def.Undefined = DeserStrategy.Opaque
strategy_by_kind table nodes shape (Def.Struct struct) = struct_strategy struct struct.kind shape.transparent
strategy_by_kind table nodes shape (Def.Enum enumeration) = DeserStrategy.Enum
strategy_by_kind table nodes shape (Def.Option t) = DeserStrategy.Option (nth_node nodes 0)
strategy_by_kind table nodes shape (Def.Result t e) = DeserStrategy.Result (nth_node nodes 0) (nth_node nodes 1)
strategy_by_kind table nodes shape (Def.List t) = DeserStrategy.List (nth_node nodes 0) (is_byte (scalar_of (def_of table t.0)))
strategy_by_kind table nodes shape (Def.Map k v) = DeserStrategy.Map (nth_node nodes 0) (nth_node nodes 1)
strategy_by_kind table nodes shape (Def.Set t) = DeserStrategy.Set (nth_node nodes 0)
strategy_by_kind table nodes shape (Def.Array t n) = DeserStrategy.Array n (nth_node nodes 0)
strategy_by_kind table nodes shape (Def.Pointer pointer) = DeserStrategy.OpaquePointer
strategy_by_kind table nodes shape (Def.Slice t) = DeserStrategy.List (nth_node nodes 0) false
strategy_by_kind table nodes shape Def.Dynamic = DeserStrategy.DynamicValue
strategy_by_kind table nodes shape Def.Other = DeserStrategy.TransparentConvert (nth_node nodes 0)

-- The strategy of a shape's own node: the first that holds.
abbrev pub own_strategy : Table → (nodes : List NodeId) → Shape → DeserStrategy
own_strategy table nodes shape =
    if has_proxy shape then DeserStrategy.ContainerProxy
    else if has_pointee shape.def then DeserStrategy.Pointer (nth_node nodes 0)
    else if shape.metadata then DeserStrategy.MetadataContainer
    else if is_converted shape then DeserStrategy.TransparentConvert (nth_node nodes 0)
    else strategy_by_kind table nodes shape shape.def

abbrev pub strategy_in : Table → ShapeId → (nodes : List NodeId) → Option Shape → DeserStrategy
strategy_in table id nodes (Some shape) = own_strategy table nodes shape
strategy_in table id nodes None = DeserStrategy.BackRef id

abbrev pub strategy_of : Table → Outline → Role → DeserStrategy
strategy_of table outline Role.Own =
    strategy_in table outline.shape outline.children (slice_get table outline.shape.0)
strategy_of table outline Role.BackRef = DeserStrategy.BackRef outline.shape
strategy_of table outline (Role.FieldProxy field) = DeserStrategy.FieldProxy

-- Proxies.

-- the proxies of a shape or of a field
pub record Proxies : Type 0 where
  pub generic : Option ProxyDef
  pub by_format : List FormatProxy

abbrev pub no_proxies : Proxies
no_proxies = record { generic = None; by_format = [] }

abbrev pub shape_proxies : Option Shape → Proxies
shape_proxies (Some shape) = record { generic = shape.proxy; by_format = shape.format_proxies }
shape_proxies None = no_proxies

abbrev pub field_proxies : Option Field → Proxies
field_proxies (Some field) = record { generic = field.proxy; by_format = field.format_proxies }
field_proxies None = no_proxies

-- whose proxies a node has
abbrev pub proxies_in : Table → Outline → Role → Proxies
proxies_in table outline Role.Own = shape_proxies (slice_get table outline.shape.0)
proxies_in table outline Role.BackRef = no_proxies
proxies_in table outline (Role.FieldProxy field) = field_proxies (field_at table field)

-- the first node is that of the proxy for all formats, where there is one; then come those by format
pub record AreProxyNodes (proxies : Proxies) (nodes : List NodeId) (is : ProxyNodes) : Type 0 where
  pub generic : is.generic ≡ option_map (λ proxy. nth_node nodes 0) proxies.generic
  pub format_specific :
      is.format_specific.items
      ≡ zip (map (λ (formatted : FormatProxy). formatted.format) proxies.by_format)
      (drop (length (option_to_list proxies.generic)) nodes)

-- the node that this outline describes
pub record IsNode (table : Table) (lists : PlanLists) (outline : Outline) (node : TypePlanNode) : Type 0 where
  pub shape : node.shape ≡ outline.shape
  pub kind : IsKindOf table lists outline outline.role node.kind
  pub strategy : node.strategy ≡ strategy_of table outline outline.role
  pub has_default : node.has_default ≡ has_default table outline.shape.0
  pub proxies : AreProxyNodes (proxies_in table outline outline.role) outline.sources node.proxies

-- each outline's node, in order
abbrev pub AreNodes : Table → PlanLists → List Outline → List TypePlanNode → Type 0
AreNodes table lists outlines nodes = AllZip (IsNode table lists) outlines nodes
