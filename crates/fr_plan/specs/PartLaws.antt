-- What a plan lends can be handed to it again: the ranges that its parts name lie inside its lists, their lookups are of its pool, and
-- their nodes are its own.
use Rattle.std.specs.Prelude.{◌≡◌, ℕ, ◌+◌, ◌<◌, ◌≤◌, List, length, Option, Some}
use Rattle.std.specs.List.{All}
use Rattle.fr_arena.specs.Ranges.{Range}
use Rattle.fr_rules.specs.FieldLookups.{IsOfPool}
use Rattle.fr_rules.specs.Pools.{part_of}
use Rattle.fr_shape.specs.declared.shape.ShapeId.{ShapeId}
use Rattle.fr_shape.specs.Checked.{IsChecked}
use Rattle.fr_shape.specs.Look.{Table, IsIn}
use Rattle.fr_plan.specs.declared.nodes.DeserStrategy.{DeserStrategy}
use Rattle.fr_plan.specs.declared.nodes.NodeId.{NodeId}
use Rattle.fr_plan.specs.declared.nodes.ProxyNodes.{ProxyNodes}
use Rattle.fr_plan.specs.declared.nodes.TypePlanNode.{TypePlanNode}
use Rattle.fr_plan.specs.declared.plans.EnumPlan.{EnumPlan}
use Rattle.fr_plan.specs.declared.plans.FieldPlan.{FieldPlan}
use Rattle.fr_plan.specs.declared.plans.StructPlan.{StructPlan}
use Rattle.fr_plan.specs.declared.plans.VariantPlanMeta.{VariantPlanMeta}
use Rattle.fr_plan.specs.LookupLaws.{Step, looked_up}
use Rattle.fr_plan.specs.Lookups.{node_at, own_id, resolved, resolved_id, struct_plan_at, enum_plan_at, variant_plan_at, field_plans_at, by_id}
use Rattle.fr_plan.specs.Nodes.{struct_plan_of, enum_plan_of}
use Rattle.fr_plan.specs.ProxyLookups.{node_for}
use Rattle.fr_plan.specs.TypePlan.{Plan, IsPlanOf}

-- the range lies inside the list
abbrev pub IsWithin : {X : Type 0} → List X → Range → Type 0
IsWithin list range = range.start + range.len ≤ length list

-- the plan has a node of this number
abbrev pub HasNode : Plan → NodeId → Type 0
HasNode plan id = id.0 < length plan.nodes

-- the plan has what a field names: its node and its validators
pub record HasFieldParts (plan : Plan) (field : FieldPlan) : Type 0 where
  pub node : HasNode plan field.type_node
  pub validators : IsWithin plan.lists.validators field.validators

-- the plan has the fields of this range, and what each of them names
pub record HasFields (plan : Plan) (fields : Range) : Type 0 where
  pub inside : IsWithin plan.lists.fields fields
  pub each : All (HasFieldParts plan) (part_of plan.lists.fields fields)

-- the plan has what a struct names: its fields, and what its lookup needs of the pool
pub record HasStructParts (plan : Plan) (struct : StructPlan) : Type 0 where
  pub fields : HasFields plan struct.fields
  pub lookup : IsOfPool plan.lists.lookups struct.field_lookup

-- and so of a variant
pub record HasVariantParts (plan : Plan) (variant : VariantPlanMeta) : Type 0 where
  pub fields : HasFields plan variant.fields
  pub lookup : IsOfPool plan.lists.lookups variant.field_lookup

-- the plan has what an enum names: its variants, and what each of them names
pub record HasEnumParts (plan : Plan) (enumeration : EnumPlan) : Type 0 where
  pub inside : IsWithin plan.lists.variants enumeration.variants
  pub each : All (HasVariantParts plan) (part_of plan.lists.variants enumeration.variants)

-- the plan has the nodes that a strategy names
abbrev pub HasStrategyNodes : Plan → DeserStrategy → Type 0
HasStrategyNodes plan (DeserStrategy.Pointer pointee) = HasNode plan pointee
HasStrategyNodes plan (DeserStrategy.TransparentConvert source) = HasNode plan source
HasStrategyNodes plan (DeserStrategy.Option content) = HasNode plan content
HasStrategyNodes plan (DeserStrategy.Result ok err) = HasNode plan ok × HasNode plan err
HasStrategyNodes plan (DeserStrategy.List item of_bytes) = HasNode plan item
HasStrategyNodes plan (DeserStrategy.Map key value) = HasNode plan key × HasNode plan value
HasStrategyNodes plan (DeserStrategy.Set item) = HasNode plan item
HasStrategyNodes plan (DeserStrategy.Array len item) = HasNode plan item
HasStrategyNodes plan DeserStrategy.ContainerProxy = Unit {0}
HasStrategyNodes plan DeserStrategy.FieldProxy = Unit {0}
HasStrategyNodes plan DeserStrategy.OpaquePointer = Unit {0}
HasStrategyNodes plan DeserStrategy.Opaque = Unit {0}
HasStrategyNodes plan (DeserStrategy.Scalar kind from_text) = Unit {0}
HasStrategyNodes plan DeserStrategy.Struct = Unit {0}
HasStrategyNodes plan (DeserStrategy.Tuple count transparent) = Unit {0}
HasStrategyNodes plan DeserStrategy.Enum = Unit {0}
HasStrategyNodes plan DeserStrategy.DynamicValue = Unit {0}
HasStrategyNodes plan DeserStrategy.MetadataContainer = Unit {0}
HasStrategyNodes plan (DeserStrategy.BackRef target) = Unit {0}

-- the plan has the node of a proxy, whatever the format
abbrev pub HasProxyNodes : Plan → ProxyNodes → Type 0
HasProxyNodes plan proxies = (format : Option (List ℕ)) (id : NodeId) → node_for proxies format ≡ Some id → HasNode plan id

-- the plan has all that a node names
pub record HasNodeParts (plan : Plan) (node : TypePlanNode) : Type 0 where
  pub structs : (struct : StructPlan) → struct_plan_of node.kind ≡ Some struct → HasStructParts plan struct
  pub enums : (enumeration : EnumPlan) → enum_plan_of node.kind ≡ Some enumeration → HasEnumParts plan enumeration
  pub strategy : HasStrategyNodes plan node.strategy
  pub proxies : HasProxyNodes plan node.proxies

-- The plan has all that is named by what it lends at this number: by the node and by the one that it stands for, whose number is there
-- too; by the plans of a struct, of an enum, of a variant and of fields; and each child's node.
pub record HasPartsAt (plan : Plan) (id : NodeId) : Type 0 where
  pub node : (node : TypePlanNode) → node_at plan id ≡ Some node → HasNodeParts plan node
  pub resolved : (node : TypePlanNode) → node_at plan id ≡ Some node → HasNodeParts plan (resolved plan node)
  pub resolved_id : HasNode plan id → HasNode plan (resolved_id plan id)
  pub structs : (struct : StructPlan) → by_id plan (struct_plan_at plan) id ≡ Some struct → HasStructParts plan struct
  pub enums :
      (enumeration : EnumPlan) → by_id plan (enum_plan_at plan) id ≡ Some enumeration → HasEnumParts plan enumeration
  pub variants :
      (selected : Option ℕ) (variant : VariantPlanMeta) → variant_plan_at plan selected id ≡ Some variant
      → HasVariantParts plan variant
  pub fields :
      (selected : Option ℕ) (fields : List FieldPlan) → field_plans_at plan selected id ≡ Some fields
      → All (HasFieldParts plan) fields
  pub children :
      (step : Step) (child : NodeId) → by_id plan (λ (node : TypePlanNode). looked_up plan node step) id ≡ Some child
      → HasNode plan child

-- a plan over a checked table has all that it lends at the number of any node
abbrev pub PlansHaveTheirParts : Type 0
PlansHaveTheirParts =
    (table : Table) (root : ShapeId) (plan : Plan) (id : NodeId) → IsChecked table → IsIn table root.0
    → IsPlanOf table root plan → HasPartsAt plan id

-- and the own node of each shape
abbrev pub PlansHaveOwnNodes : Type 0
PlansHaveOwnNodes =
    (table : Table) (root : ShapeId) (plan : Plan) (shape : ShapeId) (id : NodeId) → IsChecked table → IsIn table root.0
    → IsPlanOf table root plan → own_id plan shape ≡ Some id → HasNode plan id
