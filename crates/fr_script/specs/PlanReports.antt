-- What is told of a plan: of each node its shape, its kind and its strategy, by their names.
use Rattle.std.specs.Prelude.{ℕ, List, Option, Some, None, slice_get, codes}
use Rattle.fr_shape.specs.declared.shape.Shape.{Shape}
use Rattle.fr_shape.specs.declared.shape.Def.{Def}
use Rattle.fr_shape.specs.Look.{Table}
use Rattle.fr_doc.specs.Details.{name_in}
use Rattle.fr_plan.specs.declared.nodes.TypePlanNode.{TypePlanNode}
use Rattle.fr_plan.specs.declared.nodes.TypePlanNodeKind.{TypePlanNodeKind}
use Rattle.fr_plan.specs.declared.nodes.DeserStrategy.{DeserStrategy}
use Rattle.fr_plan.specs.declared.outlines.Outline.{Outline}
use Rattle.fr_plan.specs.declared.outlines.Role.{Role}
use Rattle.fr_plan.specs.Nodes.{pointer_kind, opaque_kind, strategy_of}

abbrev pub node_kind_name : TypePlanNodeKind → List ℕ
node_kind_name TypePlanNodeKind.Scalar = codes "Scalar"
node_kind_name (TypePlanNodeKind.Struct plan) = codes "Struct"
node_kind_name (TypePlanNodeKind.Enum plan) = codes "Enum"
node_kind_name TypePlanNodeKind.Option = codes "Option"
node_kind_name TypePlanNodeKind.Result = codes "Result"
node_kind_name TypePlanNodeKind.List = codes "List"
node_kind_name TypePlanNodeKind.Slice = codes "Slice"
node_kind_name TypePlanNodeKind.Map = codes "Map"
node_kind_name TypePlanNodeKind.Set = codes "Set"
node_kind_name (TypePlanNodeKind.Array len) = codes "Array"
node_kind_name TypePlanNodeKind.Pointer = codes "Pointer"
node_kind_name TypePlanNodeKind.OpaquePointer = codes "OpaquePointer"
node_kind_name TypePlanNodeKind.Opaque = codes "Opaque"
node_kind_name TypePlanNodeKind.DynamicValue = codes "DynamicValue"
node_kind_name TypePlanNodeKind.Transparent = codes "Transparent"
node_kind_name (TypePlanNodeKind.BackRef shape) = codes "BackRef"

abbrev pub strategy_name : DeserStrategy → List ℕ
strategy_name DeserStrategy.ContainerProxy = codes "ContainerProxy"
strategy_name DeserStrategy.FieldProxy = codes "FieldProxy"
strategy_name (DeserStrategy.Pointer pointee) = codes "Pointer"
strategy_name DeserStrategy.OpaquePointer = codes "OpaquePointer"
strategy_name DeserStrategy.Opaque = codes "Opaque"
strategy_name (DeserStrategy.TransparentConvert inner) = codes "TransparentConvert"
strategy_name (DeserStrategy.Scalar kind from_str) = codes "Scalar"
strategy_name DeserStrategy.Struct = codes "Struct"
strategy_name (DeserStrategy.Tuple count transparent) = codes "Tuple"
strategy_name DeserStrategy.Enum = codes "Enum"
strategy_name (DeserStrategy.Option some) = codes "Option"
strategy_name (DeserStrategy.Result ok err) = codes "Result"
strategy_name (DeserStrategy.List item bytes) = codes "List"
strategy_name (DeserStrategy.Map key value) = codes "Map"
strategy_name (DeserStrategy.Set item) = codes "Set"
strategy_name (DeserStrategy.Array len item) = codes "Array"
strategy_name DeserStrategy.DynamicValue = codes "DynamicValue"
strategy_name DeserStrategy.MetadataContainer = codes "MetadataContainer"
strategy_name (DeserStrategy.BackRef target) = codes "BackRef"

-- what is told of a node
pub record NodeLine : Type 0 where
  pub kind : List ℕ
  pub shape : List ℕ
  pub strategy : List ℕ

abbrev pub node_line : Table → TypePlanNode → NodeLine
node_line table node = record {
  kind = node_kind_name node.kind;
  shape = name_in table node.shape.0;
  strategy = strategy_name node.strategy;
}

-- The same from the outline that a node is told from.

-- the name of the kind of a shape's own node, by the shape's definition
abbrev pub own_kind_name : Shape → Def → List ℕ
own_kind_name shape (Def.Scalar kind) = codes "Scalar"
own_kind_name shape Def.Str = codes "Scalar"
own_kind_name shape (Def.Option t) = codes "Option"
own_kind_name shape (Def.List t) = codes "List"
own_kind_name shape (Def.Set t) = codes "Set"
own_kind_name shape (Def.Array t n) = codes "Array"
own_kind_name shape (Def.Slice t) = codes "Slice"
own_kind_name shape (Def.Result t e) = codes "Result"
own_kind_name shape (Def.Map k v) = codes "Map"
own_kind_name shape (Def.Pointer pointer) = node_kind_name (pointer_kind pointer)
own_kind_name shape Def.Dynamic = codes "DynamicValue"
own_kind_name shape (Def.Struct struct) = codes "Struct"
own_kind_name shape (Def.Enum enumeration) = codes "Enum"
own_kind_name shape Def.Opaque = node_kind_name (opaque_kind shape)
own_kind_name shape Def.Undefined = node_kind_name (opaque_kind shape)
own_kind_name shape Def.Other = codes "Transparent"

abbrev pub kind_name_in : Option Shape → List ℕ
kind_name_in (Some shape) = own_kind_name shape shape.def
kind_name_in None = codes "BackRef"

abbrev pub kind_name_of : Table → Outline → Role → List ℕ
kind_name_of table outline Role.Own = kind_name_in (slice_get table outline.shape.0)
kind_name_of table outline Role.BackRef = codes "BackRef"
kind_name_of table outline (Role.FieldProxy field) = codes "BackRef"

abbrev pub outline_line : Table → Outline → NodeLine
outline_line table outline = record {
  kind = kind_name_of table outline outline.role;
  shape = name_in table outline.shape.0;
  strategy = strategy_name (strategy_of table outline outline.role);
}
