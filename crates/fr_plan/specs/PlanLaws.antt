-- What holds of every whole plan: its back references resolve, and its nodes are linked as the table says.
use Rattle.std.specs.Prelude.{◌≡◌, ◌≢◌, ℕ, ◌+◌, ◌<◌, List, [], length, slice_get, Some, None, is_some, Ok}
use Rattle.std.specs.List.{All, AllZip}
use Rattle.fr_shape.specs.declared.shape.Shape.{Shape}
use Rattle.fr_shape.specs.declared.shape.ShapeId.{ShapeId}
use Rattle.fr_shape.specs.declared.shape.Def.{Def}
use Rattle.fr_shape.specs.Checked.{IsChecked}
use Rattle.fr_shape.specs.Look.{Table, IsIn}
use Rattle.fr_shape.specs.Plannable.{Reached, own_sources, field_sources, children_by, refusal_of}
use Rattle.fr_plan.specs.declared.nodes.NodeId.{NodeId}
use Rattle.fr_plan.specs.declared.outlines.Outline.{Outline}
use Rattle.fr_plan.specs.declared.outlines.Role.{Role}
use Rattle.fr_plan.specs.declared.outlines.Mark.{Mark}
use Rattle.fr_plan.specs.declared.outlines.Walk.{Walk}
use Rattle.fr_plan.specs.Build.{Made, Placed, fields_from, variant_fields_from, planned}

-- the node of this number is one of this shape
pub record IsNodeOf (nodes : List Outline) (node : NodeId) (id : ShapeId) : Type 0 where
  pub outline : Outline
  pub here : slice_get nodes node.0 ≡ Some outline
  pub shape : outline.shape ≡ id

-- the node of this number is the shape's own
pub record IsOwnNode (nodes : List Outline) (node : NodeId) (id : ShapeId) : Type 0 where
  pub outline : Outline
  pub here : slice_get nodes node.0 ≡ Some outline
  pub shape : outline.shape ≡ id
  pub role : outline.role ≡ Role.Own

-- the shape was built to its end: its mark leads to its own node
pub record HasOwn (walk : Walk) (id : ShapeId) : Type 0 where
  pub node : NodeId
  pub mark : slice_get walk.marks id.0 ≡ Some (Mark.Done node)
  pub own : IsOwnNode walk.nodes node id

-- the node of a field is one of the field's shape; where the field has proxies it is the field's own, with the nodes of
-- the proxies' sources
pub record IsFieldNode (nodes : List Outline) (node : NodeId) (placed : Placed) : Type 0 where
  pub outline : Outline
  pub here : slice_get nodes node.0 ≡ Some outline
  pub shape : outline.shape ≡ placed.field.shape
  pub proxied :
      field_sources placed.field ≢ []
      → (outline.role ≡ Role.FieldProxy placed.meant) × AllZip (IsNodeOf nodes) outline.sources (field_sources placed.field)

-- the nodes of a shape's children, in order
abbrev pub AreChildrenBy : List Outline → ShapeId → Shape → Def → (children : List NodeId) → Type 0
AreChildrenBy nodes id shape (Def.Struct struct) children =
    AllZip (IsFieldNode nodes) children (fields_from id None 0 struct.fields)
AreChildrenBy nodes id shape (Def.Enum enumeration) children =
    AllZip (IsFieldNode nodes) children (variant_fields_from id 0 enumeration.variants)
AreChildrenBy nodes id shape def children = AllZip (IsNodeOf nodes) children (children_by def shape)

-- a shape's own node: its sources and children are nodes of the shapes that the table names, and it isn't refused
pub record IsLinked (table : Table) (nodes : List Outline) (outline : Outline) : Type 0 where
  pub shape : Shape
  pub here : slice_get table outline.shape.0 ≡ Some shape
  pub sources : AllZip (IsNodeOf nodes) outline.sources (own_sources shape)
  pub children : AreChildrenBy nodes outline.shape shape shape.def outline.children
  pub converts : outline.converts ≡ is_some shape.convert
  pub plannable : refusal_of shape ≡ None

-- all these nodes are there
abbrev pub AreThere : List Outline → List NodeId → Type 0
AreThere nodes listed = All (λ (node : NodeId). node.0 < length nodes) listed

-- what holds of one node of a whole plan
pub record IsWhole (table : Table) (root : ShapeId) (walk : Walk) (outline : Outline) : Type 0 where
  -- a back reference resolves: the shape's mark leads to its own node
  pub resolved : HasOwn walk outline.shape
  pub linked : outline.role ≡ Role.Own → IsLinked table walk.nodes outline
  pub children : AreThere walk.nodes outline.children
  pub sources : AreThere walk.nodes outline.sources
  pub reached : Reached table root.0 outline.shape.0

-- a whole plan
pub record IsComplete (table : Table) (root : ShapeId) (made : Made) : Type 0 where
  pub marks : length made.walk.marks ≡ length table
  pub root_mark : slice_get made.walk.marks root.0 ≡ Some (Mark.Done made.node)
  pub last : made.node.0 + 1 ≡ length made.walk.nodes
  pub finished : (i : ℕ) → slice_get made.walk.marks i ≢ Some Mark.Building
  pub done :
      (id : ShapeId) (node : NodeId) → slice_get made.walk.marks id.0 ≡ Some (Mark.Done node)
      → IsOwnNode made.walk.nodes node id
  pub nodes :
      (i : ℕ) (outline : Outline) → slice_get made.walk.nodes i ≡ Some outline → IsWhole table root made.walk outline

-- over a checked table, what is planned of a root in range is whole
abbrev pub PlansAreComplete : Type 0
PlansAreComplete =
    (table : Table) (root : ShapeId) (made : Made) → IsChecked table → IsIn table root.0 → planned table root ≡ Ok made
    → IsComplete table root made
