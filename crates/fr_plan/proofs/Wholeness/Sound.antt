-- What a walk keeps true while it builds, what a call leaves of the walk before it, and what stays as nodes are added.
use Rattle.std.proofs.Common.{◌≡◌, ℕ, ◌≤◌, List, length, slice_get, arith, Some}
use Rattle.std.specs.List.{All, AllZip}
use Rattle.std.proofs.lemmas.List.Elements.{All-weaker}
use Rattle.fr_shape.specs.declared.shape.Shape.{Shape}
use Rattle.fr_shape.specs.declared.shape.ShapeId.{ShapeId}
use Rattle.fr_shape.specs.declared.shape.Def.{Def}
use Rattle.fr_shape.specs.declared.error.AllocError.{AllocError}
use Rattle.fr_shape.specs.Look.{Table}
use Rattle.fr_shape.specs.Plannable.{Reached, own_sources, field_sources, children_by, refusal_of}
use Rattle.fr_plan.specs.declared.nodes.NodeId.{NodeId}
use Rattle.fr_plan.specs.declared.outlines.Outline.{Outline}
use Rattle.fr_plan.specs.declared.outlines.Role.{Role}
use Rattle.fr_plan.specs.declared.outlines.Mark.{Mark}
use Rattle.fr_plan.specs.declared.outlines.Walk.{Walk}
use Rattle.fr_plan.specs.Build.{Made, MadeAll, Placed}
use Rattle.fr_plan.specs.PlanLaws.{IsNodeOf, IsOwnNode, IsFieldNode, AreChildrenBy, IsLinked}
use Rattle.fr_plan.proofs.Growing.{zip_weaker}
use Rattle.fr_plan.proofs.Wholeness.Marks.{unseen_in, IsBegun}

-- the node of this number is there
pub record IsThere (nodes : List Outline) (node : NodeId) : Type 0 where
  pub outline : Outline
  pub here : slice_get nodes node.0 ≡ Some outline

-- what holds of a node as soon as it is there
pub record IsRight (table : Table) (root : ShapeId) (nodes : List Outline) (outline : Outline) : Type 0 where
  pub linked : outline.role ≡ Role.Own → IsLinked table nodes outline
  pub children : All (IsThere nodes) outline.children
  pub sources : All (IsThere nodes) outline.sources
  pub reached : Reached table root.0 outline.shape.0

-- what holds of a walk between any two nodes
pub record IsSound (table : Table) (root : ShapeId) (walk : Walk) : Type 0 where
  pub marks : length walk.marks ≡ length table
  pub done :
      (id : ShapeId) (node : NodeId) → slice_get walk.marks id.0 ≡ Some (Mark.Done node) → IsOwnNode walk.nodes node id
  pub begun : (i : ℕ) (outline : Outline) → slice_get walk.nodes i ≡ Some outline → IsBegun walk.marks outline.shape.0
  pub nodes : (i : ℕ) (outline : Outline) → slice_get walk.nodes i ≡ Some outline → IsRight table root walk.nodes outline

-- each node stays at its place
pub record Stays (before after : List Outline) : Type 0 where
  pub each : (i : ℕ) (outline : Outline) → slice_get before i ≡ Some outline → slice_get after i ≡ Some outline

-- what a call leaves as it was: nothing is being built that wasn't before
pub record Keeps (before after : Walk) : Type 0 where
  pub nodes : Stays before.nodes after.nodes
  pub building : (i : ℕ) → slice_get after.marks i ≡ Some Mark.Building → slice_get before.marks i ≡ Some Mark.Building
  pub begun : (i : ℕ) → IsBegun before.marks i → IsBegun after.marks i
  pub unseen : unseen_in after.marks ≤ unseen_in before.marks

-- a shape was built
pub record IsKept (table : Table) (root : ShapeId) (before : Walk) (id : ShapeId) (made : Made) : Type 0 where
  pub sound : IsSound table root made.walk
  pub keeps : Keeps before made.walk
  pub node : IsNodeOf made.walk.nodes made.node id

-- several were built, of whose nodes this holds
pub record AreKept (table : Table) (root : ShapeId) (before : Walk) (all : MadeAll) (P : List Outline → List NodeId → Type 0) : Type 0 where
  pub sound : IsSound table root all.walk
  pub keeps : Keeps before all.walk
  pub nodes : P all.walk.nodes all.nodes

-- the refusal is that of a shape that the root reaches
pub record IsBlamed (table : Table) (root : ShapeId) (refused : AllocError) : Type 0 where
  pub shape : Shape
  pub here : slice_get table refused.shape.0 ≡ Some shape
  pub reached : Reached table root.0 refused.shape.0
  pub fault : refusal_of shape ≡ Some refused.operation

-- what keeps itself, and twice

pub keeps_itself : (walk : Walk) → Keeps walk walk
keeps_itself walk = record {
  nodes = record { each = λ i outline at. at };
  building = λ i at. at;
  begun = λ i begun. begun;
  unseen = omega arith;
}

pub keeps_twice : (first second third : Walk) → Keeps first second → Keeps second third → Keeps first third
keeps_twice first second third once again = record {
  nodes = record { each = λ i outline at. again.nodes.each i outline (once.nodes.each i outline at) };
  building = λ i at. once.building i (again.building i at);
  begun = λ i begun. again.begun i (once.begun i begun);
  unseen = omega (arith, once.unseen, again.unseen);
}

-- what stays as nodes are added

module _ (before after : List Outline) (stays : Stays before after) where
  pub there_stays : (node : NodeId) → IsThere before node → IsThere after node
  there_stays node there = record { outline = there.outline; here = stays.each node.0 there.outline there.here }

  pub node_stays : (node : NodeId) (id : ShapeId) → IsNodeOf before node id → IsNodeOf after node id
  node_stays node id is = record {
    outline = is.outline;
    here = stays.each node.0 is.outline is.here;
    shape = is.shape;
  }

  pub own_stays : (node : NodeId) (id : ShapeId) → IsOwnNode before node id → IsOwnNode after node id
  own_stays node id own = record {
    outline = own.outline;
    here = stays.each node.0 own.outline own.here;
    shape = own.shape;
    role = own.role;
  }

  pub nodes_stay : (nodes : List NodeId) (ids : List ShapeId) → AllZip (IsNodeOf before) nodes ids
      → AllZip (IsNodeOf after) nodes ids
  nodes_stay nodes ids all = zip_weaker (IsNodeOf before) (IsNodeOf after) node_stays nodes ids all

  pub field_stays : (node : NodeId) (placed : Placed) → IsFieldNode before node placed → IsFieldNode after node placed
  field_stays node placed is = record {
    outline = is.outline;
    here = stays.each node.0 is.outline is.here;
    shape = is.shape;
    proxied = λ some. ((is.proxied some).0, nodes_stay is.outline.sources (field_sources placed.field) (is.proxied some).1);
  }

  pub fields_stay : (nodes : List NodeId) (fields : List Placed) → AllZip (IsFieldNode before) nodes fields
      → AllZip (IsFieldNode after) nodes fields
  fields_stay nodes fields all = zip_weaker (IsFieldNode before) (IsFieldNode after) field_stays nodes fields all

  pub children_stay : (id : ShapeId) (shape : Shape) (def : Def) (children : List NodeId)
      → AreChildrenBy before id shape def children → AreChildrenBy after id shape def children
  children_stay id shape (Def.Struct struct) children are = fields_stay children _ are
  children_stay id shape (Def.Enum enumeration) children are = fields_stay children _ are
  children_stay id shape def children are = nodes_stay children (children_by def shape) are

  pub linked_stays : (table : Table) (outline : Outline) → IsLinked table before outline → IsLinked table after outline
  linked_stays table outline linked = record {
    shape = linked.shape;
    here = linked.here;
    sources = nodes_stay outline.sources (own_sources linked.shape) linked.sources;
    children = children_stay outline.shape linked.shape linked.shape.def outline.children linked.children;
    converts = linked.converts;
    plannable = linked.plannable;
  }

  pub right_stays : (table : Table) (root : ShapeId) (outline : Outline) → IsRight table root before outline
      → IsRight table root after outline
  right_stays table root outline right = record {
    linked = λ own. linked_stays table outline (right.linked own);
    children = All-weaker (IsThere before) (IsThere after) there_stays outline.children right.children;
    sources = All-weaker (IsThere before) (IsThere after) there_stays outline.sources right.sources;
    reached = right.reached;
  }
