-- Completing one place whose children are all whole or not there.
use Rattle.std.specs.Prelude.{◌≡◌, ◌⊎◌, ℕ, ◌<◌, Bool, true, false, List, length, Some, None, IsSome, is_none, unwrap_or}
use Rattle.fr_shape.specs.declared.error.ReflectErrorKind.{ReflectErrorKind}
use Rattle.fr_shape.specs.declared.shape.ShapeId.{ShapeId}
use Rattle.fr_shape.specs.declared.shape.FieldRef.{FieldRef}
use Rattle.fr_shape.specs.Hooks.{Meanings}
use Rattle.fr_shape.specs.Look.{Table, IsIn, def_of}
use Rattle.fr_shape.specs.Val.{Val}
use Rattle.fr_model.specs.Complete.{complete}
use Rattle.fr_model.specs.Places.{Column, strict_column}
use Rattle.fr_model.specs.Step.{cause}
use Rattle.fr_model.specs.Well.{IsFullAs}
use Rattle.fr_plan.specs.declared.nodes.NodeId.{NodeId}
use Rattle.fr_plan.specs.LookupLaws.{shape_at}
use Rattle.fr_plan.specs.TypePlan.{Plan, IsPlanOf}
use Rattle.fr_frame.specs.Bodies.{Body, entered_body, whole_body, begun_body, value_of, own_tree, is_conversion_body, IsClosed}
use Rattle.fr_values.specs.Cells.{values_of}
use Rattle.fr_frame.specs.declared.places.Slot.{Slot}
use Rattle.fr_frame.specs.Changes.{Becomes}
use Rattle.fr_frame.specs.Heap.{Node}

-- the plan is one of this table
pub record IsPlanFor (table : Table) (plan : Plan) : Type 0 where
  pub root : ShapeId
  pub inside : IsIn table root.0
  pub planned : IsPlanOf table root plan

-- the number of the shape of a plan's node (0 where it has no such node)
abbrev pub shape_of : Plan → NodeId → ℕ
shape_of plan node = (unwrap_or (shape_at plan node) (record { 0 = 0 })).0

-- a begun place of this shape has all its children
abbrev pub IsFull : Table → ℕ → Body → Type 0
IsFull table s entered_body = Unit {0}
IsFull table s (whole_body v) = Unit {0}
IsFull table s (begun_body tracker cells) = IsFullAs (def_of table s) tracker (length cells)

-- the place is built by a node of the plan, has all its children, and none of them in a slot of its own; it is no conversion, which
-- becomes whole as its source is converted
pub record MayComplete (table : Table) (plan : Plan) (at : Node) : Type 0 where
  pub planned : at.node.0 < length plan.nodes
  pub full : IsFull table (shape_of plan at.node) at.body
  pub closed : IsClosed at.body
  pub unconverted : is_conversion_body at.body ≡ false

-- a place of shape s makes a value by the rules of the column, and the other body holds that value
pub record IsFilled (column : Column) (means : Meanings) (table : Table) (s : ℕ) (old new : Body) : Type 0 where
  pub value : Val
  pub meant : complete column means table s (own_tree old) ≡ Some value
  pub held : value_of new ≡ Some value

-- the place in this slot holds the value that it makes, and all else is as it was
pub record FillsAt (column : Column) (means : Meanings) (table : Table) (plan : Plan) (before after : List Slot) (n : ℕ) (at : Node) : Type 0 where
  pub body : Body
  pub filled : IsFilled column means table (shape_of plan at.node) at.body body
  pub becomes : Becomes before after n at body

-- completing the place takes a template: it is just entered, or begun with some child's value not there
abbrev pub takes_template : Body → Bool
takes_template entered_body = true
takes_template (whole_body v) = false
takes_template (begun_body tracker cells) = is_none (values_of cells)

-- the place makes no value, and this is the cause
pub record IsLacking (means : Meanings) (table : Table) (s : ℕ) (body : Body) (kind : ReflectErrorKind) : Type 0 where
  pub incomplete : complete strict_column means table s (own_tree body) ≡ None
  pub lacks : kind ≡ cause means table s (own_tree body)

-- there is something to be said of a value that fails
abbrev pub IsOfValidator : ReflectErrorKind → Type 0
IsOfValidator kind = (field : FieldRef) × (text : List ℕ) × (kind ≡ ReflectErrorKind.ValidationFailed field text)

-- there was no memory: for a template that the place takes, or to say why a value fails
pub record IsOutOfMemory (means : Meanings) (table : Table) (s : ℕ) (body : Body) (kind : ReflectErrorKind) : Type 0 where
  pub memory : kind ≡ ReflectErrorKind.OutOfMemory
  pub needed : (IsSome (complete strict_column means table s (own_tree body)) × (takes_template body ≡ true))
      ⊎ ((complete strict_column means table s (own_tree body) ≡ None) × IsOfValidator (cause means table s (own_tree body)))

abbrev pub WhyNot : Meanings → Table → ℕ → Body → ReflectErrorKind → Type 0
WhyNot means table s body kind = IsLacking means table s body kind ⊎ IsOutOfMemory means table s body kind
