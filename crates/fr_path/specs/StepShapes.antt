-- What is known of a place's shape after each step.
use Rattle.std.specs.Prelude.{ℕ, Bool, true, false, ◌&&◌, ◌||◌, nat_le, slice_get, Option, Some, None, is_none, if◌then◌else◌}
use Rattle.std.specs.Option.{option_map, option_or}
use Rattle.fr_shape.specs.declared.shape.Shape.{Shape}
use Rattle.fr_shape.specs.declared.shape.ShapeId.{ShapeId}
use Rattle.fr_shape.specs.declared.shape.Def.{Def}
use Rattle.fr_shape.specs.declared.shape.Field.{Field}
use Rattle.fr_shape.specs.declared.shape.PointerDef.{PointerDef}
use Rattle.fr_shape.specs.declared.shape.KnownPointer.{KnownPointer}
use Rattle.fr_shape.specs.Fills.{is_option}
use Rattle.fr_shape.specs.Look.{Table, def_of, field_in}
use Rattle.fr_path.specs.declared.path_steps.PathStep.{PathStep}
use Rattle.fr_path.specs.declared.step_shapes.TheConstants.{MOST_ELEMENTS}
use Rattle.fr_path.specs.declared.step_shapes.Inside.{Inside}
use Rattle.fr_path.specs.declared.step_shapes.PartShapes.{PartShapes}

-- ---- what is behind a pointer

-- known as a pointer that owns what it points to
abbrev pub owns : Option KnownPointer → Bool
owns (Some KnownPointer.Box) = true
owns (Some KnownPointer.Arc) = true
owns (Some KnownPointer.Rc) = true
owns (Some KnownPointer.SharedReference) = false
owns None = false

-- how a pointee of this definition is entered: item by item, as a text, or as any other whole
abbrev pub inside_of : Def → Inside
inside_of (Def.Slice item) = Inside.Items item
inside_of Def.Str = Inside.Text
inside_of (Def.Scalar kind) = Inside.Whole
inside_of Def.Opaque = Inside.Whole
inside_of (Def.Struct struct) = Inside.Whole
inside_of (Def.Enum enumeration) = Inside.Whole
inside_of (Def.Option content) = Inside.Whole
inside_of (Def.Result good bad) = Inside.Whole
inside_of (Def.List item) = Inside.Whole
inside_of (Def.Map key value) = Inside.Whole
inside_of (Def.Set item) = Inside.Whole
inside_of (Def.Array item n) = Inside.Whole
inside_of (Def.Pointer pointer) = Inside.Whole
inside_of Def.Dynamic = Inside.Whole
inside_of Def.Undefined = Inside.Whole
inside_of Def.Other = Inside.Whole

-- the item of what is entered item by item, by a pointer that owns it
abbrev pub item_inside : (owned : Bool) → Inside → Option ShapeId
item_inside owned (Inside.Items item) = if owned then Some item else None
item_inside owned Inside.Text = None
item_inside owned Inside.Whole = None

-- what is entered as a whole: not what is entered item by item, and a text only by a pointer that owns it
abbrev pub is_entered : (owned : Bool) → Inside → Bool
is_entered owned (Inside.Items item) = false
is_entered owned Inside.Text = owned
is_entered owned Inside.Whole = true

-- the items behind a pointer are entered at the pointer itself
abbrev pub item_at : Table → PointerDef → (pointee : Option ShapeId) → Option ShapeId
item_at table pointer (Some pointee) =
    if pointer.constructible then item_inside (owns pointer.known) (inside_of (def_of table pointee.0)) else None
item_at table pointer None = None

abbrev pub item_behind : Table → PointerDef → Option ShapeId
item_behind table pointer = item_at table pointer pointer.pointee

abbrev pub pointee_at : Table → PointerDef → (pointee : Option ShapeId) → Option ShapeId
pointee_at table pointer (Some pointee) =
    if pointer.constructible && is_entered (owns pointer.known) (inside_of (def_of table pointee.0)) then Some pointee
    else None
pointee_at table pointer None = None

abbrev pub pointee_behind : Table → PointerDef → Option ShapeId
pointee_behind table pointer = pointee_at table pointer pointer.pointee

-- ---- the parts of a place

-- the elements of an array that can be entered: it has one at least, and no more than the limit
abbrev pub element_of : (item : ShapeId) → (count : ℕ) → Option ShapeId
element_of item count = if nat_le 1 count && nat_le count MOST_ELEMENTS then Some item else None

-- a place none of whose parts is known
abbrev pub no_parts : PartShapes
no_parts = record {
  index = None;
  deref = None;
  option_some = None;
  map_key = None;
  map_value = None;
  result_ok = None;
  result_err = None;
  set_item = None;
  entry = None;
}

-- the shapes of a place's parts, by the steps that lead to them from a place made so. An enum's parts are not known
abbrev pub parts_of : Table → (place : ShapeId) → Def → PartShapes
parts_of table place (Def.Array item n) = record no_parts { index = element_of item n }
parts_of table place (Def.List item) = record no_parts { index = Some item }
parts_of table place (Def.Pointer pointer) =
    record no_parts { index = item_behind table pointer; deref = pointee_behind table pointer }
parts_of table place (Def.Option content) = record no_parts { option_some = Some content }
parts_of table place (Def.Result good bad) = record no_parts { result_ok = Some good; result_err = Some bad }
parts_of table place (Def.Map key value) = record no_parts { map_key = Some key; map_value = Some value }
parts_of table place (Def.Set item) = record no_parts { set_item = Some item }
parts_of table place Def.Dynamic = record no_parts { index = Some place; entry = Some place }
parts_of table place (Def.Scalar kind) = no_parts
parts_of table place Def.Str = no_parts
parts_of table place Def.Opaque = no_parts
parts_of table place (Def.Struct struct) = no_parts
parts_of table place (Def.Enum enumeration) = no_parts
parts_of table place (Def.Slice item) = no_parts
parts_of table place Def.Undefined = no_parts
parts_of table place Def.Other = no_parts

-- ---- conversions

-- what a conversion starts from: the builder where there is one, else what is wrapped. An option has no such source,
-- nor has a shape that isn't converted
abbrev pub source_of : Shape → Option ShapeId
source_of shape = if is_none shape.convert || is_option shape.def then None else option_or shape.builder shape.inner

abbrev pub source_at : Option Shape → Option ShapeId
source_at (Some shape) = source_of shape
source_at None = None

-- ---- a step

abbrev pub parts_at : Table → (place : ShapeId) → PartShapes
parts_at table place = parts_of table place (def_of table place.0)

-- the shape that a step leads to from a place of a known shape, where it is known then: not after a step that such a
-- place can't have, nor after a proxy
abbrev pub shape_after : Table → (place : ShapeId) → PathStep → Option ShapeId
shape_after table place (PathStep.Field i) =
    option_map (λ (field : Field). field.shape) (field_in (def_of table place.0) None i)
shape_after table place (PathStep.Index i) = (parts_at table place).index
shape_after table place PathStep.Deref = (parts_at table place).deref
shape_after table place PathStep.Inner = source_at (slice_get table place.0)
shape_after table place PathStep.OptionSome = (parts_at table place).option_some
shape_after table place PathStep.Proxy = None
shape_after table place (PathStep.MapKey i) = (parts_at table place).map_key
shape_after table place (PathStep.MapValue i) = (parts_at table place).map_value
shape_after table place PathStep.ResultOk = (parts_at table place).result_ok
shape_after table place PathStep.ResultErr = (parts_at table place).result_err
shape_after table place PathStep.SetItem = (parts_at table place).set_item
shape_after table place (PathStep.Entry key) = (parts_at table place).entry
