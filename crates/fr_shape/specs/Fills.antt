-- What a hole takes when its struct or variant is completed. A rule says where the template comes from, or that there is
-- none; the fill is the template itself.
use Rattle.std.specs.Prelude.{ℕ, Bool, false, true, not, ◌&&◌, ◌||◌, slice_get, Option, Some, None, is_some, if◌then◌else◌}
use Rattle.fr_shape.specs.declared.shape.Shape.{Shape}
use Rattle.fr_shape.specs.declared.shape.Def.{Def}
use Rattle.fr_shape.specs.declared.shape.StructKind.{StructKind}
use Rattle.fr_shape.specs.declared.shape.Field.{Field}
use Rattle.fr_shape.specs.declared.shape.FieldRef.{FieldRef}
use Rattle.fr_shape.specs.declared.shape.DefaultSource.{DefaultSource}
use Rattle.fr_shape.specs.Lists.{is_nil}
use Rattle.fr_shape.specs.Look.{Table, def_of}
use Rattle.fr_shape.specs.Val.{Val}

abbrev pub preset_in : Option Shape → Option Val
preset_in (Some shape) = shape.preset
preset_in None = None

-- the default of a shape, if it has one: its preset
abbrev pub preset_of : Table → ℕ → Option Val
preset_of table id = preset_in (slice_get table id)

abbrev pub has_default : Table → ℕ → Bool
has_default table id = is_some (preset_of table id)

abbrev pub default_attr_in : Option Shape → Bool
default_attr_in (Some shape) = shape.default_attr
default_attr_in None = false

-- the shape carries the attribute by which its fields take their shapes' defaults
abbrev pub has_default_attr : Table → ℕ → Bool
has_default_attr table id = default_attr_in (slice_get table id)

abbrev pub is_option : Def → Bool
is_option (Def.Option t) = true
is_option _ = false

-- a struct without fields, of whatever kind
abbrev pub is_empty_struct : Def → Bool
is_empty_struct (Def.Struct struct) = is_nil struct.fields
is_empty_struct _ = false

abbrev pub is_tuple : StructKind → Bool
is_tuple StructKind.Tuple = true
is_tuple StructKind.Struct = false
is_tuple StructKind.TupleStruct = false
is_tuple StructKind.Unit = false

-- the unit shape: a tuple without fields
abbrev pub is_unit : Def → Bool
is_unit (Def.Struct struct) = is_tuple struct.kind && is_nil struct.fields
is_unit _ = false

abbrev pub is_collection : Def → Bool
is_collection (Def.List t) = true
is_collection (Def.Map k v) = true
is_collection (Def.Set t) = true
is_collection (Def.Scalar kind) = false
is_collection Def.Str = false
is_collection Def.Opaque = false
is_collection (Def.Struct struct) = false
is_collection (Def.Enum enumeration) = false
is_collection (Def.Option t) = false
is_collection (Def.Result t e) = false
is_collection (Def.Array t n) = false
is_collection (Def.Pointer pointer) = false
is_collection (Def.Slice t) = false
is_collection Def.Dynamic = false
is_collection Def.Undefined = false
is_collection Def.Other = false

-- where a template comes from: the field has its own, or it is the default of the field's shape
pub data TemplateSource : Type 0 where
  of_field : Val → TemplateSource
  of_shape : TemplateSource

abbrev pub template_of : Table → Field → TemplateSource → Option Val
template_of table field (of_field v) = Some v
template_of table field of_shape = preset_of table field.shape.0

-- What a strict completion does with a hole: there is a template to take (which the field's shape may turn out not to
-- have), or the caller has to fill it.
pub data StrictRule : Type 0 where
  defaultable : TemplateSource → StrictRule
  required : StrictRule

-- A field that isn't marked takes its shape's default, where there is one, in these cases: its shape is an option; the
-- field is skipped; its shape is a struct without fields; its container has a default itself, and the field is no
-- variant's.
abbrev pub takes_shape_default : Table → (container : ℕ) → (of_variant : Bool) → Field → Bool
takes_shape_default table container of_variant field =
    has_default table field.shape.0
    && (is_option (def_of table field.shape.0) || field.skip || is_empty_struct (def_of table field.shape.0)
    || (has_default table container && not of_variant))

abbrev pub strict_by_mark : Option DefaultSource → (takes_unmarked : Bool) → StrictRule
strict_by_mark (Some (DefaultSource.Custom v)) takes_unmarked = defaultable (of_field v)
strict_by_mark (Some DefaultSource.FromTrait) takes_unmarked = defaultable of_shape
strict_by_mark None takes_unmarked = if takes_unmarked then defaultable of_shape else required

-- The first that holds: the field is marked with a template of its own; it is marked as taking its shape's default; it
-- takes it unmarked. Otherwise the caller has to fill it.
abbrev pub strict_rule : Table → (container : ℕ) → (of_variant : Bool) → Field → StrictRule
strict_rule table container of_variant field =
    strict_by_mark field.default (takes_shape_default table container of_variant field)

abbrev pub by_strict_rule : Table → Field → StrictRule → Option Val
by_strict_rule table field (defaultable template) = template_of table field template
by_strict_rule table field required = None

-- what a hole takes in strict mode, if anything
abbrev pub strict_fill : Table → (container : ℕ) → (of_variant : Bool) → Field → Option Val
strict_fill table container of_variant field = by_strict_rule table field (strict_rule table container of_variant field)

-- What the end of deferred mode does with a hole: it takes a template; or its field is marked, but there is no default;
-- or it is just missing.
pub data DeferredRule : Type 0 where
  filled : TemplateSource → DeferredRule
  marked_without_default : DeferredRule
  missing : DeferredRule

-- A field that isn't marked takes its shape's default, where there is one, in these cases: its container says so of all
-- its fields; its shape is an option, the unit shape, or a list, map or set.
abbrev pub takes_deferred_default : Table → (container : ℕ) → Field → Bool
takes_deferred_default table container field =
    has_default table field.shape.0
    && (has_default_attr table container || is_option (def_of table field.shape.0)
    || is_unit (def_of table field.shape.0) || is_collection (def_of table field.shape.0))

abbrev pub deferred_by_mark : Option DefaultSource → (shape_has_default takes_unmarked : Bool) → DeferredRule
deferred_by_mark (Some (DefaultSource.Custom v)) shape_has_default takes_unmarked = filled (of_field v)
deferred_by_mark (Some DefaultSource.FromTrait) shape_has_default takes_unmarked =
    if shape_has_default then filled of_shape else marked_without_default
deferred_by_mark None shape_has_default takes_unmarked = if takes_unmarked then filled of_shape else missing

-- The first that gives a value: the field's own template, where it is marked with one; its shape's default, where it is
-- marked and its shape has one; its shape's default, where it takes it unmarked.
abbrev pub deferred_rule : Table → (container : ℕ) → Field → DeferredRule
deferred_rule table container field =
    deferred_by_mark field.default (has_default table field.shape.0) (takes_deferred_default table container field)

abbrev pub by_deferred_rule : Table → Field → DeferredRule → Option Val
by_deferred_rule table field (filled template) = template_of table field template
by_deferred_rule table field marked_without_default = None
by_deferred_rule table field missing = None

-- what a hole takes at the end of deferred mode, if anything
abbrev pub deferred_fill : Table → (container : ℕ) → Field → Option Val
deferred_fill table container field = by_deferred_rule table field (deferred_rule table container field)

-- the rules of a field told by its reference: its container is the shape that it names
abbrev pub is_of_variant : FieldRef → Bool
is_of_variant meant = is_some meant.variant

abbrev pub strict_rule_of : Table → FieldRef → Field → StrictRule
strict_rule_of table meant field = strict_rule table meant.shape.0 (is_of_variant meant) field

abbrev pub deferred_rule_of : Table → FieldRef → Field → DeferredRule
deferred_rule_of table meant field = deferred_rule table meant.shape.0 field
