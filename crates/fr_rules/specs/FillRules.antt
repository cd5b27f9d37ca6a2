-- How the rules of a hole are told to one who knows the field by its reference, and which template is meant by what is
-- told.
use Rattle.std.specs.Prelude.{Option, Some, None}
use Rattle.fr_shape.specs.declared.shape.Field.{Field}
use Rattle.fr_shape.specs.declared.shape.FieldRef.{FieldRef}
use Rattle.fr_shape.specs.declared.shape.DefaultSource.{DefaultSource}
use Rattle.fr_shape.specs.Look.{Table, field_at}
use Rattle.fr_shape.specs.Val.{Val}
use Rattle.fr_shape.specs.Fills.{preset_of, TemplateSource, of_field, of_shape, StrictRule, defaultable, required, DeferredRule, filled, marked_without_default, missing}
use Rattle.fr_rules.specs.declared.fills.FieldDefault.{FieldDefault}
use Rattle.fr_rules.specs.declared.fills.FillRule.{FillRule}
use Rattle.fr_rules.specs.declared.fills.DeferredFill.{DeferredFill}

-- a field's own template is told by the field, its shape's default by the shape
abbrev pub told_template : FieldRef → Field → TemplateSource → FieldDefault
told_template meant field (of_field v) = FieldDefault.Custom meant
told_template meant field of_shape = FieldDefault.FromTrait field.shape

abbrev pub told_strict : FieldRef → Field → StrictRule → FillRule
told_strict meant field (defaultable template) = FillRule.Defaultable (told_template meant field template)
told_strict meant field required = FillRule.Required

abbrev pub told_deferred : FieldRef → Field → DeferredRule → DeferredFill
told_deferred meant field (filled template) = DeferredFill.Template (told_template meant field template)
told_deferred meant field marked_without_default = DeferredFill.MarkedWithoutDefault
told_deferred meant field missing = DeferredFill.Missing

-- the template that a mark brings, where it is the field's own
abbrev pub own_of_mark : Option DefaultSource → Option Val
own_of_mark (Some (DefaultSource.Custom v)) = Some v
own_of_mark (Some DefaultSource.FromTrait) = None
own_of_mark None = None

-- the template that a field is marked with
abbrev pub own_template : Option Field → Option Val
own_template (Some field) = own_of_mark field.default
own_template None = None

-- the template that is meant: the field's own, or the default of the shape
abbrev pub template_meant : Table → FieldDefault → Option Val
template_meant table (FieldDefault.Custom meant) = own_template (field_at table meant)
template_meant table (FieldDefault.FromTrait shape) = preset_of table shape.0

-- what a hole takes by a rule that was told
abbrev pub fill_told : Table → FillRule → Option Val
fill_told table (FillRule.Defaultable default) = template_meant table default
fill_told table FillRule.Required = None
