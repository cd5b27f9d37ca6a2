-- A rule that was told leads to what the hole takes.
use Rattle.std.specs.Prelude.{◌≡◌, Bool, true, false, Option, Some, None, refl}
use Rattle.std.proofs.Common.{◌∙◌, ap}
use Rattle.fr_shape.specs.declared.shape.Field.{Field}
use Rattle.fr_shape.specs.declared.shape.FieldRef.{FieldRef}
use Rattle.fr_shape.specs.declared.shape.DefaultSource.{DefaultSource}
use Rattle.fr_shape.specs.Fills.{strict_fill, strict_rule_of, takes_shape_default, is_of_variant}
use Rattle.fr_shape.specs.Look.{Table, field_at}
use Rattle.fr_rules.specs.declared.fills.FillRule.{FillRule}
use Rattle.fr_rules.specs.FillRules.{told_strict, fill_told}

-- what a field's hole takes by the rule that is told of it is the field's fill
pub told_is_fill : (table : Table) (meant : FieldRef) (field : Field) → field_at table meant ≡ Some field
    → fill_told table (told_strict meant field (strict_rule_of table meant field))
    ≡ strict_fill table meant.shape.0 (is_of_variant meant) field
told_is_fill table meant field at = go field.default refl
  where
    Same : Type 0
    Same =
        fill_told table (told_strict meant field (strict_rule_of table meant field))
        ≡ strict_fill table meant.shape.0 (is_of_variant meant) field

    unmarked : (takes : Bool) → field.default ≡ None → takes_shape_default table meant.shape.0 (is_of_variant meant) field ≡ takes → Same
    unmarked true mark takes = rw (mark, takes) refl
    unmarked false mark takes = rw (mark, takes) refl

    go : (mark : Option DefaultSource) → field.default ≡ mark → Same
    go None mark = unmarked (takes_shape_default table meant.shape.0 (is_of_variant meant) field) mark refl
    go (Some DefaultSource.FromTrait) mark = rw mark refl
    go (Some (DefaultSource.Custom v)) mark = rw (mark, at) (rw mark refl)
