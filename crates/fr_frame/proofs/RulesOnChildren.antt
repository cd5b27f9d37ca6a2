-- What rules say of the children of a begun place, by what these are.
use Rattle.std.proofs.Common.{◌≡◌, ℕ, Bool, true, false, Option, Some, None, IsSome, refl, sym, ◌∙◌, ap}
use Rattle.fr_frame.specs.Common.{Column, ContentKind, Field, FieldRef, IfSome, Meanings, Table, Tracker, Val, as_content, as_fields, deferred_column, failing_child, field_at, fields_of_tracker, fill_of_field, hole_takes, is_conversion, is_some, missing_child, missing_value, unmet_mark}
use Rattle.fr_shape.specs.declared.shape.DefaultSource.{DefaultSource}
use Rattle.fr_shape.specs.Fills.{by_deferred_rule, deferred_by_mark, deferred_rule_of, has_default, takes_deferred_default}
use Rattle.fr_rules.specs.declared.fills.DeferredFill.{DeferredFill}
use Rattle.fr_rules.specs.declared.fills.FieldDefault.{FieldDefault}
use Rattle.fr_rules.specs.FillRules.{own_of_mark, own_template, told_deferred, template_meant}
use Rattle.fr_model.specs.Conversions.{taken}
use Rattle.fr_model.specs.Places.{fill_in}

-- fields, of a struct or of the variant that is selected

pub fields_are : (tracker : Tracker) (selected : Option ℕ) → fields_of_tracker tracker ≡ Some selected → tracker ≡ as_fields selected
fields_are (as_fields None) selected e = let same : None ≡ selected = cc in ap as_fields same
fields_are (as_fields (Some k)) selected e = let same : Some k ≡ selected = cc in ap as_fields same
fields_are _ selected e = absurd (cc)

-- the template that is told of a field is what it takes at the end of deferred mode
module _ (table : Table) (meant : FieldRef) (default : FieldDefault) where
  told_by_mark : (field : Field) (mark : Option DefaultSource) (has takes : Bool) → field_at table meant ≡ Some field → field.default ≡ mark
      → DeferredFill.Template default ≡ told_deferred meant field (deferred_by_mark mark has takes)
      → template_meant table default ≡ by_deferred_rule table field (deferred_by_mark mark has takes)
  told_by_mark field (Some (DefaultSource.Custom v)) has takes at mark told =
      let same : default ≡ FieldDefault.Custom meant = cc in
      ap (template_meant table) same ∙ ap own_template at ∙ ap own_of_mark mark
  told_by_mark field (Some DefaultSource.FromTrait) true takes at mark told =
      let same : default ≡ FieldDefault.FromTrait field.shape = cc in
      ap (template_meant table) same
  told_by_mark field (Some DefaultSource.FromTrait) false takes at mark told = absurd (cc)
  told_by_mark field None has true at mark told =
      let same : default ≡ FieldDefault.FromTrait field.shape = cc in
      ap (template_meant table) same
  told_by_mark field None has false at mark told = absurd (cc)

  pub told_takes : IsSome (field_at table meant)
      → IfSome (field_at table meant) (λ field. DeferredFill.Template default ≡ told_deferred meant field (deferred_rule_of table meant field))
      → template_meant table default ≡ hole_takes deferred_column table meant.shape.0 (as_fields meant.variant) meant.index
  told_takes there told =
      go (field_at table meant) refl there told
    where
      go : (found : Option Field) → field_at table meant ≡ found → IsSome found
          → IfSome found (λ field. DeferredFill.Template default ≡ told_deferred meant field (deferred_rule_of table meant field))
          → template_meant table default ≡ fill_in deferred_column table meant.shape.0 meant.variant meant.index
      go None at there told = absurd (cc)
      go (Some field) at there told =
          told_by_mark field field.default (has_default table field.shape.0) (takes_deferred_default table meant.shape.0 field) at refl told
          ∙ sym (ap (fill_of_field deferred_column table meant.shape.0 (is_some meant.variant)) at)

-- elements, items, entries, and a content, a side, a pointee or a source

module _ (table : Table) (s : ℕ) where
  pub others_take : (column : Column) (tracker : Tracker) → fields_of_tracker tracker ≡ None → (i : ℕ) → hole_takes column table s tracker i ≡ None
  others_take column (as_fields selected) e i = absurd (cc)
  others_take column _ e i = refl

  -- but for a source, which may not be converted
  pub others_pass : (means : Meanings) (tracker : Tracker) → fields_of_tracker tracker ≡ None → is_conversion tracker ≡ false
      → (i : ℕ) (value : Option Val) → failing_child means table s tracker i value ≡ None
  others_pass means (as_fields selected) e plain i value = absurd (cc)
  others_pass means (as_content (ContentKind.Source conversion)) e plain i value = absurd (cc)
  others_pass means _ e plain i value = refl

  -- of a child of any place but a conversion its value is taken
  pub taken_plain : (means : Meanings) (tracker : Tracker) → is_conversion tracker ≡ false → (value : Option Val)
      → taken means table s tracker value ≡ value
  taken_plain means (as_content (ContentKind.Source conversion)) plain value = absurd (cc)
  taken_plain means _ plain value = refl

  pub others_unmarked : (tracker : Tracker) → fields_of_tracker tracker ≡ None → (i : ℕ) → unmet_mark table s tracker i ≡ None
  others_unmarked (as_fields selected) e i = absurd (cc)
  others_unmarked _ e i = refl

pub others_missing : (s : ℕ) (tracker : Tracker) → fields_of_tracker tracker ≡ None → (i : ℕ) → missing_child s tracker i ≡ missing_value s
others_missing s (as_fields selected) e i = absurd (cc)
others_missing s _ e i = refl
