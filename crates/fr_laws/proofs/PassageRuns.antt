-- Runs: the commands in turn, and the end.
use Rattle.std.proofs.Common.{◌≡◌}
use Rattle.fr_model.proofs.Common.{ℕ, true, false, None, Operation, Meanings, Table, def_of, Call, entered, State, cursor_tree, cursor_field, variant_numbered, variant_named, variant_told_by}
use Rattle.fr_laws.proofs.PassageTrees.{IsRight}
use Rattle.fr_laws.proofs.PassageCommands.{nth_does, named_does, default_does, set_does, set_default_does, parsed_does, empty_slice_does, array_does, map_does, set_begins, some_does, ok_does, err_does, pointer_does, select_does, list_does}
use Rattle.fr_laws.proofs.PassageItems.{list_item_does, set_item_does, key_does, value_does, object_entry_does, inner_does, custom_does, shape_does}
use Rattle.fr_laws.proofs.PassageSteps.{LookSame, BothDo, is_entered_is}
use Rattle.fr_laws.proofs.PassageShapes.{IsDirectHere}
use Rattle.fr_model.specs.Conversions.{field_has_proxies}
use Rattle.fr_model.specs.Parses.{text_meant, bytes_meant}
use Rattle.fr_laws.specs.Passage.{enters_new_or_hole, works_at_entered, is_entered}
use Rattle.fr_model.specs.Step.{step_at}

-- neither ends a place nor changes the mode
abbrev pub IsLocal : Call → Type 0
IsLocal Call.End = ⊥
IsLocal Call.BeginDeferred = ⊥
IsLocal Call.FinishDeferred = ⊥
IsLocal _ = Unit {0}

module _ (hooks : Meanings) (table : Table) (root s : ℕ) (one other : State)
    (look : LookSame (def_of table s) (cursor_tree one) (cursor_tree other))
    (right : IsRight table s (cursor_tree one)) (right' : IsRight table s (cursor_tree other)) (direct : IsDirectHere table s)
    (bare : field_has_proxies (cursor_field table root one) ≡ false) (bare' : field_has_proxies (cursor_field table root other) ≡ false) where
  at : is_entered (cursor_tree one) ≡ true → cursor_tree one ≡ entered
  at e = is_entered_is (cursor_tree one) e

  pub command_does : (command : Call) → IsLocal command → enters_new_or_hole table root s one command ≡ true
      → works_at_entered table s one command ≡ true
      → BothDo table s one other (step_at hooks table root s one command) (step_at hooks table root s other command)
  command_does (Call.BeginField name) local enters works = named_does table s one other look right right' direct.static name enters
  command_does (Call.BeginNthField i) local enters works = nth_does table s one other look right right' direct.static i enters
  command_does (Call.SetNthFieldToDefault i) local enters works = default_does table s one other look right right' direct.static i enters
  command_does (Call.Set given v) local enters works = set_does table s one other look right right' direct.static (at works) given v
  command_does Call.SetDefault local enters works = set_default_does table s one other look right right' direct.static (at works)
  command_does (Call.ParseFromStr text) local enters works =
      parsed_does table s one other look right right' direct.static (at works) (text_meant hooks table s text) _ _
  command_does (Call.ParseFromBytes bytes) local enters works =
      parsed_does table s one other look right right' direct.static (at works) (bytes_meant hooks table s bytes) _ _
  command_does Call.SetEmptySharedSlice local enters works = empty_slice_does table s one other look right right' direct.static (at works)
  command_does Call.InitList local enters works = list_does table s one other look right right' direct.static works
  command_does (Call.InitListWithCapacity n) local enters works = list_does table s one other look right right' direct.static works
  command_does Call.InitArray local enters works = array_does table s one other look right right' direct.static (at works)
  command_does Call.BeginListItem local enters works = list_item_does table s one other look right right' direct.static
  command_does Call.InitMap local enters works = map_does table s one other look right right' direct.static (at works)
  command_does Call.BeginKey local enters works = key_does table s one other look right right' direct.static
  command_does Call.BeginValue local enters works = value_does table s one other look right right' direct.static enters
  command_does Call.InitSet local enters works = set_begins table s one other look right right' direct.static (at works)
  command_does Call.BeginSetItem local enters works = set_item_does table s one other look right right' direct.static
  command_does (Call.BeginObjectEntry key) local enters works = object_entry_does table s one other look right right' direct.static key
  command_does Call.BeginSome local enters works = some_does table s one other look right right' direct.static (at works)
  command_does Call.BeginOk local enters works = ok_does table s one other look right right' direct.static (at works)
  command_does Call.BeginErr local enters works = err_does table s one other look right right' direct.static (at works)
  command_does Call.BeginSmartPtr local enters works = pointer_does table s one other look right right' direct.static (at works)
  command_does Call.BeginInner local enters works =
      inner_does table s one other look right right' direct.static direct.unconverted (at works)
  command_does Call.BeginCustomDeserialization local enters works =
      custom_does table s one other look right right' direct.static None (cursor_field table root one) (cursor_field table root other) bare bare'
  command_does (Call.BeginCustomDeserializationWithFormat format) local enters works =
      custom_does table s one other look right right' direct.static format (cursor_field table root one) (cursor_field table root other) bare bare'
  command_does Call.BeginCustomDeserializationFromShape local enters works =
      shape_does table s one other look right right' direct.static None (cursor_field table root one) (cursor_field table root other)
      direct.unproxied bare bare'
  command_does (Call.BeginCustomDeserializationFromShapeWithFormat format) local enters works =
      shape_does table s one other look right right' direct.static format (cursor_field table root one) (cursor_field table root other)
      direct.unproxied bare bare'
  command_does (Call.SelectNthVariant i) local enters works =
      select_does table s one other look right right' direct.static (at works) (variant_numbered i) Operation.VariantIndexOutOfBounds
  command_does (Call.SelectVariantNamed name) local enters works =
      select_does table s one other look right right' direct.static (at works) (variant_named name) Operation.VariantNameUnknown
  command_does (Call.SelectVariant discriminant) local enters works =
      select_does table s one other look right right' direct.static (at works) (variant_told_by discriminant) Operation.DiscriminantUnknown
  command_does Call.End local enters works = absurd local
  command_does Call.BeginDeferred local enters works = absurd local
  command_does Call.FinishDeferred local enters works = absurd local
