-- The calls that JSON stands for: an array of the call's name and its arguments.
use Rattle.std.specs.Prelude.{ℕ, List, Option, Some, None, codes, option_map, if◌then◌else◌}
use Rattle.std.specs.Str.{bytes_eq}
use Rattle.serde_json.specs.Data.{Data, string, array, no_items, item}
use Rattle.serde_json.specs.Find.{as_str}
use Rattle.fr_doc.specs.DynForms.{bytes_form}
use Rattle.fr_doc.specs.Numerals.{small_int_form, whole_number}
use Rattle.fr_doc.specs.Steps.{◌>>=◌}
use Rattle.fr_doc.specs.ValueForms.{value_form}
use Rattle.fr_model.specs.Commands.{Call}

-- a call without arguments
unfoldable pub call_of_none : List ℕ → Option Call
call_of_none word =
    if bytes_eq word (codes "end") then Some Call.End else
    if bytes_eq word (codes "set_default") then Some Call.SetDefault else
    if bytes_eq word (codes "set_empty_shared_slice") then Some Call.SetEmptySharedSlice else
    if bytes_eq word (codes "init_list") then Some Call.InitList else
    if bytes_eq word (codes "init_array") then Some Call.InitArray else
    if bytes_eq word (codes "begin_list_item") then Some Call.BeginListItem else
    if bytes_eq word (codes "init_map") then Some Call.InitMap else
    if bytes_eq word (codes "begin_key") then Some Call.BeginKey else
    if bytes_eq word (codes "begin_value") then Some Call.BeginValue else
    if bytes_eq word (codes "init_set") then Some Call.InitSet else
    if bytes_eq word (codes "begin_set_item") then Some Call.BeginSetItem else
    if bytes_eq word (codes "begin_some") then Some Call.BeginSome else
    if bytes_eq word (codes "begin_ok") then Some Call.BeginOk else
    if bytes_eq word (codes "begin_err") then Some Call.BeginErr else
    if bytes_eq word (codes "begin_smart_ptr") then Some Call.BeginSmartPtr else
    if bytes_eq word (codes "begin_inner") then Some Call.BeginInner else
    if bytes_eq word (codes "begin_custom_deserialization") then Some Call.BeginCustomDeserialization else
    if bytes_eq word (codes "begin_custom_deserialization_with_format")
    then Some (Call.BeginCustomDeserializationWithFormat None) else
    if bytes_eq word (codes "begin_custom_deserialization_from_shape")
    then Some Call.BeginCustomDeserializationFromShape else
    if bytes_eq word (codes "begin_custom_deserialization_from_shape_with_format")
    then Some (Call.BeginCustomDeserializationFromShapeWithFormat None) else
    if bytes_eq word (codes "begin_deferred") then Some Call.BeginDeferred else
    if bytes_eq word (codes "finish_deferred") then Some Call.FinishDeferred else None

-- a call with one argument, a number
unfoldable pub call_of_number : List ℕ → Data → Option Call
call_of_number word a =
    if bytes_eq word (codes "begin_nth_field") then option_map Call.BeginNthField (whole_number a) else
    if bytes_eq word (codes "set_nth_field_to_default") then option_map Call.SetNthFieldToDefault (whole_number a) else
    if bytes_eq word (codes "init_list_with_capacity") then option_map Call.InitListWithCapacity (whole_number a) else
    if bytes_eq word (codes "select_nth_variant") then option_map Call.SelectNthVariant (whole_number a) else
    if bytes_eq word (codes "select_variant") then option_map Call.SelectVariant (small_int_form a) else None

-- a call with one argument
unfoldable pub call_of_one : List ℕ → Data → Option Call
call_of_one word a =
    if bytes_eq word (codes "begin_field") then option_map Call.BeginField (as_str a) else
    if bytes_eq word (codes "begin_object_entry") then option_map Call.BeginObjectEntry (as_str a) else
    if bytes_eq word (codes "select_variant_named") then option_map Call.SelectVariantNamed (as_str a) else
    if bytes_eq word (codes "parse_from_str") then option_map Call.ParseFromStr (as_str a) else
    if bytes_eq word (codes "parse_from_bytes") then option_map Call.ParseFromBytes (bytes_form a) else
    if bytes_eq word (codes "begin_custom_deserialization_with_format")
    then option_map (λ format. Call.BeginCustomDeserializationWithFormat (Some format)) (as_str a) else
    if bytes_eq word (codes "begin_custom_deserialization_from_shape_with_format")
    then option_map (λ format. Call.BeginCustomDeserializationFromShapeWithFormat (Some format)) (as_str a) else
    call_of_number word a

-- a call with two arguments
unfoldable pub call_of_two : List ℕ → Data → Data → Option Call
call_of_two word a b =
    if bytes_eq word (codes "set") then (do
      shape ← whole_number a
      v ← value_form b
      Some (Call.Set shape v)) else None

-- a name and as many arguments as the call has
unfoldable pub call_form : Data → Option Call
call_form (array (item (string word) no_items)) = call_of_none word
call_form (array (item (string word) (item a no_items))) = call_of_one word a
call_form (array (item (string word) (item a (item b no_items)))) = call_of_two word a b
call_form _ = None
