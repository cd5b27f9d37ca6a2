-- What each command does to a builder's state, or which refusal it meets: one function for each command.
use Rattle.std.specs.Prelude.{◌==◌, if◌then◌else◌}
use Rattle.fr_model.specs.Common.{ℕ, ℤ, Bool, true, false, List, slice_get, length, nat_lt, Option, Some, None, is_some, unwrap_or, Result, Ok, Err, Def, DefaultSource, Field, ShapeId, VariantDef, Expected, ReflectErrorKind, Operation, Invariant, preset_of, is_option, Meanings, is_dynamic, Table, def_of, field_in, variants_of, Val, Dynamic, list_of, ptr, dyn, no_vals, PathStep}
use Rattle.fr_model.specs.Basis.{Call, is_result, by_proxy, by_wrapper, convert_in, proxy_at, proxy_of_field, source_in, Conversion, cursor_field, is_begun_conversion, fresh, pointer_refusal, points_to_slice, variant_anew, slice_anew, kept_so, kept_in, kept_slice, kept_option, is_begun_dynamic, array_anew, object_anew, kept_array, kept_object, entry_refusal, Column, strict_column, deferred_column, is_root, up, content_shape, Tracker, as_fields, as_content, ContentKind, selected, Tree, whole, count_below, change_child, change_at, tree_at, Mode, strict, deferred, State, cursor_shape, cursor_tree, one_more_call, is_enum, field_found, variant_numbered, variant_named, variant_told_by, selection_refusal, is_set, key_refusal, value_refusal, last_of, set_item_refusal, with_ended_item, number_in, complete, lack, missing_value, failures, first_by_walk, path_of, without_source}
use Rattle.fr_model.specs.ScalarsAsDynamics.{converted}
use Rattle.fr_model.specs.Items.{init_array_refusal, item_refusal, is_open_slice, closed_slice, shared_slice_refusal}
use Rattle.fr_model.specs.Finish.{finished, finish_cause, kind_of}
use Rattle.fr_model.specs.Parses.{text_meant, bytes_meant}
use Rattle.fr_shape.specs.Hooks.{Meaning, gives, refuses, unsupported}
use Rattle.fr_shape.specs.Invariants.{keeps_invariants}
use Rattle.fr_shape.specs.declared.shape.HookId.{HookId}
use Rattle.fr_shape.specs.declared.shape.ProxyDef.{ProxyDef}
pub use Rattle.fr_model.specs.Entering.{Way, enters, opened_value, parts_as, opened_as, opened, enter, enter_child}
pub use Rattle.fr_model.specs.Refusals.{operation_failed, violates, at_shape, was_not_a, element_refusal, variant_field_refusal, field_refusal, named_refusal, is_str, is_owned_string_kind, is_owned_string, takes_shape, set_refusal, unexpected_unless, init_list_refusal, init_map_refusal, init_set_refusal}

-- the new state, unless there is something to refuse
abbrev pub unless_refused : Option ReflectErrorKind → State → Result State ReflectErrorKind
unless_refused (Some kind) next = Err kind
unless_refused None next = Ok next

-- Fields and elements

-- begin_nth_field enters the field or the element of this number; a place begun as a conversion starts anew first
abbrev pub begin_nth_field : Table → ℕ → State → ℕ → Result State ReflectErrorKind
begin_nth_field table s state i =
    unless_refused (at_shape s (field_refusal (def_of table s) (cursor_tree state) i)) (enters table s state (Way.Child i))

abbrev pub enters_named : Table → ℕ → State → Option ℕ → Result State ReflectErrorKind
enters_named table s state (Some i) = Ok (enters table s state (Way.Child i))
enters_named table s state None = Err (ReflectErrorKind.FieldError (record { 0 = s }))

abbrev pub begins_named : Table → ℕ → State → Option ReflectErrorKind → Option ℕ → Result State ReflectErrorKind
begins_named table s state (Some kind) found = Err kind
begins_named table s state None found = enters_named table s state found

-- begin_field enters the first field that is declared under the name, in the same way, and is refused where there is none
abbrev pub begin_field : Table → ℕ → State → (name : List ℕ) → Result State ReflectErrorKind
begin_field table s state name =
    begins_named table s state (at_shape s (named_refusal (def_of table s) (cursor_tree state)))
    (field_found name (def_of table s) (selected (cursor_tree state)))

-- Putting a value

-- the value takes the place of all that stood at the cursor
abbrev pub puts : State → Val → State
puts state v = record state { tree = change_at state.cursor (λ old. whole v) state.tree; calls = one_more_call state.calls }

abbrev pub puts_dynamic : State → (given : ℕ) → Result Dynamic Operation → Result State ReflectErrorKind
puts_dynamic state given (Ok d) = Ok (puts state (dyn d))
puts_dynamic state given (Err operation) = Err (operation_failed given operation)

-- a dynamic place takes a value of its own shape, and what it makes of one of another
abbrev pub set_dynamic : Table → ℕ → State → ℕ → Val → Result State ReflectErrorKind
set_dynamic table s state given v =
    if s == given then Ok (puts state v) else puts_dynamic state given (converted table s (def_of table given) v)

abbrev pub set : Table → ℕ → State → ℕ → Val → Result State ReflectErrorKind
set table s state given v =
    if is_dynamic (def_of table s) then set_dynamic table s state given v
    else unless_refused (set_refusal table s given) (puts state v)

abbrev pub puts_default : ℕ → State → Option Val → Result State ReflectErrorKind
puts_default s state (Some v) = Ok (puts state v)
puts_default s state None = Err (operation_failed s Operation.NoDefault)

-- set_default puts the default of the place's shape, and is refused where it has none
abbrev pub set_default : Table → ℕ → State → Result State ReflectErrorKind
set_default table s state = puts_default s state (preset_of table s)

-- Parsing

-- the value that is given is put; what refuses is refused so, and what doesn't do this fails by that operation
abbrev pub puts_parsed : ℕ → State → Meaning → (refusal : ReflectErrorKind) → Operation → Result State ReflectErrorKind
puts_parsed s state (gives v) refusal operation = Ok (puts state v)
puts_parsed s state (refuses message) refusal operation = Err refusal
puts_parsed s state unsupported refusal operation = Err (operation_failed s operation)

-- parse_from_str puts what the text means at the place; the refusal doesn't tell what the hook says
abbrev pub parse_from_str : Meanings → Table → ℕ → State → (text : List ℕ) → Result State ReflectErrorKind
parse_from_str hooks table s state text =
    puts_parsed s state (text_meant hooks table s text) (ReflectErrorKind.ParseFailed (record { 0 = s })) Operation.NoParsing

-- parse_from_bytes does so with bytes
abbrev pub parse_from_bytes : Meanings → Table → ℕ → State → (bytes : List ℕ) → Result State ReflectErrorKind
parse_from_bytes hooks table s state bytes =
    puts_parsed s state (bytes_meant hooks table s bytes) (operation_failed s Operation.BytesNotParsed) Operation.NoParsingOfBytes

-- A field's default

abbrev pub default_or : Option Val → ReflectErrorKind → Result Val ReflectErrorKind
default_or (Some v) kind = Ok v
default_or None kind = Err kind

abbrev pub default_by_mark : Table → (shape : ShapeId) → Option DefaultSource → Result Val ReflectErrorKind
default_by_mark table shape (Some (DefaultSource.Custom v)) = Ok v
default_by_mark table shape (Some DefaultSource.FromTrait) =
    default_or (preset_of table shape.0) (operation_failed shape.0 Operation.NoDefault)
default_by_mark table shape None = default_or (preset_of table shape.0) (ReflectErrorKind.DefaultAttrButNoDefaultImpl shape)

-- What a field is set to by its default, or why it can't be: its own template, where it is marked with one; else the default of its
-- shape. Where its shape has none, a marked field is refused as `set_default` is, and any other for want of either default.
abbrev pub field_default : Table → Field → Result Val ReflectErrorKind
field_default table field = default_by_mark table field.shape field.default

-- the place with its child i whole with the value, whatever stood there; a place begun as a conversion starts anew first
abbrev pub put_child : Def → ℕ → Val → Tree → Tree
put_child def i v t = change_child i (λ old. whole v) (opened def (without_source def t))

-- field i of the cursor's place is entered, whole with the value, and left
abbrev pub puts_child : Table → ℕ → State → ℕ → Val → State
puts_child table s state i v = record state {
  tree = change_at state.cursor (put_child (def_of table s) i v) state.tree;
  calls = one_more_call state.calls;
}

abbrev pub puts_child_default : Table → ℕ → State → ℕ → Result Val ReflectErrorKind → Result State ReflectErrorKind
puts_child_default table s state i (Ok v) = Ok (puts_child table s state i v)
puts_child_default table s state i (Err kind) = Err kind

abbrev pub defaults_field : Table → ℕ → State → ℕ → Option ReflectErrorKind → Option Field → Result State ReflectErrorKind
defaults_field table s state i (Some kind) field = Err kind
defaults_field table s state i None (Some field) = puts_child_default table s state i (field_default table field)
defaults_field table s state i None None = Err (operation_failed s Operation.FieldIndexOutOfBounds)

-- set_nth_field_to_default is refused where begin_field is, whatever the name; where there is no such field; and where that field
-- has no default. It is one call.
abbrev pub set_nth_field_to_default : Table → ℕ → State → ℕ → Result State ReflectErrorKind
set_nth_field_to_default table s state i =
    defaults_field table s state i (at_shape s (named_refusal (def_of table s) (cursor_tree state)))
    (field_in (def_of table s) (selected (cursor_tree state)) i)

-- Contents, sides and pointees

-- what is kept of the cursor's place stands there; where nothing is, it starts anew
abbrev pub becomes : State → (kept : Option Tree) → (anew : Tree) → State
becomes state kept anew = record state {
  tree = change_at state.cursor (λ old. unwrap_or kept anew) state.tree;
  calls = one_more_call state.calls;
}

-- what begin_some keeps of the option at the cursor
abbrev pub option_kept : Table → ℕ → State → Option Tree
option_kept table s state = kept_option state.mode (def_of table (content_shape (def_of table s))) (cursor_tree state)

-- what begin_ok, begin_err, begin_smart_ptr and the calls that begin a conversion keep of the cursor's place
abbrev pub content_kept : State → Tracker → Option Tree
content_kept state tracker = kept_in state.mode tracker (cursor_tree state)

-- begin_some: at an option alone
abbrev pub begin_some : Table → ℕ → State → Result State ReflectErrorKind
begin_some table s state =
    if is_option (def_of table s) then Ok (enters table s state (Way.Content (as_content ContentKind.Some) (option_kept table s state)))
    else Err (was_not_a Expected.Option s)

-- begin_ok and begin_err: at a result alone
abbrev pub begin_side : Table → ℕ → State → (side : Tracker) → Result State ReflectErrorKind
begin_side table s state side =
    if is_result (def_of table s) then Ok (enters table s state (Way.Content side (content_kept state side)))
    else Err (was_not_a Expected.Result s)

-- what begin_smart_ptr keeps of the pointer at the cursor, whose pointee is a slice or isn't
abbrev pub pointer_kept : State → (to_slice : Bool) → Option Tree
pointer_kept state to_slice = if to_slice then kept_slice state.mode (cursor_tree state) else content_kept state (as_content ContentKind.Pointer)

-- a pointer to a slice is open for items and the cursor stays; what any other points to is entered
abbrev pub begins_pointer : Table → ℕ → State → (to_slice : Bool) → State
begins_pointer table s state to_slice =
    if to_slice then becomes state (pointer_kept state to_slice) slice_anew
    else enters table s state (Way.Content (as_content ContentKind.Pointer) (pointer_kept state to_slice))

-- begin_smart_ptr: at a pointer that can be built
abbrev pub begin_smart_ptr : Table → ℕ → State → Result State ReflectErrorKind
begin_smart_ptr table s state =
    unless_refused (at_shape s (pointer_refusal table (def_of table s)))
    (begins_pointer table s state (points_to_slice table (def_of table s)))

-- Conversions

-- what is kept of the cursor's place where it is to be begun as this conversion
abbrev pub source_kept : State → Conversion → Option Tree
source_kept state conversion = content_kept state (as_content (ContentKind.Source conversion))

-- the source of the conversion is entered
abbrev pub enters_source : Table → ℕ → State → Conversion → State
enters_source table s state conversion =
    enters table s state (Way.Content (as_content (ContentKind.Source conversion)) (source_kept state conversion))

-- what begin_inner keeps of an option that it enters: in strict mode it starts anew
abbrev pub inner_option_kept : Table → ℕ → State → Mode → Option Tree
inner_option_kept table s state strict = None
inner_option_kept table s state (deferred start) = option_kept table s state

-- an option is begun as an option, and any other place as the conversion
abbrev pub begins_converted : Table → ℕ → State → (of_option : Bool) → Conversion → State
begins_converted table s state of_option conversion =
    if of_option then enters table s state (Way.Content (as_content ContentKind.Some) (inner_option_kept table s state state.mode))
    else enters_source table s state conversion

-- without a hook that converts from the source the place starts anew, and its field or element 0 is entered
abbrev pub begins_inner : Table → ℕ → State → (source : Option ShapeId) → (convert : Option HookId) → Result State ReflectErrorKind
begins_inner table s state None convert = Err (operation_failed s Operation.NoInner)
begins_inner table s state (Some source) None =
    unless_refused (at_shape s (field_refusal (def_of table s) (fresh (def_of table s)) 0)) (enters table s state (Way.Anew 0))
begins_inner table s state (Some source) (Some hook) =
    Ok (begins_converted table s state (is_option (def_of table s)) (by_wrapper hook source))

-- begin_inner: where the shape is built from another, or wraps one
abbrev pub begin_inner : Table → ℕ → State → Result State ReflectErrorKind
begin_inner table s state = begins_inner table s state (source_in (slice_get table s)) (convert_in (slice_get table s))

abbrev pub begins_by_proxy : Table → ℕ → State → Result ProxyDef Operation → Result State ReflectErrorKind
begins_by_proxy table s state (Ok proxy) = Ok (enters_source table s state (by_proxy proxy))
begins_by_proxy table s state (Err operation) = Err (operation_failed s operation)

-- begin_custom_deserialization, with a format or without: at a field that has a proxy for it
abbrev pub begin_custom_deserialization : Table → (root s : ℕ) → State → (format : Option (List ℕ)) → Result State ReflectErrorKind
begin_custom_deserialization table root s state format =
    begins_by_proxy table s state (proxy_of_field format (cursor_field table root state))

abbrev pub begins_if_proxied : Table → ℕ → State → Option ProxyDef → State
begins_if_proxied table s state (Some proxy) = enters_source table s state (by_proxy proxy)
begins_if_proxied table s state None = record state { calls = one_more_call state.calls }

-- begin_custom_deserialization_from_shape, with a format or without: where the shape has a proxy for it, and the place is no field that
-- has a proxy for any format; elsewhere nothing is changed
abbrev pub begin_custom_deserialization_from_shape : Table → (root s : ℕ) → State → (format : Option (List ℕ)) → State
begin_custom_deserialization_from_shape table root s state format =
    begins_if_proxied table s state (proxy_at table s (cursor_field table root state) format)

-- whether it begins a conversion
abbrev pub begins_from_shape : Table → (root : ℕ) → State → (format : Option (List ℕ)) → Bool
begins_from_shape table root state format = is_some (proxy_at table (cursor_shape table root state) (cursor_field table root state) format)

-- Lists, arrays and slices

-- the cursor's place is begun as its definition tells, a whole list with its items; what is begun stays as it is
abbrev pub opens : Table → ℕ → State → State
opens table s state = record state {
  tree = change_at state.cursor (opened (def_of table s)) state.tree;
  calls = one_more_call state.calls;
}

-- a list is begun, or a dynamic array, which starts anew unless one is there
abbrev pub begins_list : Table → ℕ → State → (of_dynamic : Bool) → State
begins_list table s state of_dynamic =
    if of_dynamic then becomes state (kept_array (cursor_tree state)) array_anew else opens table s state

-- init_list, with a capacity or without: a list keeps the items that it has
abbrev pub init_list : Table → ℕ → State → Result State ReflectErrorKind
init_list table s state =
    unless_refused (init_list_refusal s (def_of table s) (cursor_tree state)) (begins_list table s state (is_dynamic (def_of table s)))

-- an array is begun; a place begun as a conversion starts anew first
abbrev pub begins_array : Table → ℕ → State → State
begins_array table s state = record state {
  tree = change_at state.cursor (λ old. opened (def_of table s) (without_source (def_of table s) old)) state.tree;
  calls = one_more_call state.calls;
}

-- init_array: the elements of an entered array are holes
abbrev pub init_array : Table → ℕ → State → Result State ReflectErrorKind
init_array table s state =
    unless_refused (at_shape s (init_array_refusal (def_of table s) (cursor_tree state))) (begins_array table s state)

-- begin_list_item enters a new item, behind the others
abbrev pub begin_list_item : Table → ℕ → State → Result State ReflectErrorKind
begin_list_item table s state =
    unless_refused (at_shape s (item_refusal (def_of table s) (cursor_tree state))) (enters table s state Way.Item)

-- Sets and maps

-- a map is begun, or a dynamic object, which starts anew unless one is there
abbrev pub begins_map : Table → ℕ → State → (of_dynamic : Bool) → State
begins_map table s state of_dynamic =
    if of_dynamic then becomes state (kept_object (cursor_tree state)) object_anew else opens table s state

-- init_map: a map keeps the entries that it has
abbrev pub init_map : Table → ℕ → State → Result State ReflectErrorKind
init_map table s state =
    unless_refused (init_map_refusal s (def_of table s) (cursor_tree state)) (begins_map table s state (is_dynamic (def_of table s)))

-- init_set: at a set alone, which keeps the items that it has
abbrev pub init_set : Table → ℕ → State → Result State ReflectErrorKind
init_set table s state = unless_refused (init_set_refusal s (def_of table s) (cursor_tree state)) (opens table s state)

-- begin_key enters the key of a new entry, behind the others
abbrev pub begin_key : Table → ℕ → State → Result State ReflectErrorKind
begin_key table s state = unless_refused (at_shape s (key_refusal (cursor_tree state))) (enters table s state Way.Key)

-- begin_value enters the value of the last entry
abbrev pub begin_value : Table → ℕ → State → Result State ReflectErrorKind
begin_value table s state =
    unless_refused (at_shape s (value_refusal (cursor_tree state)))
    (enters table s state (Way.Value (last_of (count_below (cursor_tree state)))))

-- begin_set_item enters a new item of a set, behind the others
abbrev pub begin_set_item : Table → ℕ → State → Result State ReflectErrorKind
begin_set_item table s state =
    unless_refused (at_shape s (set_item_refusal (def_of table s) (cursor_tree state))) (enters table s state Way.Item)

-- Dynamic values

-- begin_object_entry enters the entry of this key, as it is or new
abbrev pub begin_object_entry : Table → ℕ → State → (key : List ℕ) → Result State ReflectErrorKind
begin_object_entry table s state key =
    unless_refused (at_shape s (entry_refusal (def_of table s) (cursor_tree state))) (enters table s state (Way.Entry key))

-- Slices

-- set_empty_shared_slice puts a pointer to no items
abbrev pub set_empty_shared_slice : Table → ℕ → State → Result State ReflectErrorKind
set_empty_shared_slice table s state =
    unless_refused (at_shape s (shared_slice_refusal table (def_of table s))) (puts state (ptr (list_of no_vals)))

-- Variants

-- what selecting a variant keeps of the enum at the cursor: that it is begun as that variant
abbrev pub variant_kept : State → ℕ → Option Tree
variant_kept state k = kept_so (as_fields (Some k)) (cursor_tree state)

abbrev pub selects : Table → ℕ → State → ℕ → State
selects table s state k = becomes state (variant_kept state k) (variant_anew (def_of table s) k)

abbrev pub select_found : Table → ℕ → State → Option ℕ → (unknown : Operation) → Result State ReflectErrorKind
select_found table s state (Some k) unknown =
    unless_refused (at_shape s (selection_refusal (def_of table s) k)) (selects table s state k)
select_found table s state None unknown = Err (operation_failed s unknown)

-- A variant is selected at an enum alone, by its number, by its name or by its discriminant.
abbrev pub select : Table → ℕ → State → (find : List VariantDef → Option ℕ) → (unknown : Operation) → Result State ReflectErrorKind
select table s state find unknown =
    if is_enum (def_of table s) then select_found table s state (find (variants_of (def_of table s))) unknown
    else Err (was_not_a Expected.Enum s)

abbrev pub select_nth_variant : Table → ℕ → State → ℕ → Result State ReflectErrorKind
select_nth_variant table s state i = select table s state (variant_numbered i) Operation.VariantIndexOutOfBounds

abbrev pub select_variant_named : Table → ℕ → State → (name : List ℕ) → Result State ReflectErrorKind
select_variant_named table s state name = select table s state (variant_named name) Operation.VariantNameUnknown

abbrev pub select_variant : Table → ℕ → State → (discriminant : ℤ) → Result State ReflectErrorKind
select_variant table s state discriminant = select table s state (variant_told_by discriminant) Operation.DiscriminantUnknown

-- Ending

abbrev pub or_missing : ℕ → Option ReflectErrorKind → ReflectErrorKind
or_missing s (Some kind) = kind
or_missing s None = missing_value s

-- why a place of shape s doesn't complete in strict mode
abbrev pub cause : Meanings → Table → ℕ → Tree → ReflectErrorKind
cause hooks table s t = or_missing s (lack hooks table s t)

-- the place at the cursor becomes whole with what it makes
abbrev pub puts_made : Meanings → Table → ℕ → State → Option Val → Result State ReflectErrorKind
puts_made hooks table s state (Some v) = Ok (puts state v)
puts_made hooks table s state None = Err (cause hooks table s (cursor_tree state))

-- the value takes the place of all that stood at the cursor, and the cursor goes up
abbrev pub puts_and_leaves : State → Val → State
puts_and_leaves state v = record (puts state v) { cursor = up state.cursor }

abbrev pub ended : Meanings → Table → ℕ → State → Option Val → Result State ReflectErrorKind
ended hooks table s state (Some v) = Ok (puts_and_leaves state v)
ended hooks table s state None = Err (cause hooks table s (cursor_tree state))

-- the cursor goes up, and what stands there is left as it is
abbrev pub leaves : State → State
leaves state = record state { cursor = up state.cursor; calls = one_more_call state.calls }

-- the place at the cursor, below the root, is an item of a set
abbrev pub is_set_item : State → Bool
is_set_item state = is_set (tree_at (up state.cursor) state.tree)

-- the set takes the value of the item at the cursor, and the cursor goes up
abbrev pub takes_item : State → Val → State
takes_item state v = record state {
  tree = change_at (up state.cursor) (with_ended_item (number_in state.cursor) v) state.tree;
  cursor = up state.cursor;
  calls = one_more_call state.calls;
}

-- why a place of shape s, at this path, doesn't complete by the rules of a column
abbrev pub cause_by : Column → Meanings → Table → ℕ → List PathStep → Tree → ReflectErrorKind
cause_by strict_column hooks table s path t = cause hooks table s t
cause_by deferred_column hooks table s path t = or_missing s (kind_of (first_by_walk (failures hooks table s path t)))

abbrev pub item_ended : Column → Meanings → Table → ℕ → State → Option Val → Result State ReflectErrorKind
item_ended column hooks table s state (Some v) = Ok (takes_item state v)
item_ended column hooks table s state None = Err (cause_by column hooks table s (path_of state) (cursor_tree state))

-- an item of a set is completed as it is left, in either mode, with all that lies beneath it
abbrev pub ends_item : Column → Meanings → Table → ℕ → State → Result State ReflectErrorKind
ends_item column hooks table s state = item_ended column hooks table s state (complete column hooks table s (cursor_tree state))

-- the place at the cursor, below the root, is an element or an entry of a dynamic value
abbrev pub is_dynamic_part : State → Bool
is_dynamic_part state = is_begun_dynamic (tree_at (up state.cursor) state.tree)

abbrev pub part_ended : Meanings → Table → ℕ → State → Option Val → Result State ReflectErrorKind
part_ended hooks table s state (Some v) = Ok (puts_and_leaves state v)
part_ended hooks table s state None = Err (cause_by deferred_column hooks table s (path_of state) (cursor_tree state))

-- in deferred mode such a part is completed as it is left, with all that lies beneath it; any other place is left as it is
abbrev pub leaves_deferred : Meanings → Table → ℕ → State → (of_dynamic : Bool) → Result State ReflectErrorKind
leaves_deferred hooks table s state true = part_ended hooks table s state (complete deferred_column hooks table s (cursor_tree state))
leaves_deferred hooks table s state false = Ok (leaves state)

-- the place at the cursor, below the root, is the source of a conversion
abbrev pub is_source_place : State → Bool
is_source_place state = is_begun_conversion (tree_at (up state.cursor) state.tree)

-- the state with its cursor at the place above
abbrev pub above : State → State
above state = record state { cursor = up state.cursor }

-- a source ends as the conversion above completes with it: that becomes whole, and the cursor goes up to it
abbrev pub ends_source : Meanings → Table → (root : ℕ) → State → Result State ReflectErrorKind
ends_source hooks table root state =
    puts_made hooks table (cursor_shape table root (above state)) (above state)
    (complete strict_column hooks table (cursor_shape table root (above state)) (cursor_tree (above state)))

-- In strict mode the place is completed and becomes whole, and a source is converted; in deferred mode it is left as it is, where it lies
-- deeper than the place at which that began. An item of a set, and a part of a dynamic value, is completed in either.
abbrev pub end_in : Meanings → Table → (root s : ℕ) → State → Mode → Result State ReflectErrorKind
end_in hooks table root s state strict =
    if is_set_item state then ends_item strict_column hooks table s state
    else if is_source_place state then ends_source hooks table root state
    else ended hooks table s state (complete strict_column hooks table s (cursor_tree state))
end_in hooks table root s state (deferred start) =
    if nat_lt start (length state.cursor) then
    (if is_set_item state then ends_item deferred_column hooks table s state
    else leaves_deferred hooks table s state (is_dynamic_part state))
    else Err (violates Invariant.EndAtStart)

abbrev pub leaves_place : Meanings → Table → (root s : ℕ) → State → Result State ReflectErrorKind
leaves_place hooks table root s state =
    if is_root state.cursor then Err (violates Invariant.EndAtRoot) else end_in hooks table root s state state.mode

-- the pointer to a slice at the cursor takes no more items
abbrev pub closes : State → State
closes state = record state { tree = change_at state.cursor closed_slice state.tree; calls = one_more_call state.calls }

-- an open pointer to a slice is completed and becomes whole in strict mode, and is closed in deferred mode; the cursor stays
abbrev pub closes_slice : Meanings → Table → ℕ → State → Mode → Result State ReflectErrorKind
closes_slice hooks table s state strict = puts_made hooks table s state (complete strict_column hooks table s (cursor_tree state))
closes_slice hooks table s state (deferred start) = Ok (closes state)

-- end: at an open pointer to a slice, be it the root, that is closed; any other place is left, if it isn't the root
abbrev pub end : Meanings → Table → (root s : ℕ) → State → Result State ReflectErrorKind
end hooks table root s state =
    if is_open_slice (cursor_tree state) then closes_slice hooks table s state state.mode
    else leaves_place hooks table root s state

-- Deferred mode

abbrev pub begins_deferred : State → Mode → Result State ReflectErrorKind
begins_deferred state strict = Ok (record state { mode = deferred (length state.cursor); calls = one_more_call state.calls })
begins_deferred state (deferred start) = Err (violates Invariant.AlreadyDeferred)

-- begin_deferred: in strict mode alone; from now on places are left as they are
abbrev pub begin_deferred : State → Result State ReflectErrorKind
begin_deferred state = begins_deferred state state.mode

-- the tree that the end of deferred mode makes, where it makes one; the cursor stays
abbrev pub finishes : Meanings → Table → (root : ℕ) → State → Option Tree → Result State ReflectErrorKind
finishes hooks table root state (Some tree) = Ok (record state { tree = tree; mode = strict; calls = one_more_call state.calls })
finishes hooks table root state None = Err (finish_cause hooks table root state.cursor state.tree)

abbrev pub finish_in : Meanings → Table → (root : ℕ) → State → Mode → Result State ReflectErrorKind
finish_in hooks table root state strict = Err (violates Invariant.NotDeferred)
finish_in hooks table root state (deferred start) = finishes hooks table root state (finished hooks table root state.cursor state.tree)

-- finish_deferred: in deferred mode alone; all that was left is completed, and the mode is strict again
abbrev pub finish_deferred : Meanings → Table → (root : ℕ) → State → Result State ReflectErrorKind
finish_deferred hooks table root state = finish_in hooks table root state state.mode

-- a command at a place of shape s, the root having shape `root`
abbrev pub step_at : Meanings → Table → (root s : ℕ) → State → Call → Result State ReflectErrorKind
step_at hooks table root s state (Call.BeginField name) = begin_field table s state name
step_at hooks table root s state (Call.BeginNthField i) = begin_nth_field table s state i
step_at hooks table root s state (Call.SetNthFieldToDefault i) = set_nth_field_to_default table s state i
step_at hooks table root s state (Call.Set given v) = set table s state given v
step_at hooks table root s state Call.SetDefault = set_default table s state
step_at hooks table root s state (Call.ParseFromStr text) = parse_from_str hooks table s state text
step_at hooks table root s state (Call.ParseFromBytes bytes) = parse_from_bytes hooks table s state bytes
step_at hooks table root s state Call.SetEmptySharedSlice = set_empty_shared_slice table s state
step_at hooks table root s state Call.InitList = init_list table s state
step_at hooks table root s state (Call.InitListWithCapacity n) = init_list table s state
step_at hooks table root s state Call.InitArray = init_array table s state
step_at hooks table root s state Call.BeginListItem = begin_list_item table s state
step_at hooks table root s state Call.InitMap = init_map table s state
step_at hooks table root s state Call.BeginKey = begin_key table s state
step_at hooks table root s state Call.BeginValue = begin_value table s state
step_at hooks table root s state Call.InitSet = init_set table s state
step_at hooks table root s state Call.BeginSetItem = begin_set_item table s state
step_at hooks table root s state (Call.BeginObjectEntry key) = begin_object_entry table s state key
step_at hooks table root s state Call.BeginSome = begin_some table s state
step_at hooks table root s state Call.BeginOk = begin_side table s state (as_content ContentKind.Ok)
step_at hooks table root s state Call.BeginErr = begin_side table s state (as_content ContentKind.Err)
step_at hooks table root s state Call.BeginSmartPtr = begin_smart_ptr table s state
step_at hooks table root s state Call.BeginInner = begin_inner table s state
step_at hooks table root s state Call.BeginCustomDeserialization = begin_custom_deserialization table root s state None
step_at hooks table root s state (Call.BeginCustomDeserializationWithFormat format) = begin_custom_deserialization table root s state format
step_at hooks table root s state Call.BeginCustomDeserializationFromShape =
    Ok (begin_custom_deserialization_from_shape table root s state None)
step_at hooks table root s state (Call.BeginCustomDeserializationFromShapeWithFormat format) =
    Ok (begin_custom_deserialization_from_shape table root s state format)
step_at hooks table root s state (Call.SelectNthVariant i) = select_nth_variant table s state i
step_at hooks table root s state (Call.SelectVariantNamed name) = select_variant_named table s state name
step_at hooks table root s state (Call.SelectVariant discriminant) = select_variant table s state discriminant
step_at hooks table root s state Call.End = end hooks table root s state
step_at hooks table root s state Call.BeginDeferred = begin_deferred state
step_at hooks table root s state Call.FinishDeferred = finish_deferred hooks table root state

-- a command at the cursor, the root having shape `root`
abbrev pub step : Meanings → Table → ℕ → State → Call → Result State ReflectErrorKind
step hooks table root state command = step_at hooks table root (cursor_shape table root state) state command

-- a value is built if each invariant that it has to keep is kept
abbrev pub built : Meanings → Table → ℕ → Tree → Option Val → Result Val ReflectErrorKind
built hooks table root t (Some v) =
    if keeps_invariants hooks.check table root v then Ok v else Err (violates Invariant.TypeInvariant)
built hooks table root t None = Err (cause hooks table root t)

abbrev pub build_in : Meanings → Table → ℕ → State → Mode → Result Val ReflectErrorKind
build_in hooks table root state (deferred start) = Err (violates Invariant.BuildDeferred)
build_in hooks table root state strict =
    if is_root state.cursor then built hooks table root state.tree (complete strict_column hooks table root state.tree)
    else Err (violates Invariant.BuildOpenFrames)

-- build, the last step: the mode is strict and the cursor is at the root, which is completed and keeps its invariants
abbrev pub build : Meanings → Table → ℕ → State → Result Val ReflectErrorKind
build hooks table root state = build_in hooks table root state state.mode
