-- The tokens that a call drops: the ledger rises by exactly these.
use Rattle.std.specs.Prelude.{◌+◌, ◌&&◌, ◌||◌, if◌then◌else◌}
use Rattle.fr_model.specs.Common.{ℕ, Bool, true, false, not, Option, Some, None, Result, Ok, Err, ReflectErrorKind, Meanings, is_dynamic, is_option, ShapeId, slice_get, Table, def_of, variants_of, Val, occurs}
use Rattle.fr_model.specs.Basis.{leaves_item_out, number_in, Call, by_proxy, by_wrapper, convert_in, proxy_at, proxy_of_field, source_in, cursor_field, is_begun_conversion, without_source, complete, kept_array, kept_object, up, Column, strict_column, deferred_column, points_to_slice, as_content, ContentKind, Tree, child_tree, tree_at, Mode, strict, deferred, State, cursor_shape, cursor_tree, tree_occurs, brings, variant_numbered, variant_named, variant_told_by}
use Rattle.std.specs.Result.{result_ok}
use Rattle.fr_shape.specs.declared.shape.HookId.{HookId}
use Rattle.fr_shape.specs.declared.shape.ProxyDef.{ProxyDef}
use Rattle.fr_model.specs.Contents.{is_deferred}
use Rattle.fr_model.specs.Dropping.{dropped_by_completing, dropped_by_finishing}
use Rattle.fr_model.specs.Items.{is_open_slice}
use Rattle.fr_model.specs.Entering.{opened}
use Rattle.fr_model.specs.Step.{above, inner_option_kept, is_source_place, option_kept, source_kept, content_kept, pointer_kept, variant_kept, is_set_item, is_dynamic_part, step, build}

-- how often a token stands in what is at the cursor
abbrev pub occurs_here : State → ℕ → ℕ
occurs_here state t = tree_occurs (cursor_tree state) t

-- how often a token stands in the child of the cursor's place that has this number, a conversion having started anew
abbrev pub occurs_in_child : Table → (s : ℕ) → State → ℕ → ℕ → ℕ
occurs_in_child table s state i t =
    tree_occurs (child_tree i (opened (def_of table s) (without_source (def_of table s) (cursor_tree state)))) t

-- a place that starts anew drops all that stood there; one of which something is kept drops nothing
abbrev pub dropped_unless : (kept : Option Tree) → State → ℕ → ℕ
dropped_unless (Some kept) state t = 0
dropped_unless None state t = occurs_here state t

-- a dynamic value that starts anew; another place is begun as it is
abbrev pub dropped_if : (of_dynamic : Bool) → (kept : Option Tree) → State → ℕ → ℕ
dropped_if true kept state t = dropped_unless kept state t
dropped_if false kept state t = 0

-- the place of an enum at which this variant is selected
abbrev pub dropped_by_selecting : (found : Option ℕ) → State → ℕ → ℕ
dropped_by_selecting (Some k) state t = dropped_unless (variant_kept state k) state t
dropped_by_selecting None state t = 0

-- by the rules of which column the place at the cursor completes as it ends, if it does: in deferred mode only an item of a set, or a
-- part of a dynamic value, does
abbrev pub column_at_end : Mode → (in_either : Bool) → Option Column
column_at_end strict in_either = Some strict_column
column_at_end (deferred start) true = Some deferred_column
column_at_end (deferred start) false = None

abbrev pub dropped_with_item : (i : ℕ) → (set : Tree) → (value : Option Val) → ℕ → ℕ
dropped_with_item i set (Some v) t = if leaves_item_out i v set then occurs v t else 0
dropped_with_item i set None t = 0

-- the item's value, where its set leaves it out
abbrev pub dropped_as_item : Column → Meanings → Table → (s : ℕ) → State → (of_set : Bool) → ℕ → ℕ
dropped_as_item column hooks table s state true t =
    dropped_with_item (number_in state.cursor) (tree_at (up state.cursor) state.tree)
    (complete column hooks table s (cursor_tree state)) t
dropped_as_item column hooks table s state false t = 0

abbrev pub dropped_by_column : Option Column → Meanings → Table → (s : ℕ) → State → (of_set : Bool) → ℕ → ℕ
dropped_by_column (Some column) hooks table s state of_set t =
    dropped_by_completing column hooks table s (cursor_tree state) t + dropped_as_item column hooks table s state of_set t
dropped_by_column None hooks table s state of_set t = 0

-- a conversion that starts anew; nothing anywhere else
abbrev pub dropped_with_source : State → ℕ → ℕ
dropped_with_source state t = if is_begun_conversion (cursor_tree state) then occurs_here state t else 0

-- what begin_inner keeps of the place at the cursor: of an option what it keeps of it, of any other place its source; without a hook that
-- converts nothing
abbrev pub kept_by_inner : Table → (s : ℕ) → State → (source : Option ShapeId) → (convert : Option HookId) → Option Tree
kept_by_inner table s state (Some source) (Some hook) =
    if is_option (def_of table s) then inner_option_kept table s state state.mode else source_kept state (by_wrapper hook source)
kept_by_inner table s state (Some source) None = None
kept_by_inner table s state None convert = None

-- a place that is begun by this proxy, if there is one
abbrev pub dropped_by_proxy : Option ProxyDef → State → ℕ → ℕ
dropped_by_proxy (Some proxy) state t = dropped_unless (source_kept state (by_proxy proxy)) state t
dropped_by_proxy None state t = 0

-- the place at the cursor is left as an item of a set: an open pointer to a slice isn't left yet
abbrev pub leaves_set_item : State → Bool
leaves_set_item state = not (is_open_slice (cursor_tree state)) && is_set_item state

abbrev pub leaves_dynamic_part : State → Bool
leaves_dynamic_part state = not (is_open_slice (cursor_tree state)) && is_dynamic_part state

-- the place at the cursor is left as a source that is converted
abbrev pub leaves_source : State → Bool
leaves_source state = not (is_open_slice (cursor_tree state)) && not (is_deferred state.mode) && is_source_place state

abbrev pub dropped_at_end : Meanings → Table → (root s : ℕ) → State → ℕ → ℕ
dropped_at_end hooks table root s state t =
    if leaves_source state
    then dropped_by_completing strict_column hooks table (cursor_shape table root (above state)) (cursor_tree (above state)) t
    else dropped_by_column (column_at_end state.mode (leaves_set_item state || leaves_dynamic_part state)) hooks table s state
    (leaves_set_item state) t

-- What an admitted command drops, at a place of shape s, the root having shape `root`: `set`, `set_default`, the two that parse and
-- `set_empty_shared_slice` what stood there, for their value takes its place; `set_nth_field_to_default` what stood at that field; a
-- command that begins a content, a side, a pointee or a source, an array or an object of a dynamic value, or selects a variant, what stood
-- there, unless it is kept; those on fields and `init_array` what stood there, where it was a conversion; `end` and `finish_deferred` what
-- is left out of the sets and maps that complete, and what the conversions that are made don't take; no other command drops anything.
abbrev pub replaced : Meanings → Table → (root s : ℕ) → State → Call → ℕ → ℕ
replaced hooks table root s state (Call.BeginField name) t = dropped_with_source state t
replaced hooks table root s state (Call.BeginNthField i) t = dropped_with_source state t
replaced hooks table root s state (Call.SetNthFieldToDefault i) t =
    dropped_with_source state t + occurs_in_child table s state i t
replaced hooks table root s state (Call.Set given v) t = occurs_here state t
replaced hooks table root s state Call.SetDefault t = occurs_here state t
replaced hooks table root s state (Call.ParseFromStr text) t = occurs_here state t
replaced hooks table root s state (Call.ParseFromBytes bytes) t = occurs_here state t
replaced hooks table root s state Call.SetEmptySharedSlice t = occurs_here state t
replaced hooks table root s state Call.InitList t = dropped_if (is_dynamic (def_of table s)) (kept_array (cursor_tree state)) state t
replaced hooks table root s state (Call.InitListWithCapacity n) t =
    dropped_if (is_dynamic (def_of table s)) (kept_array (cursor_tree state)) state t
replaced hooks table root s state Call.InitArray t = dropped_with_source state t
replaced hooks table root s state Call.BeginListItem t = 0
replaced hooks table root s state Call.InitMap t = dropped_if (is_dynamic (def_of table s)) (kept_object (cursor_tree state)) state t
replaced hooks table root s state Call.BeginKey t = 0
replaced hooks table root s state Call.BeginValue t = 0
replaced hooks table root s state Call.InitSet t = 0
replaced hooks table root s state Call.BeginSetItem t = 0
replaced hooks table root s state (Call.BeginObjectEntry key) t = 0
replaced hooks table root s state Call.BeginSome t = dropped_unless (option_kept table s state) state t
replaced hooks table root s state Call.BeginOk t = dropped_unless (content_kept state (as_content ContentKind.Ok)) state t
replaced hooks table root s state Call.BeginErr t = dropped_unless (content_kept state (as_content ContentKind.Err)) state t
replaced hooks table root s state Call.BeginSmartPtr t =
    dropped_unless (pointer_kept state (points_to_slice table (def_of table s))) state t
replaced hooks table root s state Call.BeginInner t =
    dropped_unless (kept_by_inner table s state (source_in (slice_get table s)) (convert_in (slice_get table s))) state t
replaced hooks table root s state Call.BeginCustomDeserialization t =
    dropped_by_proxy (result_ok (proxy_of_field None (cursor_field table root state))) state t
replaced hooks table root s state (Call.BeginCustomDeserializationWithFormat format) t =
    dropped_by_proxy (result_ok (proxy_of_field format (cursor_field table root state))) state t
replaced hooks table root s state Call.BeginCustomDeserializationFromShape t =
    dropped_by_proxy (proxy_at table s (cursor_field table root state) None) state t
replaced hooks table root s state (Call.BeginCustomDeserializationFromShapeWithFormat format) t =
    dropped_by_proxy (proxy_at table s (cursor_field table root state) format) state t
replaced hooks table root s state (Call.SelectNthVariant i) t =
    dropped_by_selecting (variant_numbered i (variants_of (def_of table s))) state t
replaced hooks table root s state (Call.SelectVariantNamed name) t =
    dropped_by_selecting (variant_named name (variants_of (def_of table s))) state t
replaced hooks table root s state (Call.SelectVariant discriminant) t =
    dropped_by_selecting (variant_told_by discriminant (variants_of (def_of table s))) state t
replaced hooks table root s state Call.End t = dropped_at_end hooks table root s state t
replaced hooks table root s state Call.BeginDeferred t = 0
replaced hooks table root s state Call.FinishDeferred t = dropped_by_finishing hooks table root state.cursor state.tree t

abbrev pub removed_by : Meanings → Table → (root s : ℕ) → State → Call → Result State ReflectErrorKind → ℕ → ℕ
removed_by hooks table root s state command (Ok next) t = replaced hooks table root s state command t
removed_by hooks table root s state command (Err kind) t = tree_occurs state.tree t + brings command t

-- How often a command drops a token: as above where it is admitted; where it is refused, all that the builder holds and
-- the command brings.
abbrev pub removed : Meanings → Table → (root : ℕ) → State → Call → ℕ → ℕ
removed hooks table root state command t =
    removed_by hooks table root (cursor_shape table root state) state command (step hooks table root state command) t

abbrev pub removed_by_build : Meanings → Table → (root : ℕ) → State → Result Val ReflectErrorKind → ℕ → ℕ
removed_by_build hooks table root state (Ok v) t = dropped_by_completing strict_column hooks table root state.tree t
removed_by_build hooks table root state (Err kind) t = tree_occurs state.tree t

-- How often `build` drops a token: where it returns a value, what is left out of sets and maps and what conversions don't take; where it
-- is refused, all that the builder holds.
abbrev pub removed_at_build : Meanings → Table → (root : ℕ) → State → ℕ → ℕ
removed_at_build hooks table root state t = removed_by_build hooks table root state (build hooks table root state) t
