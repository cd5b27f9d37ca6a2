-- Passage: which runs are orderly, so that a script gives the same value in strict mode and in deferred mode.
use Rattle.std.specs.Prelude.{◌≡◌, ◌&&◌, ◌||◌, ◌∷◌, ◌++◌, if◌then◌else◌}
use Rattle.std.specs.Result.{result_ok}
use Rattle.fr_shape.specs.Checked.{fields_of, proxies_of}
use Rattle.fr_shape.specs.Plannable.{Reached}
use Rattle.fr_shape.specs.declared.shape.ProxyDef.{ProxyDef}
use Rattle.fr_model.specs.Common.{ℕ, suc, zero, Bool, true, false, not, List, [], list_all, slice_get, Option, Some, None, is_none, Result, Ok, Err, Def, Field, Shape, ReflectErrorKind, preset_of, is_nil, is_dynamic, Meanings, Table, def_of, field_in, Val}
use Rattle.fr_model.specs.Basis.{Call, BeginDeferred, FinishDeferred, proxy_at, proxy_of_field, by_proxy, is_root, Place, Tracker, selected, Tree, hole, entered, whole, begun, Trees, no_trees, branch, tree_nth, child_as, fresh, without_source, Mode, strict, deferred, State, initial, cursor_tree, cursor_field, cursor_shape, field_found}
use Rattle.fr_model.specs.Collections.{is_hole, last_of}
use Rattle.fr_model.specs.DynamicPlaces.{entry_found, keys_here}
use Rattle.fr_model.specs.Items.{is_open_slice}
use Rattle.fr_model.specs.Step.{step, is_set_item, is_dynamic_part, source_kept}
use Rattle.fr_model.specs.Run.{full_run}
use Rattle.fr_model.specs.Tree.{count_below}

-- Tables

abbrev pub is_unproxied_field : Field → Bool
is_unproxied_field field = is_nil (proxies_of field.proxy field.format_proxies)

-- the shape has no proxy and no conversion and isn't dynamic, and none of its fields has a proxy
abbrev pub is_direct_shape : Shape → Bool
is_direct_shape shape =
    is_nil (proxies_of shape.proxy shape.format_proxies) && is_none shape.convert && not (is_dynamic shape.def)
    && list_all is_unproxied_field (fields_of shape.def)

-- no shape that the root reaches has a proxy or a conversion or is dynamic, and no field or variant field of one has a proxy
abbrev pub IsDirect : Table → (root : ℕ) → Type 0
IsDirect table root =
    (id : ℕ) (shape : Shape) → Reached table root id → slice_get table id ≡ Some shape → is_direct_shape shape ≡ true

-- A child that is entered is new or a hole.

-- child i is a hole: of an entered place each is one, of a whole place, whose children are whole, none
abbrev pub is_hole_in : ℕ → Tree → Bool
is_hole_in i hole = false
is_hole_in i entered = true
is_hole_in i (whole v) = false
is_hole_in i (begun tracker children) = is_hole (tree_nth i children)

-- the same of the cursor's place, of shape s, which starts anew where it is a conversion
abbrev pub enters_hole : Table → (s : ℕ) → State → ℕ → Bool
enters_hole table s state i = is_hole_in i (without_source (def_of table s) (cursor_tree state))

abbrev pub enters_found_hole : Table → (s : ℕ) → State → Option ℕ → Bool
enters_found_hole table s state (Some i) = enters_hole table s state i
enters_found_hole table s state None = true

-- a source is new, but where that of the same conversion is entered again as it is
abbrev pub enters_new_source : State → Option ProxyDef → Bool
enters_new_source state (Some proxy) = is_none (source_kept state (by_proxy proxy))
enters_new_source state None = true

-- at the cursor, a place of shape s: the child that the command enters, if it enters one, is new or a hole (what begin_some and the
-- like enter is new, where the place is entered, as they want it below)
abbrev pub enters_new_or_hole : Table → (root s : ℕ) → State → Call → Bool
enters_new_or_hole table root s state (Call.BeginField name) =
    enters_found_hole table s state (field_found name (def_of table s) (selected (cursor_tree state)))
enters_new_or_hole table root s state (Call.BeginNthField i) = enters_hole table s state i
enters_new_or_hole table root s state (Call.SetNthFieldToDefault i) = enters_hole table s state i
enters_new_or_hole table root s state Call.BeginListItem = true
enters_new_or_hole table root s state Call.BeginKey = true
enters_new_or_hole table root s state Call.BeginValue = enters_hole table s state (last_of (count_below (cursor_tree state)))
enters_new_or_hole table root s state Call.BeginSetItem = true
enters_new_or_hole table root s state (Call.BeginObjectEntry key) = is_none (entry_found key (keys_here (cursor_tree state)))
enters_new_or_hole table root s state Call.BeginCustomDeserialization =
    enters_new_source state (result_ok (proxy_of_field None (cursor_field table root state)))
enters_new_or_hole table root s state (Call.BeginCustomDeserializationWithFormat format) =
    enters_new_source state (result_ok (proxy_of_field format (cursor_field table root state)))
enters_new_or_hole table root s state Call.BeginCustomDeserializationFromShape =
    enters_new_source state (proxy_at table s (cursor_field table root state) None)
enters_new_or_hole table root s state (Call.BeginCustomDeserializationFromShapeWithFormat format) =
    enters_new_source state (proxy_at table s (cursor_field table root state) format)
enters_new_or_hole table root s state (Call.Set given v) = true
enters_new_or_hole table root s state Call.SetDefault = true
enters_new_or_hole table root s state (Call.ParseFromStr text) = true
enters_new_or_hole table root s state (Call.ParseFromBytes bytes) = true
enters_new_or_hole table root s state Call.SetEmptySharedSlice = true
enters_new_or_hole table root s state Call.InitList = true
enters_new_or_hole table root s state (Call.InitListWithCapacity n) = true
enters_new_or_hole table root s state Call.InitArray = true
enters_new_or_hole table root s state Call.InitMap = true
enters_new_or_hole table root s state Call.InitSet = true
enters_new_or_hole table root s state Call.BeginSome = true
enters_new_or_hole table root s state Call.BeginOk = true
enters_new_or_hole table root s state Call.BeginErr = true
enters_new_or_hole table root s state Call.BeginSmartPtr = true
enters_new_or_hole table root s state Call.BeginInner = true
enters_new_or_hole table root s state (Call.SelectNthVariant i) = true
enters_new_or_hole table root s state (Call.SelectVariantNamed name) = true
enters_new_or_hole table root s state (Call.SelectVariant discriminant) = true
enters_new_or_hole table root s state Call.End = true
enters_new_or_hole table root s state Call.BeginDeferred = true
enters_new_or_hole table root s state Call.FinishDeferred = true

-- A place at which the command selects, initializes, sets, parses, or begins a content, side or pointee, or that calls begin_inner, is
-- entered.

abbrev pub is_entered : Tree → Bool
is_entered hole = false
is_entered entered = true
is_entered (whole v) = false
is_entered (begun tracker children) = false

-- init_list initializes nothing at an open pointer to a slice, which it leaves as it is
abbrev pub may_begin_list : Tree → Bool
may_begin_list tree = is_entered tree || is_open_slice tree

-- field i of a place of this definition, a hole, is entered where it is to be set to its default
abbrev pub enters_to_set : Table → Option Field → Bool
enters_to_set table (Some field) = is_entered (fresh (def_of table field.shape.0))
enters_to_set table None = true

-- at the cursor, a place of shape s
abbrev pub works_at_entered : Table → (s : ℕ) → State → Call → Bool
works_at_entered table s state (Call.SelectNthVariant i) = is_entered (cursor_tree state)
works_at_entered table s state (Call.SelectVariantNamed name) = is_entered (cursor_tree state)
works_at_entered table s state (Call.SelectVariant discriminant) = is_entered (cursor_tree state)
works_at_entered table s state Call.InitList = may_begin_list (cursor_tree state)
works_at_entered table s state (Call.InitListWithCapacity n) = may_begin_list (cursor_tree state)
works_at_entered table s state Call.InitArray = is_entered (cursor_tree state)
works_at_entered table s state Call.InitMap = is_entered (cursor_tree state)
works_at_entered table s state Call.InitSet = is_entered (cursor_tree state)
works_at_entered table s state (Call.Set given v) = is_entered (cursor_tree state)
works_at_entered table s state Call.SetDefault = is_entered (cursor_tree state)
works_at_entered table s state (Call.SetNthFieldToDefault i) =
    enters_to_set table (field_in (def_of table s) (selected (cursor_tree state)) i)
works_at_entered table s state Call.SetEmptySharedSlice = is_entered (cursor_tree state)
works_at_entered table s state (Call.ParseFromStr text) = is_entered (cursor_tree state)
works_at_entered table s state (Call.ParseFromBytes bytes) = is_entered (cursor_tree state)
works_at_entered table s state Call.BeginSome = is_entered (cursor_tree state)
works_at_entered table s state Call.BeginOk = is_entered (cursor_tree state)
works_at_entered table s state Call.BeginErr = is_entered (cursor_tree state)
works_at_entered table s state Call.BeginSmartPtr = is_entered (cursor_tree state)
works_at_entered table s state Call.BeginInner = is_entered (cursor_tree state)
works_at_entered table s state (Call.BeginField name) = true
works_at_entered table s state (Call.BeginNthField i) = true
works_at_entered table s state Call.BeginListItem = true
works_at_entered table s state Call.BeginKey = true
works_at_entered table s state Call.BeginValue = true
works_at_entered table s state Call.BeginSetItem = true
works_at_entered table s state (Call.BeginObjectEntry key) = true
works_at_entered table s state Call.BeginCustomDeserialization = true
works_at_entered table s state (Call.BeginCustomDeserializationWithFormat format) = true
works_at_entered table s state Call.BeginCustomDeserializationFromShape = true
works_at_entered table s state (Call.BeginCustomDeserializationFromShapeWithFormat format) = true
works_at_entered table s state Call.End = true
works_at_entered table s state Call.BeginDeferred = true
works_at_entered table s state Call.FinishDeferred = true

-- No completion fills a hole.

-- an entered struct without a default completes as its fields, all holes, are filled
abbrev pub fills_entered : Def → (preset : Option Val) → Bool
fills_entered (Def.Struct struct) preset = is_none preset
fills_entered _ preset = false

-- Completing a place of shape s fills a hole, of the place itself or of one beneath it (or fails at that hole): a child that is still a
-- hole as the place completes, or the fields of an entered struct without a default.
abbrev mutual
  pub fills : Table → ℕ → Tree → Bool
  fills table s hole = false
  fills table s entered = fills_entered (def_of table s) (preset_of table s)
  fills table s (whole v) = false
  fills table s (begun tracker children) = fills_among table s tracker 0 children

  -- the children from number i on, of a place of shape s that is begun so
  pub fills_among : Table → ℕ → Tracker → ℕ → Trees → Bool
  fills_among table s tracker i no_trees = false
  fills_among table s tracker i (branch t ts) =
      (is_hole t || fills table (child_as table s tracker i) t) || fills_among table s tracker (suc i) ts

-- of children that lie off the way, from number i on: a hole is left as it is
abbrev pub fills_off : Table → ℕ → Tracker → ℕ → Trees → Bool
fills_off table s tracker i no_trees = false
fills_off table s tracker i (branch t ts) = fills table (child_as table s tracker i) t || fills_off table s tracker (suc i) ts

-- the same with one of them, as many further on, on the way
abbrev pub fills_but : Table → ℕ → Tracker → (on_way : ℕ) → (ℕ → Tree → Bool) → ℕ → Trees → Bool
fills_but table s tracker on_way below i no_trees = false
fills_but table s tracker zero below i (branch t ts) =
    below (child_as table s tracker i) t || fills_off table s tracker (suc i) ts
fills_but table s tracker (suc on_way) below i (branch t ts) =
    fills table (child_as table s tracker i) t || fills_but table s tracker on_way below (suc i) ts

-- the end of deferred mode completes all places but those above the cursor's
abbrev pub finish_fills : Table → ℕ → (cursor : Place) → Tree → Bool
finish_fills table s [] t = fills table s t
finish_fills table s (i ∷ place) (begun tracker children) =
    fills_but table s tracker i (λ (shape : ℕ) (t : Tree). finish_fills table shape place t) 0 children
finish_fills table s (i ∷ place) _ = false

-- `end` completes the cursor's place, of shape s, in strict mode, and a conversion with its source; in deferred mode it completes an item of
-- a set, and a part of a dynamic value, alone
abbrev pub end_fills : Table → (s : ℕ) → State → Mode → Bool
end_fills table s state strict = fills table s (cursor_tree state)
end_fills table s state (deferred start) =
    if is_open_slice (cursor_tree state) then false
    else if is_set_item state || is_dynamic_part state then fills table s (cursor_tree state) else false

-- `build` completes the root, in strict mode and where the cursor is there
abbrev pub build_fills : Table → (root : ℕ) → State → Mode → Bool
build_fills table root state strict = if is_root state.cursor then fills table root state.tree else false
build_fills table root state (deferred start) = false

-- what the command completes it completes without filling a hole
abbrev pub fills_none : Table → (root s : ℕ) → State → Call → Bool
fills_none table root s state Call.End = not (end_fills table s state state.mode)
fills_none table root s state Call.FinishDeferred = not (finish_fills table root state.cursor state.tree)
fills_none table root s state _ = true

-- Runs

-- the command is orderly at the cursor
abbrev pub is_orderly_at : Table → (root s : ℕ) → State → Call → Bool
is_orderly_at table root s state command =
    enters_new_or_hole table root s state command && works_at_entered table s state command && fills_none table root s state command

abbrev pub and_so_on : Result State ReflectErrorKind → (State → Bool) → Bool
and_so_on (Ok next) rest = rest next
and_so_on (Err kind) rest = true

-- from a state on each command, up to the first that is refused, is orderly, and then `build` fills no hole
abbrev pub is_orderly_from : Meanings → Table → (root : ℕ) → State → List Call → Bool
is_orderly_from hooks table root state [] = not (build_fills table root state state.mode)
is_orderly_from hooks table root state (command ∷ commands) =
    is_orderly_at table root (cursor_shape table root state) state command
    && and_so_on (step hooks table root state command) (λ next. is_orderly_from hooks table root next commands)

-- the run of the whole script is orderly
abbrev pub is_orderly : Meanings → Table → (root : ℕ) → List Call → Bool
is_orderly hooks table root script = is_orderly_from hooks table root (initial table root) script

-- Passage

abbrev pub is_mode_call : Call → Bool
is_mode_call Call.BeginDeferred = true
is_mode_call Call.FinishDeferred = true
is_mode_call _ = false

abbrev pub has_no_mode_calls : List Call → Bool
has_no_mode_calls [] = true
has_no_mode_calls (command ∷ commands) = not (is_mode_call command) && has_no_mode_calls commands

-- the script between the calls that begin and end deferred mode
abbrev pub between_mode_calls : List Call → List Call
between_mode_calls script = BeginDeferred ∷ script ++ FinishDeferred ∷ []

-- where the strict run of the script gives a value and is orderly, so does the deferred one
abbrev pub StrictPasses : Type 0
StrictPasses =
    (hooks : Meanings) (table : Table) (root : ℕ) (script : List Call) (v : Val) → IsDirect table root
    → has_no_mode_calls script ≡ true → is_orderly hooks table root script ≡ true → full_run hooks table root script ≡ Ok v
    → full_run hooks table root (between_mode_calls script) ≡ Ok v

-- and where the deferred run gives a value and is orderly, so does the strict one
abbrev pub DeferredPasses : Type 0
DeferredPasses =
    (hooks : Meanings) (table : Table) (root : ℕ) (script : List Call) (v : Val) → IsDirect table root
    → has_no_mode_calls script ≡ true → is_orderly hooks table root (between_mode_calls script) ≡ true
    → full_run hooks table root (between_mode_calls script) ≡ Ok v → full_run hooks table root script ≡ Ok v
