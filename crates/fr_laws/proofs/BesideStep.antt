-- A command beneath one child of a place does the same where the tree is changed beneath another child, and changes only what stands at
-- its own.
use Rattle.std.proofs.Common.{◌≡◌, ◌≢◌, ◌∷◌, ◌++◌, ◌⊎◌, ◌&&◌, ◌||◌, if◌then◌else◌}
use Rattle.fr_model.proofs.Common.{ℕ, Bool, true, false, [], length, nat_lt, Option, Some, None, unwrap_or, Result, Ok, Err, refl, sym, subst, ap, ap₂, ◌∙◌, not, above, cursor_shape, is_source_place, replaced, dropped_unless, dropped_if, dropped_by_selecting, dropped_by_proxy, kept_by_inner, dropped_by_completing, dropped_by_column, column_at_end, Column, strict_column, inl, inr, slice_get, Field, Meanings, Operation, ReflectErrorKind, Table, def_of, is_option, is_dynamic, Val, Call, Place, up, is_root, Tracker, as_content, ContentKind, Conversion, Tree, whole, Mode, deferred, State, tree_at, change_at, shape_in, field_along, cursor_tree, one_more_call, deferred_column, is_set, is_begun_dynamic, is_open_slice, closed_slice, number_in, with_ended_item, complete, Way, entered_on, number_on, enters, opened, put_child, kept_array, kept_object, array_anew, object_anew, variant_anew, variant_kept, slice_anew, content_kept, by_proxy, by_wrapper, source_in, convert_in, field_default, unless_refused, begins_named, defaults_field, puts_child_default, puts_default, puts_dynamic, set_refusal, begins_list, begins_map, becomes, begin_side, begins_pointer, pointer_kept, begins_inner, begins_converted, enters_source, source_kept, option_kept, init_list, init_list_refusal, init_map_refusal, begins_by_proxy, begins_if_proxied, select_found, item_ended, part_ended, leaves_deferred, leaves_place, closes_slice, is_set_item, is_dynamic_part, ends_item, step}
use Rattle.fr_laws.proofs.Beside.{tree_beside, shape_beside, field_beside, changes_beside, above_kept, set_above, dynamic_above, changed_at_child, left_as_it_is, up_from_child, up_beneath}
use Rattle.fr_model.specs.Step.{puts_parsed, step_at}
use Rattle.fr_laws.specs.SwapLaws.{IsNoModeCall}
use Rattle.fr_model.specs.Refusals.{was_not_a}
use Rattle.fr_shape.specs.declared.error.Expected.{Expected}
use Rattle.fr_shape.specs.Hooks.{Meaning, gives, refuses, unsupported}
use Rattle.fr_shape.specs.declared.shape.HookId.{HookId}
use Rattle.fr_shape.specs.declared.shape.ProxyDef.{ProxyDef}
use Rattle.fr_shape.specs.declared.shape.ShapeId.{ShapeId}

-- a place lies beneath child i of another
pub record Lies (here : Place) (i : ℕ) (place : Place) : Type 0 where
  pub way : Place
  pub is : place ≡ here ++ i ∷ way

-- the state with its tree changed, after so many calls
abbrev pub with_tree : (Tree → Tree) → (calls : ℕ) → State → State
with_tree change calls state = record state { tree = change state.tree; calls = calls }

-- A command that began in such a state changes only what stands at child i of a place, and stays beneath that or goes up to the place.
pub record Stays (here : Place) (i : ℕ) (mode : Mode) (tree : Tree) (calls : ℕ) (next : State) : Type 0 where
  pub change : Tree → Tree
  pub tree_is : next.tree ≡ change_at (here ++ i ∷ []) change tree
  pub mode_is : next.mode ≡ mode
  pub calls_are : next.calls ≡ one_more_call calls
  pub cursor_is : (next.cursor ≡ here) ⊎ Lies here i next.cursor

-- it does so, and where the tree is changed beforehand comes to that state with the tree changed; or is refused in both
pub data BothStay (beside : Tree → Tree) (other_calls : ℕ) (Stay : State → Type 0)
    : Result State ReflectErrorKind → Result State ReflectErrorKind → Type 0 where
  both : (next : State) → Stay next → BothStay beside other_calls Stay (Ok next) (Ok (with_tree beside other_calls next))
  neither : (kind other : ReflectErrorKind) → BothStay beside other_calls Stay (Err kind) (Err other)

-- what stands above the cursor: the place itself, which is no set, or something beneath it
pub data AboveIs (here : Place) (i : ℕ) (cursor : Place) : (tree other : Tree) → Type 0 where
  alone : (tree other : Tree) → up cursor ≡ here → is_set (tree_at (up cursor) tree) ≡ false
      → is_set (tree_at (up cursor) other) ≡ false → is_begun_dynamic (tree_at (up cursor) other) ≡ is_begun_dynamic (tree_at (up cursor) tree)
      → AboveIs here i cursor tree other
  below : (tree other : Tree) (way : Place) → up cursor ≡ here ++ i ∷ way
      → tree_at (up cursor) other ≡ tree_at (up cursor) tree → AboveIs here i cursor tree other

module _ (hooks : Meanings) (table : Table) (root : ℕ) (here : Place) (i j : ℕ) (apart : i ≢ j) (f : Tree → Tree) (way : Place) (tree : Tree)
    (start calls other_calls : ℕ) (no_set : is_set (tree_at here tree) ≡ false) where
  abbrev cursor : Place
  cursor = here ++ i ∷ way

  abbrev beside : Tree → Tree
  beside u = change_at (here ++ j ∷ []) f u

  abbrev at : Tree → State
  at u = record { tree = u; cursor = cursor; mode = deferred start; calls = calls }

  abbrev there : State
  there = record { tree = beside tree; cursor = cursor; mode = deferred start; calls = other_calls }

  abbrev seen : Tree
  seen = tree_at cursor tree

  abbrev Both : Result State ReflectErrorKind → Result State ReflectErrorKind → Type 0
  Both = BothStay beside (one_more_call other_calls) (Stays here i (deferred start) tree calls)

  same_seen : tree_at cursor (beside tree) ≡ seen
  same_seen = tree_beside i j apart way f here tree

  same_field : (s : ℕ) → field_along table s None cursor (beside tree) ≡ field_along table s None cursor tree
  same_field s = field_beside i j apart way f table s None here tree

  -- the tree is changed at a place beneath child i, and the cursor goes to a place there or to the place itself
  both_to : (at_way : Place) (change : Tree → Tree) (to : Place) → (to ≡ here) ⊎ Lies here i to
      → Both (Ok (record { tree = change_at (here ++ i ∷ at_way) change tree; cursor = to; mode = deferred start; calls = one_more_call calls }))
      (Ok (record { tree = change_at (here ++ i ∷ at_way) change (beside tree); cursor = to; mode = deferred start; calls = one_more_call other_calls }))
  both_to at_way change to lies =
      subst (λ (u : Tree). Both (Ok (record { tree = change_at (here ++ i ∷ at_way) change tree; cursor = to; mode = deferred start; calls = one_more_call calls }))
      (Ok (record { tree = u; cursor = to; mode = deferred start; calls = one_more_call other_calls })))
      (sym (changes_beside i j apart at_way f change here tree))
      (both _ (record {
        change = λ child. change_at at_way change child;
        tree_is = changed_at_child here i at_way change tree;
        mode_is = refl;
        calls_are = refl;
        cursor_is = lies;
      }))

  lies_here : Lies here i cursor
  lies_here = record { way = way; is = refl }

  lies_on : (k : ℕ) → Lies here i (cursor ++ k ∷ [])
  lies_on k = record { way = way ++ k ∷ []; is = longer here }
    where
      longer : (place : Place) → (place ++ i ∷ way) ++ k ∷ [] ≡ place ++ i ∷ (way ++ k ∷ [])
      longer [] = refl
      longer (l ∷ place) = ap (λ (more : Place). l ∷ more) (longer place)

  -- what stands at the cursor is changed
  both_change : (change : Tree → Tree)
      → Both (Ok (record { tree = change_at cursor change tree; cursor = cursor; mode = deferred start; calls = one_more_call calls }))
      (Ok (record { tree = change_at cursor change (beside tree); cursor = cursor; mode = deferred start; calls = one_more_call other_calls }))
  both_change change = both_to way change cursor (inr lies_here)

  -- and a child of it entered
  both_enter : (s : ℕ) (on : Way) → Both (Ok (enters table s (at tree) on)) (Ok (record {
    tree = change_at cursor (entered_on table s on) (beside tree);
    cursor = cursor ++ number_on on seen ∷ [];
    mode = deferred start;
    calls = one_more_call other_calls;
  }))
  both_enter s on = both_to way (entered_on table s on) (cursor ++ number_on on seen ∷ []) (inr (lies_on (number_on on seen)))

  -- nothing is changed
  both_same : Both (Ok (record { tree = tree; cursor = cursor; mode = deferred start; calls = one_more_call calls }))
      (Ok (record { tree = beside tree; cursor = cursor; mode = deferred start; calls = one_more_call other_calls }))
  both_same = both _ (record {
    change = λ child. child;
    tree_is = sym (left_as_it_is (here ++ i ∷ []) (λ child. child) tree refl);
    mode_is = refl;
    calls_are = refl;
    cursor_is = inr lies_here;
  })

  unless_both : (refusal : Option ReflectErrorKind) (next other : State) → Both (Ok next) (Ok other)
      → Both (unless_refused refusal next) (unless_refused refusal other)
  unless_both (Some kind) next other is = neither kind kind
  unless_both None next other is = is

  if_both : (b : Bool) (one two other another : Result State ReflectErrorKind) → Both one other → Both two another
      → Both (if b then one else two) (if b then other else another)
  if_both true one two other another is else_is = is
  if_both false one two other another is else_is = else_is

  named_both : (s : ℕ) (refusal : Option ReflectErrorKind) (found : Option ℕ)
      → Both (begins_named table s (at tree) refusal found) (begins_named table s there refusal found)
  named_both s (Some kind) found = neither kind kind
  named_both s None (Some k) = both_enter s (Way.Child k)
  named_both s None None = neither _ _

  defaults_both : (s k : ℕ) (refusal : Option ReflectErrorKind) (field : Option Field)
      → Both (defaults_field table s (at tree) k refusal field) (defaults_field table s there k refusal field)
  defaults_both s k (Some kind) field = neither kind kind
  defaults_both s k None None = neither _ _
  defaults_both s k None (Some field) = go (field_default table field)
    where
      go : (value : Result Val ReflectErrorKind) → Both (puts_child_default table s (at tree) k value) (puts_child_default table s there k value)
      go (Ok v) = both_change (put_child (def_of table s) k v)
      go (Err kind) = neither kind kind

  sets_both : (s given : ℕ) (v : Val) → Both (step_at hooks table root s (at tree) (Call.Set given v)) (step_at hooks table root s there (Call.Set given v))
  sets_both s given v =
      if_both (is_dynamic (def_of table s)) _ _ _ _
      (if_both _ _ _ _ _ (both_change (λ old. whole v)) (of_dynamic _)) (unless_both (set_refusal table s given) _ _ (both_change (λ old. whole v)))
    where
      of_dynamic : (value : Result _ Operation) → Both (puts_dynamic (at tree) given value) (puts_dynamic there given value)
      of_dynamic (Ok d) = both_change _
      of_dynamic (Err operation) = neither _ _

  default_both : (s : ℕ) (value : Option Val) → Both (puts_default s (at tree) value) (puts_default s there value)
  default_both s (Some v) = both_change (λ old. whole v)
  default_both s None = neither _ _

  parsed_both : (s : ℕ) (meaning : Meaning) (refusal : ReflectErrorKind) (operation : Operation)
      → Both (puts_parsed s (at tree) meaning refusal operation) (puts_parsed s there meaning refusal operation)
  parsed_both s (gives v) refusal operation = both_change (λ old. whole v)
  parsed_both s (refuses message) refusal operation = neither _ _
  parsed_both s unsupported refusal operation = neither _ _

  becomes_both : (kept : Option Tree) (anew : Tree) → Both (Ok (becomes (at tree) kept anew)) (Ok (becomes there kept anew))
  becomes_both kept anew = both_change (λ old. unwrap_or kept anew)

  -- one of two states
  either_both : (b : Bool) (one two other another : State) → Both (Ok one) (Ok other) → Both (Ok two) (Ok another)
      → Both (Ok (if b then one else two)) (Ok (if b then other else another))
  either_both true one two other another is else_is = is
  either_both false one two other another is else_is = else_is

  source_both : (s : ℕ) (conversion : Conversion) → Both (Ok (enters_source table s (at tree) conversion)) (Ok (record {
    tree = change_at cursor (entered_on table s (Way.Content (as_content (ContentKind.Source conversion)) (source_kept (at tree) conversion))) (beside tree);
    cursor = cursor ++ 0 ∷ [];
    mode = deferred start;
    calls = one_more_call other_calls;
  }))
  source_both s conversion = both_enter s (Way.Content (as_content (ContentKind.Source conversion)) (source_kept (at tree) conversion))

  proxy_both : (s : ℕ) (proxy : Result ProxyDef Operation)
      → Both (begins_by_proxy table s (at tree) proxy) (begins_by_proxy table s there proxy)
  proxy_both s (Ok proxy) = rw same_seen (source_both s (by_proxy proxy))
  proxy_both s (Err operation) = neither _ _

  from_shape_both : (s : ℕ) (proxy : Option ProxyDef)
      → Both (Ok (begins_if_proxied table s (at tree) proxy)) (Ok (begins_if_proxied table s there proxy))
  from_shape_both s (Some proxy) = rw same_seen (source_both s (by_proxy proxy))
  from_shape_both s None = both_same

  inner_both : (s : ℕ) (source : Option ShapeId) (convert : Option HookId)
      → Both (begins_inner table s (at tree) source convert) (begins_inner table s there source convert)
  inner_both s None convert = neither _ _
  inner_both s (Some source) None = unless_both _ _ _ (both_enter s (Way.Anew 0))
  inner_both s (Some source) (Some hook) = go (is_option (def_of table s))
    where
      go : (b : Bool) → Both (Ok (begins_converted table s (at tree) b (by_wrapper hook source)))
          (Ok (begins_converted table s there b (by_wrapper hook source)))
      go true = rw same_seen (both_enter s (Way.Content (as_content ContentKind.Some) (option_kept table s (at tree))))
      go false = rw same_seen (source_both s (by_wrapper hook source))

  list_both : (s : ℕ) (of_dynamic : Bool)
      → Both (Ok (begins_list table s (at tree) of_dynamic)) (Ok (begins_list table s there of_dynamic))
  list_both s true = rw same_seen (becomes_both (kept_array seen) array_anew)
  list_both s false = both_change (opened (def_of table s))

  map_both : (s : ℕ) (of_dynamic : Bool)
      → Both (Ok (begins_map table s (at tree) of_dynamic)) (Ok (begins_map table s there of_dynamic))
  map_both s true = rw same_seen (becomes_both (kept_object seen) object_anew)
  map_both s false = both_change (opened (def_of table s))

  pointer_both : (s : ℕ) (to_slice : Bool)
      → Both (Ok (begins_pointer table s (at tree) to_slice)) (Ok (begins_pointer table s there to_slice))
  pointer_both s true = rw same_seen (becomes_both (pointer_kept (at tree) true) slice_anew)
  pointer_both s false = rw same_seen (both_enter s (Way.Content (as_content ContentKind.Pointer) (pointer_kept (at tree) false)))

  selects_both : (s : ℕ) (found : Option ℕ) (unknown : Operation)
      → Both (select_found table s (at tree) found unknown) (select_found table s there found unknown)
  selects_both s (Some k) unknown = rw same_seen (unless_both _ _ _ (becomes_both (variant_kept (at tree) k) (variant_anew (def_of table s) k)))
  selects_both s None unknown = neither _ _

  init_list_both : (s : ℕ) → Both (init_list table s (at tree)) (init_list table s there)
  init_list_both s =
      subst (λ (u : Tree). Both (unless_refused (init_list_refusal s (def_of table s) seen) (begins_list table s (at tree) (is_dynamic (def_of table s))))
      (unless_refused (init_list_refusal s (def_of table s) u) (begins_list table s there (is_dynamic (def_of table s)))))
      (sym same_seen) (unless_both _ _ _ (list_both s (is_dynamic (def_of table s))))

  init_map_both : (s : ℕ) → Both (step_at hooks table root s (at tree) Call.InitMap) (step_at hooks table root s there Call.InitMap)
  init_map_both s =
      subst (λ (u : Tree). Both (unless_refused (init_map_refusal s (def_of table s) seen) (begins_map table s (at tree) (is_dynamic (def_of table s))))
      (unless_refused (init_map_refusal s (def_of table s) u) (begins_map table s there (is_dynamic (def_of table s)))))
      (sym same_seen) (unless_both _ _ _ (map_both s (is_dynamic (def_of table s))))

  side_both : (s : ℕ) (side : Tracker) → Both (begin_side table s (at tree) side) (begin_side table s there side)
  side_both s side =
      rw same_seen (if_both _ _ _ _ _ (both_enter s (Way.Content side (content_kept (at tree) side)))
      (neither (was_not_a Expected.Result s) (was_not_a Expected.Result s)))

  -- the end of a place

  -- the cursor goes up, and the place above it is the one beneath whose child it was, or lies beneath that child too
  up_lies : AboveIs here i cursor tree (beside tree) → (up cursor ≡ here) ⊎ Lies here i (up cursor)
  up_lies (alone t u is no_item none same) = inl is
  up_lies (below t u on is same) = inr (record { way = on; is = is })

  part_both : (s : ℕ) (of_part : Bool) → (up cursor ≡ here) ⊎ Lies here i (up cursor)
      → Both (leaves_deferred hooks table s (at tree) of_part) (leaves_deferred hooks table s there of_part)
  part_both s true lies =
      subst (λ (u : Tree). Both (part_ended hooks table s (at tree) (complete deferred_column hooks table s seen))
      (part_ended hooks table s there (complete deferred_column hooks table s u))) (sym same_seen)
      (go (complete deferred_column hooks table s seen))
    where
      go : (value : Option Val) → Both (part_ended hooks table s (at tree) value) (part_ended hooks table s there value)
      go (Some v) = both_to way (λ old. whole v) (up cursor) lies
      go None = neither _ _
  part_both s false lies = both _ (record {
    change = λ child. child;
    tree_is = sym (left_as_it_is (here ++ i ∷ []) (λ child. child) tree refl);
    mode_is = refl;
    calls_are = refl;
    cursor_is = lies;
  })

  takes_both : (on : Place) (change : Tree → Tree) (to : Place) → to ≡ here ++ i ∷ on
      → Both (Ok (record { tree = change_at to change tree; cursor = to; mode = deferred start; calls = one_more_call calls }))
      (Ok (record { tree = change_at to change (beside tree); cursor = to; mode = deferred start; calls = one_more_call other_calls }))
  takes_both on change to is =
      subst (λ (place : Place). Both (Ok (record { tree = change_at place change tree; cursor = place; mode = deferred start; calls = one_more_call calls }))
      (Ok (record { tree = change_at place change (beside tree); cursor = place; mode = deferred start; calls = one_more_call other_calls })))
      (sym is) (both_to on change (here ++ i ∷ on) (inr (record { way = on; is = refl })))

  item_both : (s : ℕ) (on : Place) → up cursor ≡ here ++ i ∷ on
      → Both (ends_item deferred_column hooks table s (at tree)) (ends_item deferred_column hooks table s there)
  item_both s on is =
      subst (λ (u : Tree). Both (item_ended deferred_column hooks table s (at tree) (complete deferred_column hooks table s seen))
      (item_ended deferred_column hooks table s there (complete deferred_column hooks table s u))) (sym same_seen)
      (go (complete deferred_column hooks table s seen))
    where
      go : (value : Option Val)
          → Both (item_ended deferred_column hooks table s (at tree) value) (item_ended deferred_column hooks table s there value)
      go (Some v) = takes_both on (with_ended_item (number_in cursor) v) (up cursor) is
      go None = neither _ _

  abbrev left_by : ℕ → State → (of_set of_part : Bool) → Result State ReflectErrorKind
  left_by s state of_set of_part =
      if of_set then ends_item deferred_column hooks table s state else leaves_deferred hooks table s state of_part

  left_both : (s : ℕ) → AboveIs here i cursor tree (beside tree)
      → Both (left_by s (at tree) (is_set_item (at tree)) (is_dynamic_part (at tree)))
      (left_by s there (is_set_item there) (is_dynamic_part there))
  left_both s (alone t u is no_item none same) = rw (no_item, none, same) (part_both s _ (inl is))
  left_both s (below t u on is same) = rw same (if_both _ _ _ _ _ (item_both s on is) (part_both s _ (inr (record { way = on; is = is }))))

  end_both : (s : ℕ) → AboveIs here i cursor tree (beside tree)
      → Both (step_at hooks table root s (at tree) Call.End) (step_at hooks table root s there Call.End)
  end_both s above =
      subst (λ (u : Tree). Both (step_at hooks table root s (at tree) Call.End)
      (if is_open_slice u then closes_slice hooks table s there (deferred start)
      else leaves_place hooks table root s there)) (sym same_seen)
      (if_both (is_open_slice seen) _ _ _ _ (both_change closed_slice)
      (if_both (is_root cursor) _ _ _ _ (neither _ _)
      (if_both (nat_lt start (length cursor)) _ _ _ _ (left_both s above) (neither _ _))))

  pub beside_command : (s : ℕ) (command : Call) → IsNoModeCall command
      → AboveIs here i cursor tree (beside tree)
      → Both (step_at hooks table root s (at tree) command) (step_at hooks table root s there command)
  beside_command s (Call.BeginField name) mode above = rw same_seen (named_both s _ _)
  beside_command s (Call.BeginNthField k) mode above = rw same_seen (unless_both _ _ _ (both_enter s (Way.Child k)))
  beside_command s (Call.SetNthFieldToDefault k) mode above = rw same_seen (defaults_both s k _ _)
  beside_command s (Call.Set given v) mode above = sets_both s given v
  beside_command s Call.SetDefault mode above = default_both s _
  beside_command s (Call.ParseFromStr said) mode above = parsed_both s _ _ _
  beside_command s (Call.ParseFromBytes bytes) mode above = parsed_both s _ _ _
  beside_command s Call.SetEmptySharedSlice mode above = unless_both _ _ _ (both_change (λ old. whole _))
  beside_command s Call.InitList mode above = init_list_both s
  beside_command s (Call.InitListWithCapacity n) mode above = init_list_both s
  beside_command s Call.InitArray mode above = rw same_seen (unless_both _ _ _ (both_change _))
  beside_command s Call.BeginListItem mode above = rw same_seen (unless_both _ _ _ (both_enter s Way.Item))
  beside_command s Call.InitMap mode above = init_map_both s
  beside_command s Call.BeginKey mode above = rw same_seen (unless_both _ _ _ (both_enter s Way.Key))
  beside_command s Call.BeginValue mode above = rw same_seen (unless_both _ _ _ (both_enter s (Way.Value _)))
  beside_command s Call.InitSet mode above = rw same_seen (unless_both _ _ _ (both_change _))
  beside_command s Call.BeginSetItem mode above = rw same_seen (unless_both _ _ _ (both_enter s Way.Item))
  beside_command s (Call.BeginObjectEntry key) mode above = rw same_seen (unless_both _ _ _ (both_enter s (Way.Entry key)))
  beside_command s Call.BeginSome mode above =
      rw same_seen (if_both _ _ _ _ _ (both_enter s (Way.Content (as_content ContentKind.Some) (option_kept table s (at tree))))
      (neither (was_not_a Expected.Option s) (was_not_a Expected.Option s)))
  beside_command s Call.BeginOk mode above = side_both s (as_content ContentKind.Ok)
  beside_command s Call.BeginErr mode above = side_both s (as_content ContentKind.Err)
  beside_command s Call.BeginSmartPtr mode above = unless_both _ _ _ (pointer_both s _)
  beside_command s Call.BeginInner mode above = inner_both s _ _
  beside_command s Call.BeginCustomDeserialization mode above = rw (same_field root) (proxy_both s _)
  beside_command s (Call.BeginCustomDeserializationWithFormat format) mode above = rw (same_field root) (proxy_both s _)
  beside_command s Call.BeginCustomDeserializationFromShape mode above = rw (same_field root) (from_shape_both s _)
  beside_command s (Call.BeginCustomDeserializationFromShapeWithFormat format) mode above = rw (same_field root) (from_shape_both s _)
  beside_command s (Call.SelectNthVariant k) mode above = if_both _ _ _ _ _ (selects_both s _ _) (neither _ _)
  beside_command s (Call.SelectVariantNamed name) mode above = if_both _ _ _ _ _ (selects_both s _ _) (neither _ _)
  beside_command s (Call.SelectVariant discriminant) mode above = if_both _ _ _ _ _ (selects_both s _ _) (neither _ _)
  beside_command s Call.End mode above = end_both s above
  beside_command s Call.BeginDeferred mode above = absurd mode
  beside_command s Call.FinishDeferred mode above = absurd mode

  -- what it drops

  module _ (s t : ℕ) where
    abbrev Same : Call → Type 0
    Same command = replaced hooks table root s there command t ≡ replaced hooks table root s (at tree) command t

    unless_same : (kept : Option Tree) → dropped_unless kept there t ≡ dropped_unless kept (at tree) t
    unless_same (Some tree) = refl
    unless_same None = rw same_seen

    if_same : (of_dynamic : Bool) (kept : Option Tree)
        → dropped_if of_dynamic kept there t ≡ dropped_if of_dynamic kept (at tree) t
    if_same true kept = unless_same kept
    if_same false kept = refl

    selecting_same : (found : Option ℕ) → dropped_by_selecting found there t ≡ dropped_by_selecting found (at tree) t
    selecting_same (Some k) = rw same_seen (unless_same _)
    selecting_same None = refl

    proxy_same : (proxy : Option ProxyDef) → dropped_by_proxy proxy there t ≡ dropped_by_proxy proxy (at tree) t
    proxy_same (Some proxy) = rw same_seen (unless_same _)
    proxy_same None = refl

    kept_same : (source : Option ShapeId) (convert : Option HookId)
        → kept_by_inner table s there source convert ≡ kept_by_inner table s (at tree) source convert
    kept_same (Some source) (Some hook) = rw same_seen
    kept_same (Some source) None = refl
    kept_same None convert = refl

    abbrev spot : Tree → ℕ → State
    spot u n = record { tree = u; cursor = cursor; mode = deferred start; calls = n }

    abbrev by_end : Tree → ℕ → (is_slice of_set of_part : Bool) → ℕ
    by_end u n is_slice of_set of_part =
        dropped_by_column (column_at_end (deferred start) (not is_slice && of_set || not is_slice && of_part)) hooks table s (spot u n) (not is_slice && of_set) t

    -- a place that is left in deferred mode is no source that is converted
    end_is : (u : Tree) (n : ℕ) → replaced hooks table root s (spot u n) Call.End t
        ≡ by_end u n (is_open_slice (tree_at cursor u)) (is_set_item (spot u n)) (is_dynamic_part (spot u n))
    end_is u n = go (is_open_slice (tree_at cursor u))
      where
        go : (is_slice : Bool) → (if not is_slice && false && is_source_place (spot u n)
            then dropped_by_completing strict_column hooks table (cursor_shape table root (above (spot u n))) (cursor_tree (above (spot u n))) t
            else by_end u n is_slice (is_set_item (spot u n)) (is_dynamic_part (spot u n))) ≡ by_end u n is_slice (is_set_item (spot u n)) (is_dynamic_part (spot u n))
        go true = refl
        go false = refl

    column_same : (column : Option Column) (of_set : Bool)
        → (of_set ≡ true → tree_at (up cursor) (beside tree) ≡ tree_at (up cursor) tree)
        → dropped_by_column column hooks table s there of_set t ≡ dropped_by_column column hooks table s (at tree) of_set t
    column_same None of_set same = refl
    column_same (Some column) true same = rw (same_seen, same refl)
    column_same (Some column) false same = rw same_seen

    never : (is_slice : Bool) → (not is_slice && false) ≡ true → ⊥
    never true e = cc
    never false e = cc

    end_same : AboveIs here i cursor tree (beside tree) → Same Call.End
    end_same above = end_is (beside tree) other_calls ∙ go above ∙ sym (end_is tree calls)
      where
        go : AboveIs here i cursor tree (beside tree)
            → by_end (beside tree) other_calls (is_open_slice (tree_at cursor (beside tree))) (is_set_item there) (is_dynamic_part there)
            ≡ by_end tree calls (is_open_slice seen) (is_set_item (at tree)) (is_dynamic_part (at tree))
        go (alone one other is no_item none same) =
            ap (λ (u : Tree). by_end (beside tree) other_calls (is_open_slice u) (is_set_item there) (is_dynamic_part there)) same_seen
            ∙ ap₂ (by_end (beside tree) other_calls (is_open_slice seen)) none same
            ∙ column_same _ _ (λ of_set. absurd (never (is_open_slice seen) of_set))
            ∙ ap (λ (b : Bool). by_end tree calls (is_open_slice seen) b (is_dynamic_part (at tree))) (sym no_item)
        go (below one other on is same) =
            ap (λ (u : Tree). by_end (beside tree) other_calls (is_open_slice u) (is_set_item there) (is_dynamic_part there)) same_seen
            ∙ ap (λ (u : Tree). by_end (beside tree) other_calls (is_open_slice seen) (is_set u) (is_begun_dynamic u)) same
            ∙ column_same _ _ (λ of_set. same)

    pub beside_drops : (command : Call) → IsNoModeCall command → AboveIs here i cursor tree (beside tree) → Same command
    beside_drops (Call.BeginField name) mode above = rw same_seen
    beside_drops (Call.BeginNthField k) mode above = rw same_seen
    beside_drops (Call.SetNthFieldToDefault k) mode above = rw same_seen
    beside_drops (Call.Set given v) mode above = rw same_seen
    beside_drops Call.SetDefault mode above = rw same_seen
    beside_drops (Call.ParseFromStr said) mode above = rw same_seen
    beside_drops (Call.ParseFromBytes bytes) mode above = rw same_seen
    beside_drops Call.SetEmptySharedSlice mode above = rw same_seen
    beside_drops Call.InitList mode above = rw same_seen (if_same (is_dynamic (def_of table s)) _)
    beside_drops (Call.InitListWithCapacity n) mode above = rw same_seen (if_same (is_dynamic (def_of table s)) _)
    beside_drops Call.InitArray mode above = rw same_seen
    beside_drops Call.BeginListItem mode above = refl
    beside_drops Call.InitMap mode above = rw same_seen (if_same (is_dynamic (def_of table s)) _)
    beside_drops Call.BeginKey mode above = refl
    beside_drops Call.BeginValue mode above = refl
    beside_drops Call.InitSet mode above = refl
    beside_drops Call.BeginSetItem mode above = refl
    beside_drops (Call.BeginObjectEntry key) mode above = refl
    beside_drops Call.BeginSome mode above = rw same_seen (unless_same _)
    beside_drops Call.BeginOk mode above = rw same_seen (unless_same _)
    beside_drops Call.BeginErr mode above = rw same_seen (unless_same _)
    beside_drops Call.BeginSmartPtr mode above = rw same_seen (unless_same _)
    beside_drops Call.BeginInner mode above = rw (kept_same (source_in (slice_get table s)) (convert_in (slice_get table s))) (unless_same _)
    beside_drops Call.BeginCustomDeserialization mode above = rw (same_field root) (proxy_same _)
    beside_drops (Call.BeginCustomDeserializationWithFormat format) mode above = rw (same_field root) (proxy_same _)
    beside_drops Call.BeginCustomDeserializationFromShape mode above = rw (same_field root) (proxy_same _)
    beside_drops (Call.BeginCustomDeserializationFromShapeWithFormat format) mode above = rw (same_field root) (proxy_same _)
    beside_drops (Call.SelectNthVariant k) mode above = selecting_same _
    beside_drops (Call.SelectVariantNamed name) mode above = selecting_same _
    beside_drops (Call.SelectVariant discriminant) mode above = selecting_same _
    beside_drops Call.End mode above = end_same above
    beside_drops Call.BeginDeferred mode above = absurd mode
    beside_drops Call.FinishDeferred mode above = absurd mode

-- above the cursor stands such a place
above_is : (here : Place) (i j : ℕ) → i ≢ j → (f : Tree → Tree) (way : Place) (tree : Tree) → is_set (tree_at here tree) ≡ false
    → AboveIs here i (here ++ i ∷ way) tree (change_at (here ++ j ∷ []) f tree)
above_is here i j apart f [] tree no_set =
    alone tree _ (up_from_child here i) (rw (up_from_child here i) no_set)
    (rw (up_from_child here i) (above_kept is_set set_above here j [] f tree ∙ no_set))
    (rw (up_from_child here i) (above_kept is_begun_dynamic dynamic_above here j [] f tree))
above_is here i j apart f (m ∷ way) tree no_set =
    below tree _ (up (m ∷ way)) (up_beneath here i m way)
    (rw (up_beneath here i m way) (tree_beside i j apart (up (m ∷ way)) f here tree))

-- A command beneath child i, at whatever state: it does the same where child j was changed before, and then drops the same, if it is
-- admitted.
pub beside_step : (hooks : Meanings) (table : Table) (root : ℕ) (here : Place) (i j : ℕ) → i ≢ j → (f : Tree → Tree) (state : State) (start other_calls : ℕ)
    (command : Call) → IsNoModeCall command → Lies here i state.cursor → state.mode ≡ deferred start → is_set (tree_at here state.tree) ≡ false
    → BothStay (change_at (here ++ j ∷ []) f) (one_more_call other_calls) (Stays here i (deferred start) state.tree state.calls)
    (step hooks table root state command) (step hooks table root (with_tree (change_at (here ++ j ∷ []) f) other_calls state) command)
beside_step hooks table root here i j apart f state start other_calls command no_mode lies in_mode no_set =
    go state.cursor state.mode lies.is in_mode
  where
    go : (cursor : Place) (mode : Mode) → cursor ≡ here ++ i ∷ lies.way → mode ≡ deferred start
        → BothStay (change_at (here ++ j ∷ []) f) (one_more_call other_calls) (Stays here i (deferred start) state.tree state.calls)
        (step hooks table root (record { tree = state.tree; cursor = cursor; mode = mode; calls = state.calls }) command)
        (step hooks table root (record { tree = change_at (here ++ j ∷ []) f state.tree; cursor = cursor; mode = mode; calls = other_calls }) command)
    go cursor mode is_cursor is_mode =
        rw (is_cursor, is_mode, shape_beside i j apart lies.way f table root here state.tree)
        (beside_command hooks table root here i j apart f lies.way state.tree start state.calls other_calls no_set _ command no_mode
        (above_is here i j apart f lies.way state.tree no_set))

pub beside_step_drops : (hooks : Meanings) (table : Table) (root : ℕ) (here : Place) (i j : ℕ) → i ≢ j → (f : Tree → Tree) (state : State) (start other_calls : ℕ)
    (command : Call) → IsNoModeCall command → Lies here i state.cursor → state.mode ≡ deferred start → is_set (tree_at here state.tree) ≡ false
    → (t : ℕ) → replaced hooks table root (cursor_shape table root (with_tree (change_at (here ++ j ∷ []) f) other_calls state))
    (with_tree (change_at (here ++ j ∷ []) f) other_calls state) command t ≡ replaced hooks table root (cursor_shape table root state) state command t
beside_step_drops hooks table root here i j apart f state start other_calls command no_mode lies in_mode no_set t =
    go state.cursor state.mode lies.is in_mode
  where
    go : (cursor : Place) (mode : Mode) → cursor ≡ here ++ i ∷ lies.way → mode ≡ deferred start
        → replaced hooks table root (shape_in table root cursor (change_at (here ++ j ∷ []) f state.tree))
        (record { tree = change_at (here ++ j ∷ []) f state.tree; cursor = cursor; mode = mode; calls = other_calls }) command t
        ≡ replaced hooks table root (shape_in table root cursor state.tree)
        (record { tree = state.tree; cursor = cursor; mode = mode; calls = state.calls }) command t
    go cursor mode is_cursor is_mode =
        rw (is_cursor, is_mode, shape_beside i j apart lies.way f table root here state.tree)
        (beside_drops hooks table root here i j apart f lies.way state.tree start state.calls other_calls no_set _ t command no_mode
        (above_is here i j apart f lies.way state.tree no_set))
