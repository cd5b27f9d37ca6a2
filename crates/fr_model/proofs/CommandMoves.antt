-- Each command that goes on makes one of the moves.
use Rattle.std.proofs.Common.{◌≡◌, ◌+◌, ◌<◌, ◌==◌, ◌&&◌, ◌||◌, if◌then◌else◌}
use Rattle.fr_model.proofs.Common.{ConversionSuits, as_fields, begins_array, above, inner_option_kept, begins_converted, begins_inner, begins_by_proxy, is_source_place, ends_source, dropped_by_proxy, leaves_source, by_proxy, by_wrapper, convert_in, source_in, proxy_of_field, cursor_field, is_begun_conversion, ShapeId, slice_get, field_refusal, fresh, begun, is_set, not, ℕ, true, false, [], length, Option, Some, None, Result, Ok, refl, ReflectErrorKind, Meanings, Table, Val, Call, Place, Column, is_root, Tree, Mode, strict, deferred, State, cursor_shape, cursor_tree, tree_occurs, complete, finished, puts, is_set_item, is_dynamic_part, brings, replaced, dropped_unless, is_open_slice, number_in, dropped_by_completing, up, dropped_with_item, tree_at, BeganAbove, List, preset_of, def_of, is_dynamic, Dynamic, dyn, variant_anew, converted, key_refusal, value_refusal, last_of, set_item_refusal, array_anew, object_anew, kept_array, kept_object, entry_refusal, strict_column, deferred_column, Tracker, count_below, Way, enters, at_shape, takes_shape, opens, init_list_refusal, init_map_refusal, init_set_refusal, variant_kept, selects, column_at_end, init_array_refusal, eqb-true, Bool, ◌∙◌, ap, subst, arith, Def, ScalarKind, IsChecked, fits, settled, unit, text, dropped_if, dropped_by_column, is_str, is_owned_string_kind, is_owned_string, whole, Suits, AtCursor, IsInOrder, ltb-true, nat_lt, Err, Invariant, Operation, Field, VariantDef, is_option, field_in, variants_of, list_of, ptr, no_vals, is_result, pointer_refusal, points_to_slice, slice_anew, is_enum, variant_numbered, variant_named, variant_told_by, selection_refusal, as_content, ContentKind, selected, unless_refused, named_refusal, field_default, puts_child_default, defaults_field, option_kept, content_kept, begin_side, pointer_kept, begins_pointer, begins_list, init_list, begins_map, set_refusal, puts_dynamic, set_dynamic, puts_made, closes_slice, leaves_place, select_found, select, violates, puts_default, ended, item_ended, part_ended, leaves_deferred, end_in, begins_deferred, finishes, finish_in, step, dropped_by_selecting, dropped_at_end, item_refusal, closed_slice, shared_slice_refusal}
use Rattle.fr_model.proofs.Becoming.{Placed, content_becomes, option_becomes, IsSide, side_holds, pointer_holds, slice_becomes, variant_becomes, option_anew}
use Rattle.fr_model.proofs.Basis.{may_go_up, may_go_deferred, Made, lawful_in, at_cursor, suits_at, up_long, began_strict, closed_rests, settled_as, preset_template, template_holds, field_default_template, completing_makes, began_up}
use Rattle.fr_model.proofs.Templates.{text_template, bytes_template}
use Rattle.fr_shape.specs.Hooks.{IsLawful, Meaning, gives, refuses, unsupported}
use Rattle.fr_model.proofs.BegunItems.{list_opens, takes_a_set_item, takes_an_item, slice_closes, closed_holds, shared_fits}
use Rattle.fr_model.proofs.Converts.{shut_converts, holes_convert}
use Rattle.fr_model.proofs.Conversions.{wrapper_may, field_proxy_may}
use Rattle.fr_model.specs.Contents.{is_deferred as is_deferred_mode}
use Rattle.fr_shape.specs.declared.shape.HookId.{HookId}
use Rattle.fr_shape.specs.declared.shape.ProxyDef.{ProxyDef}
use Rattle.std.specs.Result.{result_ok}
use Rattle.fr_model.proofs.Collections.{set_opens, map_opens, takes_a_key, takes_a_value, value_enterable}
use Rattle.fr_model.proofs.Dynamics.{converted_is, dynamic_def, array_becomes, object_becomes, takes_an_entry}
use Rattle.fr_model.specs.Parses.{text_meant, bytes_meant}
use Rattle.fr_model.specs.Step.{puts_parsed, ends_item as end_of_item}
use Rattle.fr_model.proofs.Children.{ChildCase, a_child, a_variant_child, no_child, child_case, only_of_enum, NamedCase, a_named, a_variant_named, no_such_name, no_names, named_case}
use Rattle.fr_model.proofs.Move.{Move, EndsBelow, stays, goes_up, is_taken, is_converted, stays_behind, is_parsed, is_deferred, is_over, stays_at, enters_value, enters_anew, enters_so, opens_it, array_so, becomes_it, takes_new_item, takes_new_key, takes_new_entry, holds_it, source_so, from_shape_so, puts_so}

pub ok_is : (a b : State) → ◌≡◌ {A = Result State ReflectErrorKind} (Ok a) (Ok b) → a ≡ b
ok_is a b e = cc

-- a text that fits an owned text fits a `str` too
text_fits : (table : Table) (s given : ℕ) (v : Val) → is_str (def_of table s) ≡ true → is_owned_string (def_of table given) ≡ true
    → fits table given v ≡ true → fits table s v ≡ true
text_fits table s given v str string fit = go _ _ refl refl str string
  where
    of_string : settled table s ≡ Def.Str → settled table given ≡ Def.Scalar ScalarKind.String → (v : Val)
        → fits table given v ≡ true → fits table s v ≡ true
    of_string is from (text codes) fit = rw is refl
    of_string is from unit fit = cc
    of_string is from _ fit = let none = rw from at fit in cc

    of_kind : (kind : ScalarKind) → def_of table s ≡ Def.Str → def_of table given ≡ Def.Scalar kind
        → is_owned_string_kind kind ≡ true → fits table s v ≡ true
    of_kind ScalarKind.String is from string = of_string (settled_as table s is refl) (settled_as table given from refl) v fit
    of_kind _ is from string = cc

    go : (def from_def : Def) → def_of table s ≡ def → def_of table given ≡ from_def → is_str def ≡ true
        → is_owned_string from_def ≡ true → fits table s v ≡ true
    go Def.Str (Def.Scalar kind) is from str string = of_kind kind is from string
    go Def.Str _ is from str string = cc
    go _ from_def is from str string = cc

taken_fits : (table : Table) (s given : ℕ) (v : Val) → takes_shape table s given ≡ true → fits table given v ≡ true → fits table s v ≡ true
taken_fits table s given v taken fit = go _ _ _ refl refl refl taken
  where
    go : (same str string : Bool) → (s == given) ≡ same → is_str (def_of table s) ≡ str
        → is_owned_string (def_of table given) ≡ string → (same || (str && string)) ≡ true → fits table s v ≡ true
    go true str string same is from e = rw (eqb-true s given same) fit
    go false true true same is from e = text_fits table s given v is from fit
    go false true false same is from e = cc
    go false false string same is from e = cc

last_false : (a b : Bool) → (a && b && false) ≡ false
last_false true true = refl
last_false true false = refl
last_false false b = refl

middle_false : (a c : Bool) → (a && false && c) ≡ false
middle_false true c = refl
middle_false false c = refl

-- a set is no conversion
set_apart : (t : Tree) → is_set t ≡ true → is_begun_conversion t ≡ false
set_apart (begun (as_content kind) ts) of_set = cc
set_apart _ of_set = refl

began_above : (mode : Mode) (here : Place) → EndsBelow mode here → BeganAbove mode (up here)
began_above strict here below = tt
began_above (deferred start) here below = omega (arith, below, up_long here)

module _ (hooks : Meanings) (table : Table) (checked : IsChecked table) (root : ℕ) (state next : State)
    (order : IsInOrder table root state) where
  abbrev here : ℕ
  here = cursor_shape table root state

  abbrev def : Def
  def = def_of table here

  abbrev tree : Tree
  tree = cursor_tree state

  abbrev field : Option Field
  field = cursor_field table root state

  suits_here : Suits table here tree
  suits_here = suits_at state.mode table root state.cursor state.tree order.leads order.suits

  at_here : AtCursor state.mode tree
  at_here = at_cursor state.mode state.cursor state.tree order.leads

  placed_here : Placed state.mode table here [] tree
  placed_here = record { suits = suits_here; leads = at_here }

  abbrev Goes : Call → Type 0
  Goes command = Move hooks table root state command next

  -- the state that a command makes is the next one
  goes : {command : Call} {after : State} → ◌≡◌ {A = Result State ReflectErrorKind} (Ok after) (Ok next)
      → Move hooks table root state command after → Goes command
  goes {command = command} {after = after} e so = subst (Move hooks table root state command) (ok_is after next e) so

  -- a command goes on unless it is refused, or only where a test says so

  unless : {command : Call} (refusal : Option ReflectErrorKind) (after : State)
      → (refusal ≡ None → Move hooks table root state command after) → unless_refused refusal after ≡ Ok next → Goes command
  unless None after so e = goes e (so refl)
  unless (Some kind) after so e = cc

  unless_at : {command : Call} (refusal : Option Operation) (after : State) → (refusal ≡ None → Move hooks table root state command after)
      → unless_refused (at_shape here refusal) after ≡ Ok next → Goes command
  unless_at None after so e = goes e (so refl)
  unless_at (Some operation) after so e = cc

  only_if : {command : Call} (test : Bool) (kind : ReflectErrorKind) (result : Result State ReflectErrorKind)
      → (test ≡ true → result ≡ Ok next → Goes command) → (if test then result else Err kind) ≡ Ok next → Goes command
  only_if true kind result so e = so refl e
  only_if false kind result so e = cc

  -- what a place that isn't open drops as it ends
  replaced_end : (set part : Bool) (mode : Mode) → is_open_slice tree ≡ false → leaves_source state ≡ false → is_set_item state ≡ set
      → is_dynamic_part state ≡ part → state.mode ≡ mode → (t : ℕ) → replaced hooks table root here state Call.End t
      ≡ dropped_by_column (column_at_end mode (set || part)) hooks table here state set t
  replaced_end set part mode shut apart of_set of_part is t = rw (apart, shut, of_set, of_part, is) refl

  -- no conversion is made by the end of what is no source, nor in deferred mode

  apart_strict : is_source_place state ≡ false → leaves_source state ≡ false
  apart_strict apart =
      ap (λ (b : Bool). not (is_open_slice tree) && not (is_deferred_mode state.mode) && b) apart
      ∙ last_false (not (is_open_slice tree)) (not (is_deferred_mode state.mode))

  apart_deferred : (start : ℕ) → state.mode ≡ deferred start → leaves_source state ≡ false
  apart_deferred start is =
      ap (λ (mode : Mode). not (is_open_slice tree) && not (is_deferred_mode mode) && is_source_place state) is
      ∙ middle_false (not (is_open_slice tree)) (is_source_place state)

  -- a child is entered

  begins_so : (i : ℕ) → step hooks table root state (Call.BeginNthField i) ≡ Ok next → Goes (Call.BeginNthField i)
  begins_so i e = go (child_case def i tree)
    where
      go : ChildCase def i tree → Goes (Call.BeginNthField i)
      go (a_child child admitted may) = goes (rw admitted at e) (enters_so hooks table root state order (Call.BeginNthField i) i child (λ t. refl) (λ t. refl))
      go (a_variant_child k child admitted chosen) =
          goes (rw admitted at e) (enters_so hooks table root state order (Call.BeginNthField i) i child (λ t. refl) (λ t. refl))
      go (no_child operation refused may) = let none = rw refused at e in cc

  names_so : (name : List ℕ) → step hooks table root state (Call.BeginField name) ≡ Ok next → Goes (Call.BeginField name)
  names_so name e = go (named_case name def tree (only_of_enum table here tree suits_here))
    where
      go : NamedCase name def tree → Goes (Call.BeginField name)
      go (a_variant_named i k child admitted is chosen) =
          goes (rw (admitted, is) at e) (enters_so hooks table root state order (Call.BeginField name) i child (λ t. refl) (λ t. refl))
      go (a_named i child admitted is named may) =
          goes (rw (admitted, is) at e) (enters_so hooks table root state order (Call.BeginField name) i child (λ t. refl) (λ t. refl))
      go (no_such_name admitted is named) = let none = rw (admitted, is) at e in cc
      go (no_names operation refused is) = let none = rw refused at e in cc

  -- a value is put

  sets : (given : ℕ) (v : Val) → takes_shape table here given ≡ true → Move hooks table root state (Call.Set given v) (puts state v)
  sets given v taken =
      stays_at (Call.Set given v) (λ (u : Tree). whole v)
      (λ fit. record { suits = taken_fits table here given v taken fit.1; leads = tt }) (λ t. omega arith) (λ rested. tt) (λ old. tt)

  sets_so : (given : ℕ) (v : Val) → step hooks table root state (Call.Set given v) ≡ Ok next → Goes (Call.Set given v)
  sets_so given v e = by_place (is_dynamic def) refl e
    where
      go : (b : Bool) → takes_shape table here given ≡ b
          → unless_refused (if b then None else Some (ReflectErrorKind.WrongShape (record { 0 = here }) (record { 0 = given })))
          (puts state v) ≡ Ok next → Goes (Call.Set given v)
      go true taken h = goes h (sets given v taken)
      go false taken h = cc

      converts_so : (made : Result Dynamic Operation) → is_dynamic def ≡ true
          → converted table here (def_of table given) v ≡ made → puts_dynamic state given made ≡ Ok next → Goes (Call.Set given v)
      converts_so (Ok d) dynamic is h =
          let taken = converted_is table here (def_of table given) v d is in
          goes h (stays_at (Call.Set given v) (λ (u : Tree). whole (dyn d))
          (λ fit. record { suits = rw (settled_as table here (dynamic_def def dynamic) refl) taken.once; leads = tt })
          (λ t. omega (arith, taken.holds t)) (λ rested. tt) (λ old. tt))
      converts_so (Err operation) dynamic is h = cc

      by_shape : (b : Bool) → (here == given) ≡ b → is_dynamic def ≡ true
          → (if b then Ok (puts state v) else puts_dynamic state given (converted table here (def_of table given) v)) ≡ Ok next
          → Goes (Call.Set given v)
      by_shape true same dynamic h = goes h (sets given v (rw same refl))
      by_shape false same dynamic h = converts_so (converted table here (def_of table given) v) dynamic refl h

      by_place : (b : Bool) → is_dynamic def ≡ b → (if b then set_dynamic table here state given v
          else unless_refused (set_refusal table here given) (puts state v)) ≡ Ok next → Goes (Call.Set given v)
      by_place true dynamic h = by_shape (here == given) refl dynamic h
      by_place false other h = go (takes_shape table here given) refl h

  defaults_so : (preset : Option Val) → preset_of table here ≡ preset → puts_default here state preset ≡ Ok next → Goes Call.SetDefault
  defaults_so (Some v) is e =
      let template = preset_template table here v checked is in
      goes e (stays_at Call.SetDefault (λ (u : Tree). whole v) (λ fit. record { suits = template.fit; leads = tt })
      (λ t. omega (arith, template_holds table here v t template)) (λ rested. tt) (λ old. tt))
  defaults_so None is e = cc

  parses_so : {command : Call} (meaning : Meaning) (refusal : ReflectErrorKind) (operation : Operation)
      → ((v : Val) → meaning ≡ gives v → Move hooks table root state command (puts state v))
      → puts_parsed here state meaning refusal operation ≡ Ok next → Goes command
  parses_so (gives v) refusal operation so e = goes e (so v refl)
  parses_so (refuses message) refusal operation so e = cc
  parses_so unsupported refusal operation so e = cc

  child_so : (i : ℕ) → step hooks table root state (Call.SetNthFieldToDefault i) ≡ Ok next → Goes (Call.SetNthFieldToDefault i)
  child_so i e = go (at_shape here (named_refusal def tree)) (field_in def (selected tree) i) refl e
    where
      set_so : (field : Field) (value : Result Val ReflectErrorKind) → field_in def (selected tree) i ≡ Some field
          → field_default table field ≡ value → puts_child_default table here state i value ≡ Ok next
          → Goes (Call.SetNthFieldToDefault i)
      set_so field (Ok v) is value h =
          goes h (puts_so hooks table root state order i field v is (field_default_template table here (selected tree) i field v checked is value))
      set_so field (Err kind) is value h = cc

      go : (refusal : Option ReflectErrorKind) (found : Option Field) → field_in def (selected tree) i ≡ found
          → defaults_field table here state i refusal found ≡ Ok next → Goes (Call.SetNthFieldToDefault i)
      go (Some kind) found is h = cc
      go None (Some field) is h = set_so field (field_default table field) is refl h
      go None None is h = cc

  shared_so : step hooks table root state Call.SetEmptySharedSlice ≡ Ok next → Goes Call.SetEmptySharedSlice
  shared_so e =
      unless_at (shared_slice_refusal table def) (puts state (ptr (list_of no_vals)))
      (λ is. stays_at Call.SetEmptySharedSlice (λ (u : Tree). whole (ptr (list_of no_vals)))
      (λ fit. record { suits = shared_fits table here is; leads = tt }) (λ t. omega arith) (λ rested. tt) (λ old. tt)) e

  -- a content, a side or a pointee is begun

  some_so : step hooks table root state Call.BeginSome ≡ Ok next → Goes Call.BeginSome
  some_so e =
      only_if (is_option def) _ _ (λ is h. goes h (holds_it hooks table root state order Call.BeginSome (as_content ContentKind.Some)
      (option_kept table here state) (option_becomes state.mode table here tree is suits_here) (λ t. refl) (λ t. refl) tt)) e

  side_so : (command : Call) (side : Tracker) → IsSide side → ConversionSuits table here field side → begin_side table here state side ≡ Ok next
      → ((t : ℕ) → replaced hooks table root here state command t ≡ dropped_unless (content_kept state side) state t)
      → ((t : ℕ) → brings command t ≡ 0) → Goes command
  side_so command side of_result may e drops none =
      only_if (is_result def) _ _ (λ is h. goes h (holds_it hooks table root state order command side (content_kept state side)
      (content_becomes state.mode table here side tree (side_holds table here side of_result is) suits_here) drops none may)) e

  pointer_so : step hooks table root state Call.BeginSmartPtr ≡ Ok next → Goes Call.BeginSmartPtr
  pointer_so e =
      unless_at (pointer_refusal table def) (begins_pointer table here state (points_to_slice table def))
      (go (points_to_slice table def) refl) e
    where
      go : (to_slice : Bool) → points_to_slice table def ≡ to_slice → pointer_refusal table def ≡ None
          → Move hooks table root state Call.BeginSmartPtr (begins_pointer table here state to_slice)
      go false to is =
          holds_it hooks table root state order Call.BeginSmartPtr (as_content ContentKind.Pointer) (pointer_kept state false)
          (content_becomes state.mode table here (as_content ContentKind.Pointer) tree (pointer_holds table here (is, to)) suits_here)
          (λ t. ap (λ (b : Bool). dropped_unless (pointer_kept state b) state t) to) (λ t. refl) tt
      go true to is =
          let becomes = slice_becomes state.mode table here tree (is, to) suits_here in
          becomes_it hooks table root state order Call.BeginSmartPtr (pointer_kept state true) slice_anew becomes
          (λ t. ap (λ (b : Bool). dropped_unless (pointer_kept state b) state t) to) (λ t. refl) (tt, tt)

  -- a source is begun

  inner_so : step hooks table root state Call.BeginInner ≡ Ok next → Goes Call.BeginInner
  inner_so e = by_source (source_in (slice_get table here)) (convert_in (slice_get table here)) refl refl e
    where
      -- the place is an option
      option_so : (mode : Mode) → state.mode ≡ mode → is_option def ≡ true
          → ((t : ℕ) → replaced hooks table root here state Call.BeginInner t ≡ dropped_unless (inner_option_kept table here state mode) state t)
          → Move hooks table root state Call.BeginInner
          (enters table here state (Way.Content (as_content ContentKind.Some) (inner_option_kept table here state mode)))
      option_so strict is of_option drops =
          holds_it hooks table root state order Call.BeginInner (as_content ContentKind.Some) None
          (option_anew state.mode table here tree of_option) drops (λ t. refl) tt
      option_so (deferred start) is of_option drops =
          holds_it hooks table root state order Call.BeginInner (as_content ContentKind.Some) (option_kept table here state)
          (option_becomes state.mode table here tree of_option suits_here) drops (λ t. refl) tt

      converted_so : (b : Bool) → is_option def ≡ b → (hook : HookId) (source : ShapeId)
          → source_in (slice_get table here) ≡ Some source → convert_in (slice_get table here) ≡ Some hook
          → Move hooks table root state Call.BeginInner (begins_converted table here state b (by_wrapper hook source))
      converted_so true of_option hook source from by =
          option_so state.mode refl of_option (λ t. rw (from, by, of_option) refl)
      converted_so false other hook source from by =
          source_so hooks table root state order Call.BeginInner (by_wrapper hook source)
          (wrapper_may table here field hook source from by other) (λ t. rw (from, by, other) refl) (λ t. refl)

      -- the field or element 0 of what has started anew
      first_so : (source : ShapeId) → source_in (slice_get table here) ≡ Some source → convert_in (slice_get table here) ≡ None
          → ChildCase def 0 (fresh def)
          → unless_refused (at_shape here (field_refusal def (fresh def) 0)) (enters table here state (Way.Anew 0)) ≡ Ok next
          → Goes Call.BeginInner
      first_so source from by (a_child child admitted may) h =
          goes (rw admitted at h) (enters_anew hooks table root state order Call.BeginInner 0 child (λ t. rw (from, by) refl) (λ t. refl))
      first_so source from by (a_variant_child k child admitted chosen) h =
          goes (rw admitted at h) (enters_anew hooks table root state order Call.BeginInner 0 child (λ t. rw (from, by) refl) (λ t. refl))
      first_so source from by (no_child operation refused may) h = let none = rw refused at h in cc

      by_source : (source : Option ShapeId) (convert : Option HookId) → source_in (slice_get table here) ≡ source
          → convert_in (slice_get table here) ≡ convert → begins_inner table here state source convert ≡ Ok next → Goes Call.BeginInner
      by_source None convert from by h = cc
      by_source (Some source) None from by h = first_so source from by (child_case def 0 (fresh def)) h
      by_source (Some source) (Some hook) from by h = goes h (converted_so (is_option def) refl hook source from by)

  proxy_so : (command : Call) (found : Result ProxyDef Operation) → (format : Option (List ℕ))
      → proxy_of_field format (cursor_field table root state) ≡ found → begins_by_proxy table here state found ≡ Ok next
      → ((t : ℕ) → replaced hooks table root here state command t
      ≡ dropped_by_proxy (result_ok (proxy_of_field format (cursor_field table root state))) state t)
      → ((t : ℕ) → brings command t ≡ 0) → Goes command
  proxy_so command (Ok proxy) format is h drops none =
      goes h (source_so hooks table root state order command (by_proxy proxy) (field_proxy_may table root state format proxy checked is)
      (λ t. drops t ∙ ap (λ (known : Result ProxyDef Operation). dropped_by_proxy (result_ok known) state t) is) none)
  proxy_so command (Err operation) format is h drops none = cc

  -- a list or a map is begun

  list_so : (command : Call) → ((t : ℕ)
      → replaced hooks table root here state command t ≡ dropped_if (is_dynamic def) (kept_array tree) state t)
      → ((t : ℕ) → brings command t ≡ 0) → init_list table here state ≡ Ok next → Goes command
  list_so command drops none e =
      unless (init_list_refusal here def tree) (begins_list table here state (is_dynamic def)) (go (is_dynamic def) refl) e
    where
      go : (of_dynamic : Bool) → is_dynamic def ≡ of_dynamic → init_list_refusal here def tree ≡ None
          → Move hooks table root state command (begins_list table here state of_dynamic)
      go false other is =
          opens_it hooks table root state order command (list_opens state.mode table here tree other is placed_here)
          (λ t. drops t ∙ ap (λ (b : Bool). dropped_if b (kept_array tree) state t) other) none
      go true dynamic is =
          becomes_it hooks table root state order command (kept_array tree) array_anew
          (array_becomes state.mode table here tree (dynamic_def def dynamic) at_here suits_here)
          (λ t. drops t ∙ ap (λ (b : Bool). dropped_if b (kept_array tree) state t) dynamic) none (tt, tt)

  map_so : step hooks table root state Call.InitMap ≡ Ok next → Goes Call.InitMap
  map_so e = unless (init_map_refusal here def tree) (begins_map table here state (is_dynamic def)) (go (is_dynamic def) refl) e
    where
      go : (of_dynamic : Bool) → is_dynamic def ≡ of_dynamic → init_map_refusal here def tree ≡ None
          → Move hooks table root state Call.InitMap (begins_map table here state of_dynamic)
      go false other is =
          opens_it hooks table root state order Call.InitMap (map_opens state.mode table here tree other is placed_here)
          (λ t. ap (λ (b : Bool). dropped_if b (kept_object tree) state t) other) (λ t. refl)
      go true dynamic is =
          becomes_it hooks table root state order Call.InitMap (kept_object tree) object_anew
          (object_becomes state.mode table here tree (dynamic_def def dynamic) at_here suits_here)
          (λ t. ap (λ (b : Bool). dropped_if b (kept_object tree) state t) dynamic) (λ t. refl) (tt, tt)

  -- a variant is selected
  select_so : (command : Call) (find : List VariantDef → Option ℕ) (unknown : Operation)
      → select table here state find unknown ≡ Ok next → ((t : ℕ)
      → replaced hooks table root here state command t ≡ dropped_by_selecting (find (variants_of def)) state t)
      → ((t : ℕ) → brings command t ≡ 0) → Goes command
  select_so command find unknown e drops none =
      only_if (is_enum def) _ _ (λ of_enum h. found_so (find (variants_of def)) of_enum refl h) e
    where
      found_so : (found : Option ℕ) → is_enum def ≡ true → find (variants_of def) ≡ found
          → select_found table here state found unknown ≡ Ok next → Goes command
      found_so (Some k) of_enum is h =
          unless_at (selection_refusal def k) (selects table here state k) (λ admitted. becomes_it hooks table root state order command (variant_kept state k) (variant_anew def k)
          (variant_becomes state.mode table here k tree of_enum admitted at_here suits_here)
          (λ t. drops t ∙ ap (λ (found : Option ℕ). dropped_by_selecting found state t) is) none
          (tt, holes_convert table here (as_fields (Some k)) 0 _)) h
      found_so None of_enum is h = cc

  -- the end of a place, or of the items of a slice

  closes_so : is_open_slice tree ≡ true → closes_slice hooks table here state state.mode ≡ Ok next → Goes Call.End
  closes_so is_slice e = go state.mode refl e
    where
      -- an open pointer to a slice isn't left yet
      drops : (mode : Mode) → state.mode ≡ mode → (t : ℕ)
          → dropped_at_end hooks table root here state t ≡ dropped_by_column (column_at_end mode false) hooks table here state false t
      drops mode is t = rw (is_slice, is) refl

      made_so : (value : Option Val) → state.mode ≡ strict → complete strict_column hooks table here tree ≡ value
          → puts_made hooks table here state value ≡ Ok next → Goes Call.End
      made_so (Some v) is_strict is h =
          goes h (stays Call.End (λ old. whole v)
          (λ lawful fit. record { suits = (made lawful).fit; leads = tt })
          (λ lawful t. omega (arith, (made lawful).hold t, drops strict is_strict t)) (λ rested. tt) (λ old. tt))
        where
          made : IsLawful hooks → Made table here (λ t. dropped_by_completing strict_column hooks table here tree t)
              (λ t. tree_occurs tree t) v
          made lawful = completing_makes strict_column hooks table tree here v (lawful_in hooks tree lawful) checked suits_here is
      made_so None is_strict is h = cc

      go : (mode : Mode) → state.mode ≡ mode → closes_slice hooks table here state mode ≡ Ok next → Goes Call.End
      go strict is h = made_so (complete strict_column hooks table here tree) is refl h
      go (deferred start) is h =
          goes h (stays_at Call.End closed_slice (λ fit. slice_closes state.mode table here tree is_slice placed_here)
          (λ t. let same = closed_holds tree t in omega (arith, drops (deferred start) is t)) (closed_rests tree)
          (shut_converts table here field tree is_slice))

  leaves_so : is_open_slice tree ≡ false → leaves_place hooks table root here state ≡ Ok next → Goes Call.End
  leaves_so shut e = go (is_root state.cursor) state.mode refl refl e
    where
      ended_so : (value : Option Val) → state.mode ≡ strict → is_set_item state ≡ false → is_source_place state ≡ false
          → complete strict_column hooks table here tree ≡ value → ended hooks table here state value ≡ Ok next → Goes Call.End
      ended_so (Some v) is_strict no_item apart is h =
          goes h (goes_up strict_column v (began_strict state.mode (up state.cursor) is_strict)
          (may_go_up state.mode state.cursor state.tree apart) no_item is
          (λ t. let all = replaced_end false (is_dynamic_part state) strict shut (apart_strict apart) no_item refl is_strict t in
          omega arith))
      ended_so None is_strict no_item apart is h = cc

      converted_so : (value : Option Val) → state.mode ≡ strict → is_root state.cursor ≡ false → is_source_place state ≡ true
          → complete strict_column hooks table (cursor_shape table root (above state)) (cursor_tree (above state)) ≡ value
          → puts_made hooks table (cursor_shape table root (above state)) (above state) value ≡ Ok next → Goes Call.End
      converted_so (Some v) is_strict below source is h =
          let leaves : leaves_source state ≡ true
          = ap (λ (b : Bool). not b && not (is_deferred_mode state.mode) && is_source_place state) shut
          ∙ ap (λ (b : Bool). true && not (is_deferred_mode state.mode) && b) source
          ∙ ap (λ (mode : Mode). true && not (is_deferred_mode mode) && true) is_strict in
          goes h (is_converted v is_strict below is (λ t. rw leaves refl))
      converted_so None is_strict below source is h = cc

      item_so : (column : Column) (value : Option Val) → is_root state.cursor ≡ false → EndsBelow state.mode state.cursor
          → column_at_end state.mode true ≡ Some column → leaves_source state ≡ false → is_set_item state ≡ true → complete column hooks table here tree ≡ value
          → item_ended column hooks table here state value ≡ Ok next → Goes Call.End
      item_so column (Some v) below deeper by_column apart of_set is h =
          goes h (is_taken column v (began_above state.mode state.cursor deeper) below of_set is
          (λ t. replaced_end true (is_dynamic_part state) state.mode shut apart of_set refl refl t
          ∙ ap (λ (known : Option Column). dropped_by_column known hooks table here state true t) by_column
          ∙ ap (λ (made : Option Val). dropped_by_completing column hooks table here tree t
          + dropped_with_item (number_in state.cursor) (tree_at (up state.cursor) state.tree) made t) is))
      item_so column None below deeper by_column apart of_set is h = cc

      part_so : (start : ℕ) (value : Option Val) → state.mode ≡ deferred start → start < length state.cursor
          → is_set_item state ≡ false → is_dynamic_part state ≡ true → complete deferred_column hooks table here tree ≡ value
          → part_ended hooks table here state value ≡ Ok next → Goes Call.End
      part_so start (Some v) by_mode deeper no_item of_part is h =
          goes h (goes_up deferred_column v (began_up state.mode start state.cursor by_mode deeper)
          (may_go_deferred state.mode start state.cursor state.tree by_mode) no_item is
          (λ t. let all = replaced_end false true (deferred start) shut (apart_deferred start by_mode) no_item of_part by_mode t in
          omega arith))
      part_so start None by_mode deeper no_item of_part is h = cc

      below_so : (mode : Mode) → state.mode ≡ mode → EndsBelow mode state.cursor → EndsBelow state.mode state.cursor
      below_so mode is deeper = rw is deeper

      left_so : (start : ℕ) (of_set of_part : Bool) → state.mode ≡ deferred start → is_root state.cursor ≡ false
          → start < length state.cursor → is_set_item state ≡ of_set → is_dynamic_part state ≡ of_part
          → (if of_set then end_of_item deferred_column hooks table here state
          else leaves_deferred hooks table here state of_part) ≡ Ok next → Goes Call.End
      left_so start true of_part is below deeper item part h =
          item_so deferred_column (complete deferred_column hooks table here tree) below
          (below_so (deferred start) is deeper) (ap (λ (mode : Mode). column_at_end mode true) is)
          (apart_deferred start is) item refl h
      left_so start false true is below deeper item part h =
          part_so start (complete deferred_column hooks table here tree) is deeper item part refl h
      left_so start false false is below deeper item part h =
          goes h (stays_behind start is deeper shut item part (λ t. replaced_end false false (deferred start) shut (apart_deferred start is) item part is t))

      strict_so : (of_set : Bool) → state.mode ≡ strict → is_root state.cursor ≡ false → is_set_item state ≡ of_set
          → (if of_set then end_of_item strict_column hooks table here state
          else if is_source_place state then ends_source hooks table root state
          else ended hooks table here state (complete strict_column hooks table here tree)) ≡ Ok next → Goes Call.End
      strict_so true is below item h =
          item_so strict_column (complete strict_column hooks table here tree) below
          (below_so strict is tt) (ap (λ (mode : Mode). column_at_end mode true) is)
          (apart_strict (set_apart (tree_at (up state.cursor) state.tree) item)) item refl h
      strict_so false is below item h = by_source (is_source_place state) refl h
        where
          by_source : (source : Bool) → is_source_place state ≡ source
              → (if source then ends_source hooks table root state
              else ended hooks table here state (complete strict_column hooks table here tree)) ≡ Ok next → Goes Call.End
          by_source true source h =
              converted_so (complete strict_column hooks table (cursor_shape table root (above state)) (cursor_tree (above state)))
              is below source refl h
          by_source false apart h = ended_so (complete strict_column hooks table here tree) is item apart refl h

      go : (b : Bool) (mode : Mode) → is_root state.cursor ≡ b → state.mode ≡ mode
          → (if b then Err (violates Invariant.EndAtRoot) else end_in hooks table root here state mode) ≡ Ok next → Goes Call.End
      go true mode below is h = cc
      go false strict below is h = strict_so (is_set_item state) is below refl h
      go false (deferred start) below is h =
          only_if (nat_lt start (length state.cursor)) _ _ (λ deeper. left_so start (is_set_item state) (is_dynamic_part state) is
          below (ltb-true start (length state.cursor) deeper) refl refl) h

  ends_so : (b : Bool) → is_open_slice tree ≡ b
      → (if b then closes_slice hooks table here state state.mode else leaves_place hooks table root here state) ≡ Ok next → Goes Call.End
  ends_so true is e = closes_so is e
  ends_so false is e = leaves_so is e

  defers_so : (mode : Mode) → state.mode ≡ mode → begins_deferred state mode ≡ Ok next → Goes Call.BeginDeferred
  defers_so strict is e = goes e (is_deferred is)
  defers_so (deferred start) is e = cc

  finishes_so : (mode : Mode) → finish_in hooks table root state mode ≡ Ok next → Goes Call.FinishDeferred
  finishes_so strict e = cc
  finishes_so (deferred start) e = finished_so (finished hooks table root state.cursor state.tree) refl e
    where
      finished_so : (tree : Option Tree) → finished hooks table root state.cursor state.tree ≡ tree
          → finishes hooks table root state tree ≡ Ok next → Goes Call.FinishDeferred
      finished_so (Some tree) is h = goes h (is_over tree is)
      finished_so None is h = cc

  pub moves : (command : Call) → step hooks table root state command ≡ Ok next → Move hooks table root state command next
  moves (Call.BeginField name) e = names_so name e
  moves (Call.BeginNthField i) e = begins_so i e
  moves (Call.SetNthFieldToDefault i) e = child_so i e
  moves (Call.Set given v) e = sets_so given v e
  moves Call.SetDefault e = defaults_so (preset_of table here) refl e
  moves (Call.ParseFromStr said) e = parses_so (text_meant hooks table here said) _ _ (λ v is. is_parsed (Call.ParseFromStr said) v
      (λ lawful. text_template hooks table here said v checked lawful is) (λ t. refl) (λ t. refl)) e
  moves (Call.ParseFromBytes bytes) e = parses_so (bytes_meant hooks table here bytes) _ _ (λ v is. is_parsed (Call.ParseFromBytes bytes) v
      (λ lawful. bytes_template hooks table here bytes v checked lawful is) (λ t. refl) (λ t. refl)) e
  moves Call.SetEmptySharedSlice e = shared_so e
  moves Call.InitList e = list_so Call.InitList (λ t. refl) (λ t. refl) e
  moves (Call.InitListWithCapacity n) e = list_so (Call.InitListWithCapacity n) (λ t. refl) (λ t. refl) e
  moves Call.InitArray e =
      unless (at_shape here (init_array_refusal def tree)) (begins_array table here state) (array_so hooks table root state order) e
  moves Call.InitMap e = map_so e
  moves Call.BeginKey e = unless_at (key_refusal tree) (enters table here state Way.Key) (λ is. takes_new_key hooks table root state order (takes_a_key tree is)) e
  moves Call.BeginValue e =
      unless_at (value_refusal tree) (enters table here state (Way.Value (last_of (count_below tree))))
      (λ is. enters_value hooks table root state order (last_of (count_below tree)) (value_enterable table here tree (takes_a_value tree is) suits_here)) e
  moves Call.InitSet e = unless (init_set_refusal here def tree) (opens table here state)
      (λ is. opens_it hooks table root state order Call.InitSet (set_opens state.mode table here tree is placed_here) (λ t. refl) (λ t. refl)) e
  moves Call.BeginSetItem e = unless_at (set_item_refusal def tree) (enters table here state Way.Item)
      (λ is. takes_new_item hooks table root state order Call.BeginSetItem (takes_a_set_item def tree is) (λ t. refl) (λ t. refl)) e
  moves (Call.BeginObjectEntry key) e =
      unless_at (entry_refusal def tree) (enters table here state (Way.Entry key))
      (λ is. takes_new_entry hooks table root state order key (takes_an_entry def tree is)) e
  moves Call.BeginListItem e =
      unless_at (item_refusal def tree) (enters table here state Way.Item)
      (λ is. takes_new_item hooks table root state order Call.BeginListItem (takes_an_item def tree is) (λ t. refl) (λ t. refl)) e
  moves Call.BeginSome e = some_so e
  moves Call.BeginOk e = side_so Call.BeginOk (as_content ContentKind.Ok) tt tt e (λ t. refl) (λ t. refl)
  moves Call.BeginErr e = side_so Call.BeginErr (as_content ContentKind.Err) tt tt e (λ t. refl) (λ t. refl)
  moves Call.BeginSmartPtr e = pointer_so e
  moves Call.BeginInner e = inner_so e
  moves Call.BeginCustomDeserialization e = proxy_so Call.BeginCustomDeserialization _ None refl e (λ t. refl) (λ t. refl)
  moves (Call.BeginCustomDeserializationWithFormat format) e =
      proxy_so (Call.BeginCustomDeserializationWithFormat format) _ format refl e (λ t. refl) (λ t. refl)
  moves Call.BeginCustomDeserializationFromShape e =
      goes e (from_shape_so hooks table root state order Call.BeginCustomDeserializationFromShape _ None refl (λ t. refl) (λ t. refl))
  moves (Call.BeginCustomDeserializationFromShapeWithFormat format) e =
      goes e (from_shape_so hooks table root state order (Call.BeginCustomDeserializationFromShapeWithFormat format) _ format refl (λ t. refl) (λ t. refl))
  moves (Call.SelectNthVariant i) e =
      select_so (Call.SelectNthVariant i) (variant_numbered i) Operation.VariantIndexOutOfBounds e (λ t. refl) (λ t. refl)
  moves (Call.SelectVariantNamed name) e =
      select_so (Call.SelectVariantNamed name) (variant_named name) Operation.VariantNameUnknown e (λ t. refl) (λ t. refl)
  moves (Call.SelectVariant discriminant) e =
      select_so (Call.SelectVariant discriminant) (variant_told_by discriminant) Operation.DiscriminantUnknown e (λ t. refl)
      (λ t. refl)
  moves Call.End e = ends_so (is_open_slice tree) refl e
  moves Call.BeginDeferred e = defers_so state.mode refl e
  moves Call.FinishDeferred e = finishes_so state.mode e
