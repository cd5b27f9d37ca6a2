-- One command does the same to the journal and to the tree.
use Rattle.std.proofs.Common.{◌≡◌, ◌++◌, ◌<◌, ◌∷◌, ◌==◌, ◌&&◌, ◌||◌, if◌then◌else◌}
use Rattle.fr_model.proofs.Common.{ℕ, zero, suc, Bool, true, List, [], length, map, slice_get, Option, Some, None, option_to_list, refl, arith, list_all, Shape, ShapeId, Def, Field, IsChecked, fields_of, contents_of, is_sized, Table, def_or_other, def_of, Place, shape_of_field, shape_of_child, HasParts, Tracker, as_fields, as_elements, Tree, begun, child_as, shape_in, Mode, IsFullAs, Suits, Leads, eqb-true, ltb-true, false, nat_lt, Result, Ok, Err, sym, ◌∙◌, ap, subst, ReflectErrorKind, Operation, Invariant, preset_of, fits, Meanings, Val, Call, IsFieldCall, field_named, Column, strict_column, deferred_column, is_root, up, shape_at, entered_at, wrote_at, Journal, Held, held, completes, Progress, may_enter, goes_to_child, goes_to_found, writes, writes_and_leaves, goes_up, end_rule, begin_deferred_rule, finishes_with, finish_rule, finish_notes, rule, is_begun_conversion, without_source, is_source_place, ends_source, as_content, no_trees, branch, tree_at, Trees, is_set, is_begun_dynamic, is_open_slice, field_found, as_items, ItemsKind, variant_of, selected, hole, entered, whole, tree_at, strict, deferred, State, cursor_shape, cursor_tree, one_more_call, complete, finished, Way, enter_child, enters, unless_refused, field_refusal, named_refusal, at_shape, begins_named, puts, is_str, is_owned_string, takes_shape, set_refusal, puts_default, violates, ended, leaves, is_set_item, is_dynamic_part, ends_item, leaves_deferred, end_in, begins_deferred, finishes, finish_in, step, IsFitting, IsInOrder}
use Rattle.fr_shape.specs.declared.shape.ProxyDef.{ProxyDef}
use Rattle.fr_shape.specs.Checked.{parts_of}
use Rattle.fr_model.proofs.Basis.{started, without_source_is, without_source_apart, Enterable, may_go_up, LawfulIn, AllLawfulIn, AgreeAll, leads_within, leads_child, PartsAlong, suit_nth, both_true, all_of_both, child_as_is, AllPlain, began_strict, completed_in_order, not_dynamic, along, held_along, by_value, Agrees, agree_along, completes_at, under_entered, under_wrote, follow, parts_along, at_cursor, suits_at, plain_at, same_shape, entry_at, begun_in_order, put_in_order, left_in_order, deferred_in_order, preset_template}
use Rattle.fr_model.proofs.Children.{without_source_child, nothing_below, SeesWhole, sees_whole, may_enter_by, ChildOf, enterable, ChildCase, a_child, a_variant_child, no_child, child_case, only_of_enum, NamedCase, a_named, a_variant_named, no_such_name, no_names, named_case}
use Rattle.fr_model.proofs.FinishAgreement.{BothFinish, finish_agrees}
use Rattle.fr_model.proofs.Finishes.{finish_keeps, finish_leads}

abbrev has_size : Table → ShapeId → Bool
has_size table id = is_sized (def_of table id.0)

sized_field : (table : Table) (fields : List Field) (i : ℕ) → i < length fields
    → list_all (has_size table) (map (λ (field : Field). field.shape) fields) ≡ true
    → is_sized (def_of table (shape_of_field (slice_get fields i))) ≡ true
sized_field table [] i below all = absurd (omega arith)
sized_field table (field ∷ fields) zero below all = (both_true _ (list_all _ (map (λ (other : Field). other.shape) fields)) all).0
sized_field table (field ∷ fields) (suc i) below all =
    sized_field table fields i (omega arith) (both_true _ (list_all _ (map (λ (other : Field). other.shape) fields)) all).1

abbrev field_shapes : Shape → List ShapeId
field_shapes shape = map (λ (field : Field). field.shape) (fields_of shape.def)

sized_part : (table : Table) (shape : Shape) (tracker : Tracker) (n i : ℕ) → HasParts tracker → IsFullAs shape.def tracker n → i < n
    → list_all (has_size table) (parts_of shape) ≡ true → is_sized (def_of table (shape_of_child shape.def i)) ≡ true
sized_part table shape tracker n i parts full_as below all = go shape.def tracker parts full_as both.0 both.1
  where
    -- its fields and its contents come first
    both : (list_all (has_size table) (field_shapes shape) ≡ true) × (list_all (has_size table) (contents_of shape.def) ≡ true)
    both =
        let but_sources = all_of_both _
        (field_shapes shape ++ contents_of shape.def ++ option_to_list shape.inner ++ option_to_list shape.builder)
        (map (λ (proxy : ProxyDef). proxy.source) _) all in
        let but_builder = all_of_both _ (field_shapes shape ++ contents_of shape.def ++ option_to_list shape.inner) _ but_sources.0 in
        let but_inner = all_of_both (has_size table) (field_shapes shape ++ contents_of shape.def) (option_to_list shape.inner) but_builder.0 in
        all_of_both (has_size table) (field_shapes shape) (contents_of shape.def) but_inner.0

    go : (def : Def) (tracker : Tracker) → HasParts tracker → IsFullAs def tracker n
        → list_all (has_size table) (map (λ (field : Field). field.shape) (fields_of def)) ≡ true
        → list_all (has_size table) (contents_of def) ≡ true → is_sized (def_of table (shape_of_child def i)) ≡ true
    go (Def.Struct struct) (as_fields None) parts full_as fields held =
        sized_field table struct.fields i (omega (arith, full_as, below)) fields
    go (Def.Array t m) as_elements parts full_as fields held = (both_true _ true held).0
    go _ (as_fields None) parts full_as fields held = absurd full_as
    go _ as_elements parts full_as fields held = absurd full_as
    go _ _ parts full_as fields held = absurd parts

sized_child : (table : Table) (s : ℕ) (tracker : Tracker) (n i : ℕ) → IsChecked table → HasParts tracker
    → IsFullAs (def_of table s) tracker n → i < n → is_sized (def_of table (child_as table s tracker i)) ≡ true
sized_child table s tracker n i checked parts full_as below = rw (child_as_is table s tracker i parts) (go tracker parts _ refl full_as)
  where
    go : (tracker : Tracker) → HasParts tracker → (found : Option Shape) → slice_get table s ≡ found
        → IsFullAs (def_or_other found) tracker n → is_sized (def_of table (shape_of_child (def_or_other found) i)) ≡ true
    go tracker parts (Some shape) is full_as = sized_part table shape tracker n i parts full_as below (checked.sizes s shape is)
    go (as_fields None) parts None is full_as = absurd full_as
    go as_elements parts None is full_as = absurd full_as
    go _ parts None is full_as = absurd parts

pub sized_at : (mode : Mode) (table : Table) (s : ℕ) (here : Place) (t : Tree) → IsChecked table → PartsAlong here t
    → Leads mode here t → Suits table s t → is_sized (def_of table s) ≡ true → is_sized (def_of table (shape_in table s here t)) ≡ true
sized_at mode table s [] t checked along leads suits sized = sized
sized_at mode table s (i ∷ here) (begun tracker ts) checked along leads suits sized =
    sized_at mode table _ here _ checked along.1
    (leads_child mode i (λ child. Leads mode here child) ts leads) (suit_nth table s tracker i 0 ts i (omega arith) suits.1)
    (sized_child table s tracker _ i checked along.0 suits.0.0 (leads_within mode i (λ child. Leads mode here child) ts leads))
sized_at mode table s (i ∷ here) _ checked along leads suits sized = absurd leads

-- a builder's state and a run of the rules that have come equally far
pub record Alike (table : Table) (root : ℕ) (state : State) (run : Progress) : Type 0 where
  pub in_order : IsInOrder table root state
  pub agrees : Agrees table root run.notes state.tree
  pub same_cursor : run.cursor ≡ state.cursor
  pub same_mode : run.mode ≡ state.mode

-- both go on alike, or neither does
abbrev pub BothStep : Table → ℕ → Result State ReflectErrorKind → Option Progress → Type 0
BothStep table root (Ok next) (Some run) = Alike table root next run
BothStep table root (Err kind) None = Unit {0}
BothStep table root _ _ = ⊥

-- where a child is entered

abbrev entered_run : Progress → ℕ → Progress
entered_run run i = record run { notes = entered_at (run.cursor ++ i ∷ []) ∷ run.notes; cursor = run.cursor ++ i ∷ [] }

-- a tree that agrees with a journal has no variant selected
no_variant : (table : Table) (s k : ℕ) (t : Tree) (notes : Journal) → Agrees table s notes t → selected t ≡ Some k → ⊥
no_variant table s k (begun tracker ts) notes agrees e = go tracker agrees.2 e
  where
    go : (tracker : Tracker) → HasParts tracker → variant_of tracker ≡ Some k → ⊥
    go (as_fields None) parts e = cc
    go as_elements parts e = cc
    go _ parts e = absurd parts
no_variant table s k hole notes agrees e = cc
no_variant table s k entered notes agrees e = cc
no_variant table s k (whole v) notes agrees e = cc

not_str : (def : Def) → is_sized def ≡ true → is_str def ≡ false
not_str Def.Str sized = cc
not_str _ sized = refl

-- what has parts is neither a set nor a dynamic value, nor a conversion, and so is what lies above the cursor

abbrev IsAlone : Tree → Type 0
IsAlone t = (is_set t ≡ false) × (is_begun_dynamic t ≡ false) × (is_begun_conversion t ≡ false)

parts_alone : (tracker : Tracker) (ts : Trees) → HasParts tracker → IsAlone (begun tracker ts)
parts_alone (as_fields None) ts parts = (refl, refl, refl)
parts_alone as_elements ts parts = (refl, refl, refl)
parts_alone _ ts parts = absurd parts

no_item : (i : ℕ) (here : Place) (t : Tree) → PartsAlong (i ∷ here) t → IsAlone (tree_at (up (i ∷ here)) t)
no_item i [] (begun tracker ts) along = parts_alone tracker ts along.0
no_item i (j ∷ here) (begun tracker ts) along = no_item j here _ along.1
no_item i here _ along = absurd along

never : true ≡ false → ⊥
never e = cc

-- the journal has no conversions
mutual
  pub agrees_lawful : (hooks : Meanings) (table : Table) (s : ℕ) (notes : Journal) (t : Tree) → Agrees table s notes t → LawfulIn hooks t
  agrees_lawful hooks table s notes (begun (as_fields selected) ts) agrees =
      (λ conversion. cc, all_agree_lawful hooks table s (as_fields selected) notes 0 ts agrees.1)
  agrees_lawful hooks table s notes (begun as_elements ts) agrees =
      (λ conversion. cc, all_agree_lawful hooks table s as_elements notes 0 ts agrees.1)
  agrees_lawful hooks table s notes (begun _ ts) agrees = absurd agrees.2
  agrees_lawful hooks table s notes _ agrees = tt

  all_agree_lawful : (hooks : Meanings) (table : Table) (s : ℕ) (tracker : Tracker) (notes : Journal) (i : ℕ) (ts : Trees)
      → AgreeAll table s tracker notes i ts → AllLawfulIn hooks ts
  all_agree_lawful hooks table s tracker notes i no_trees agree = tt
  all_agree_lawful hooks table s tracker notes i (branch t ts) agree =
      (agrees_lawful hooks table _ _ t agree.0, all_agree_lawful hooks table s tracker notes (suc i) ts agree.1)

-- the end of deferred mode

-- the state in which deferred mode has ended
abbrev pub finishes_as : State → Tree → State
finishes_as state tree = record state { tree = tree; mode = strict; calls = one_more_call state.calls }

pub finished_in_order : (hooks : Meanings) (table : Table) (root : ℕ) (state : State) (tree : Tree) → LawfulIn hooks state.tree
    → IsChecked table → IsInOrder table root state → finished hooks table root state.cursor state.tree ≡ Some tree
    → IsInOrder table root (finishes_as state tree)
finished_in_order hooks table root state tree lawful checked order is =
    let kept = finish_keeps hooks table root state.cursor state.tree tree lawful checked order.suits is in
    record {
      suits = kept.suits;
      leads = finish_leads hooks table root state.mode state.cursor state.tree tree order.leads is;
      began = tt;
    }

-- each command, at a tree and a journal that agree
module _ (hooks : Meanings) (table : Table) (checked : IsChecked table) (root : ℕ) (sized : is_sized (def_of table root) ≡ true)
    (plain : AllPlain table root) (state : State) (notes : Journal) (order : IsInOrder table root state) (agrees : Agrees table root notes state.tree) where
  abbrev run : Progress
  run = record { notes = notes; cursor = state.cursor; mode = state.mode }

  -- the shape of the place at the cursor
  abbrev at_here : ℕ
  at_here = cursor_shape table root state

  parts : PartsAlong state.cursor state.tree
  parts = parts_along state.mode table root state.cursor state.tree notes order.leads agrees

  same : shape_at table root state.cursor ≡ at_here
  same = same_shape table root state.cursor state.tree parts

  agrees_here : Agrees table at_here (along state.cursor notes) (cursor_tree state)
  agrees_here = agree_along state.mode table root state.cursor state.tree notes order.leads agrees

  suits_here : Suits table at_here (cursor_tree state)
  suits_here = suits_at state.mode table root state.cursor state.tree order.leads order.suits

  -- what the journal knows of the place at the cursor
  sees : SeesWhole (def_of table at_here) (cursor_tree state) (held notes state.cursor)
  sees =
      subst (λ (h : Held). SeesWhole (def_of table at_here) (cursor_tree state) h) (sym (held_along notes state.cursor))
      (sees_whole state.mode table at_here (cursor_tree state) (along state.cursor notes)
      (at_cursor state.mode state.cursor state.tree order.leads) agrees_here)

  -- the journal has no parts of a conversion
  no_conversion : is_begun_conversion (cursor_tree state) ≡ false
  no_conversion = go (cursor_tree state) agrees_here
    where
      go : (t : Tree) → Agrees table at_here (along state.cursor notes) t → is_begun_conversion t ≡ false
      go (begun (as_content kind) ts) agrees = absurd agrees.2
      go _ agrees = refl

  -- a child is entered
  entered_alike : (i : ℕ) → ChildOf (def_of table at_here) i (cursor_tree state)
      → Alike table root (enters table at_here state (Way.Child i)) (entered_run run i)
  entered_alike i child = record {
    in_order = begun_in_order table root state i enters_it order;
    agrees = rw (← under_entered state.cursor (i ∷ []))
        (follow state.mode table root state.cursor state.tree notes (entered_at (i ∷ []))
        (λ old. enter_child table at_here i (without_source (def_of table at_here) old)) order.leads agrees
        (λ old. (entry_at table root state i enters_it order).agrees (along state.cursor notes)
        (without_source_is (Agrees table at_here (along state.cursor notes)) _ _ (λ anew. absurd (never (sym anew ∙ no_conversion))) (λ apart. old))));
    same_cursor = refl;
    same_mode = refl;
  }
    where
      enters_it : Enterable table at_here i (started table root state)
      enters_it = enterable table at_here i (started table root state) (without_source_apart _ _) (without_source_child _ i (cursor_tree state) child)

  may_is : (i : ℕ) (b : Bool) → may_enter_by (def_of table at_here) i (held notes state.cursor) ≡ b
      → may_enter table (shape_at table root state.cursor) i (held notes state.cursor) ≡ b
  may_is i b e = ap (λ (s : ℕ). may_enter table s i (held notes state.cursor)) same ∙ e

  begins_alike : (i : ℕ)
      → BothStep table root (step hooks table root state (Call.BeginNthField i)) (rule table root run (Call.BeginNthField i))
  begins_alike i = go (child_case (def_of table at_here) i (cursor_tree state))
    where
      go : ChildCase (def_of table at_here) i (cursor_tree state) → BothStep table root
          (unless_refused (at_shape at_here (field_refusal (def_of table at_here) (cursor_tree state) i))
          (enters table at_here state (Way.Child i)))
          (goes_to_child (may_enter table (shape_at table root state.cursor) i (held notes state.cursor)) run i)
      go (a_child child admitted may) =
          let there = may_is i true (may (held notes state.cursor) sees) in rw (admitted, there) (entered_alike i child)
      go (a_variant_child k child admitted chosen) =
          absurd (no_variant table at_here k (cursor_tree state) (along state.cursor notes) agrees_here chosen)
      go (no_child operation refused may) = let absent = may_is i false (may (held notes state.cursor) sees) in rw (refused, absent) tt

  abbrev refuses_names : Option Operation
  refuses_names = named_refusal (def_of table at_here) (cursor_tree state)

  abbrev finds : List ℕ → Option ℕ
  finds name = field_found name (def_of table at_here) (selected (cursor_tree state))

  named_alike : (name : List ℕ)
      → BothStep table root (step hooks table root state (Call.BeginField name)) (rule table root run (Call.BeginField name))
  named_alike name =
      subst (λ (s : ℕ). BothStep table root (begins_named table at_here state (at_shape at_here refuses_names) (finds name))
      (goes_to_found table s run (field_named name (def_of table s)))) (sym same)
      (go (named_case name (def_of table at_here) (cursor_tree state) (only_of_enum table at_here (cursor_tree state) suits_here)))
    where
      go : NamedCase name (def_of table at_here) (cursor_tree state)
          → BothStep table root (begins_named table at_here state (at_shape at_here refuses_names) (finds name))
          (goes_to_found table at_here run (field_named name (def_of table at_here)))
      go (a_named i child admitted is named may) =
          let there = may (held notes state.cursor) in rw (admitted, is, named, there) (entered_alike i child)
      go (a_variant_named i k child admitted is chosen) =
          absurd (no_variant table at_here k (cursor_tree state) (along state.cursor notes) agrees_here chosen)
      go (no_such_name admitted is named) = rw (admitted, is, named) tt
      go (no_names operation refused named) = rw (refused, named) tt

  -- a value is put
  put_alike : (v : Val) → fits table at_here v ≡ true → Alike table root (puts state v)
      (record { notes = wrote_at state.cursor v ∷ notes; cursor = state.cursor; mode = state.mode })
  put_alike v fit = record {
    in_order = put_in_order table root state v fit order;
    agrees = rw (← under_wrote state.cursor v)
        (follow state.mode table root state.cursor state.tree notes (wrote_at [] v) (λ old. whole v) order.leads agrees
        (λ old. by_value refl));
    same_cursor = refl;
    same_mode = refl;
  }

  -- the place has a size, so it is no `str`
  own_shape : (given : ℕ) → takes_shape table at_here given ≡ (at_here == given)
  own_shape given =
      let no_str = not_str (def_of table at_here)
      (sized_at state.mode table root state.cursor state.tree checked parts order.leads order.suits sized) in
      ap (λ (b : Bool). at_here == given || (b && is_owned_string (def_of table given))) no_str ∙ or_false (at_here == given)
    where
      or_false : (b : Bool) → (b || false) ≡ b
      or_false true = refl
      or_false false = refl

  plain_here : AllPlain table at_here
  plain_here = plain_at state.mode table root state.cursor state.tree parts order.leads order.suits plain

  sets_alike : (given : ℕ) (v : Val) → fits table given v ≡ true
      → BothStep table root (step hooks table root state (Call.Set given v)) (rule table root run (Call.Set given v))
  sets_alike given v fit = rw (same, not_dynamic table at_here plain_here) (go (at_here == given) refl)
    where
      go : (b : Bool) → (at_here == given) ≡ b → BothStep table root (unless_refused (set_refusal table at_here given) (puts state v))
          (writes run (if at_here == given then Some v else None))
      go true e = rw (own_shape given, e) (put_alike v (ap (λ (s : ℕ). fits table s v) (eqb-true at_here given e) ∙ fit))
      go false e = rw (own_shape given, e) tt

  defaults_alike : BothStep table root (step hooks table root state Call.SetDefault) (rule table root run Call.SetDefault)
  defaults_alike = rw same (go (preset_of table at_here) refl)
    where
      go : (preset : Option Val) → preset_of table at_here ≡ preset
          → BothStep table root (puts_default at_here state preset) (writes run preset)
      go (Some v) is =
          let template = preset_template table at_here v checked is in put_alike v template.fit
      go None is = tt

  -- what the place at the cursor makes, by the rules of either column
  completes_here : (column : Column) → completes column table notes (shape_at table root state.cursor) state.cursor
      ≡ complete column hooks table at_here (cursor_tree state)
  completes_here column =
      ap (λ (s : ℕ). completes column table notes s state.cursor) same
      ∙ completes_at state.mode column hooks table root state.cursor state.tree notes checked plain_here order.leads suits_here agrees

  -- end in strict mode
  ends_alike : state.mode ≡ strict → is_begun_conversion (tree_at (up state.cursor) state.tree) ≡ false → (value : Option Val) (by_notes : Option Val)
      → complete strict_column hooks table at_here (cursor_tree state) ≡ value → by_notes ≡ value
      → BothStep table root (ended hooks table at_here state value) (writes_and_leaves run by_notes)
  ends_alike is_strict below (Some v) by_notes is same_value = rw same_value (record {
    in_order = completed_in_order strict_column hooks table root state v
        (agrees_lawful hooks table at_here (along state.cursor notes) (cursor_tree state) agrees_here) checked
        (began_strict state.mode (up state.cursor) is_strict) (may_go_up state.mode state.cursor state.tree below) is order;
    agrees = rw (← under_wrote state.cursor v)
        (follow state.mode table root state.cursor state.tree notes (wrote_at [] v) (λ old. whole v) order.leads agrees
        (λ old. by_value refl));
    same_cursor = refl;
    same_mode = refl;
  })
  ends_alike is_strict below None by_notes is same_value = rw same_value tt

  -- end in deferred mode
  left_alike : (start : ℕ) → state.mode ≡ deferred start → start < length state.cursor → Alike table root (leaves state) (goes_up run)
  left_alike start is deeper =
      record { in_order = left_in_order table root start state is deeper order; agrees = agrees; same_cursor = refl; same_mode = refl }

  -- the place at the cursor, below the root, is no item of a set, no part of a dynamic value and no source
  alone : is_root state.cursor ≡ false → IsAlone (tree_at (up state.cursor) state.tree)
  alone below = go state.cursor parts below
    where
      go : (here : Place) → PartsAlong here state.tree → is_root here ≡ false → IsAlone (tree_at (up here) state.tree)
      go [] along below = cc
      go (i ∷ here) along below = no_item i here state.tree along

  -- what comes of it there
  abbrev leaves_it : Result State ReflectErrorKind
  leaves_it =
      if is_set_item state then ends_item deferred_column hooks table at_here state
      else leaves_deferred hooks table at_here state (is_dynamic_part state)

  leaves_alike : (start : ℕ) → state.mode ≡ deferred start → (here : Place) → state.cursor ≡ here → BothStep table root
      (if is_root here then Err (violates Invariant.EndAtRoot)
      else (if nat_lt start (length here) then leaves_it else Err (violates Invariant.EndAtStart)))
      (if nat_lt start (length here) then Some (goes_up run) else None)
  leaves_alike start is [] at = rw (nothing_below start) tt
  leaves_alike start is (i ∷ here) at = go (nat_lt start (length (i ∷ here))) refl
    where
      go : (b : Bool) → nat_lt start (length (i ∷ here)) ≡ b
          → BothStep table root (if b then leaves_it else Err (violates Invariant.EndAtStart)) (if b then Some (goes_up run) else None)
      go true e =
          let by_itself = alone (ap is_root at) in
          rw (by_itself.0, by_itself.1) (left_alike start is
          (subst (λ (place : Place). start < length place) (sym at) (ltb-true start (length (i ∷ here)) e)))
      go false e = tt

  -- the journal has no parts of a slice
  no_slice : is_open_slice (cursor_tree state) ≡ false
  no_slice = go (cursor_tree state) agrees_here
    where
      go : (t : Tree) → Agrees table at_here (along state.cursor notes) t → is_open_slice t ≡ false
      go (begun (as_items ItemsKind.Slice) ts) agrees = absurd agrees.2
      go _ agrees = refl

  end_alike : (mode : Mode) → state.mode ≡ mode → BothStep table root
      (if is_root state.cursor then Err (violates Invariant.EndAtRoot) else end_in hooks table root at_here state mode)
      (end_rule table (shape_at table root state.cursor) run mode)
  end_alike strict is = go (is_root state.cursor) refl
    where
      go : (b : Bool) → is_root state.cursor ≡ b → BothStep table root (if b then Err (violates Invariant.EndAtRoot)
          else (if is_set_item state then ends_item strict_column hooks table at_here state
          else if is_source_place state then ends_source hooks table root state
          else ended hooks table at_here state (complete strict_column hooks table at_here (cursor_tree state)))) (if b then None
          else writes_and_leaves run (completes strict_column table notes (shape_at table root state.cursor) state.cursor))
      go true at = tt
      go false below =
          let by_itself = alone below in
          rw (by_itself.0, by_itself.2) (ends_alike is by_itself.2 (complete strict_column hooks table at_here (cursor_tree state))
          (completes strict_column table notes (shape_at table root state.cursor) state.cursor) refl (completes_here strict_column))
  end_alike (deferred start) is = leaves_alike start is state.cursor refl

  -- deferred mode
  defers_alike : (mode : Mode) → state.mode ≡ mode → BothStep table root (begins_deferred state mode) (begin_deferred_rule run mode)
  defers_alike strict is =
      record { in_order = deferred_in_order table root state is order; agrees = agrees; same_cursor = refl; same_mode = refl }
  defers_alike (deferred start) is = tt

  finished_alike : (tree : Option Tree) (added : Option Journal)
      → finished hooks table root state.cursor state.tree ≡ tree → BothFinish table root notes tree added
      → BothStep table root (finishes hooks table root state tree) (finishes_with run added)
  finished_alike (Some tree) (Some added) is both = record {
    in_order = finished_in_order hooks table root state tree (agrees_lawful hooks table root notes state.tree agrees) checked order is;
    agrees = both;
    same_cursor = refl;
    same_mode = refl;
  }
  finished_alike (Some tree) None is both = absurd both
  finished_alike None (Some added) is both = absurd both
  finished_alike None None is both = tt

  finish_alike : (mode : Mode) → BothStep table root (finish_in hooks table root state mode) (finish_rule table root run mode)
  finish_alike strict = tt
  finish_alike (deferred start) =
      finished_alike (finished hooks table root state.cursor state.tree) (finish_notes table notes root [] state.cursor) refl
      (finish_agrees hooks table root state notes checked plain order agrees)

  pub steps_alike : (command : Call) → IsFieldCall command → IsFitting table command
      → BothStep table root (step hooks table root state command) (rule table root run command)
  steps_alike (Call.BeginField name) of_field fit = named_alike name
  steps_alike (Call.BeginNthField i) of_field fit = begins_alike i
  steps_alike (Call.Set given v) of_field fit = sets_alike given v fit.1
  steps_alike Call.SetDefault of_field fit = defaults_alike
  steps_alike Call.End of_field fit = rw no_slice (end_alike state.mode refl)
  steps_alike Call.BeginDeferred of_field fit = defers_alike state.mode refl
  steps_alike Call.FinishDeferred of_field fit = finish_alike state.mode
  steps_alike _ of_field fit = absurd of_field
