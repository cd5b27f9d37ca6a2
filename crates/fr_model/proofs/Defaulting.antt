-- A field of the place at the cursor that is set to its default, which is as entering it, setting it and leaving it; or why it can't
-- be is told.
use Rattle.std.proofs.Common.{◌≡◌, ◌+◌, ◌<◌, ◌∷◌, ◌≤◌, if◌then◌else◌, ◌++◌}
use Rattle.fr_model.proofs.Common.{ℕ, zero, suc, true, List, [], length, slice_get, Option, Some, None, refl, sym, ◌∙◌, ap, subst, arith, Def, EnumDef, Field, StructDef, VariantDef, fits, Table, def_of, field_of_variant, field_in, occurs, Val, opened, put_child, Tracker, as_fields, tracker_of, tracker_at, over_base, selected, Tree, whole, begun, Trees, no_trees, branch, child_tree, change_nth, change_child, child_as, count_trees, tree_occurs, Mode, child_count, fields_or_none, IsFullAs, IsBegunAs, Suits, RestsAround, AllOff, AtCursor, eq-eqb, lt-ltb, nat_lt, Bool, false, length-append, Result, Ok, Err, Invariant, Operation, ReflectErrorKind, Meanings, is_set, is_set_tracker, Call, complete, is_begun_dynamic, is_dynamic_tracker, is_open_slice, and_step, three_calls, AreSameButCalls, Place, strict_column, deferred_column, is_root, up, Way, enter, enters, unless_refused, at_shape, violates, field_refusal, named_refusal, set_refusal, set_dynamic, set, field_default, puts, puts_child, puts_child_default, defaults_field, ended, is_set_item, is_dynamic_part, entered_on, without_source, is_source_place, ends_source, is_conversion, is_begun_conversion, as_content, ContentKind, ends_item, leaves_deferred, end_in, leaves_place, closes_slice, step, tree_at, change_at, shape_in, shape_below, strict, deferred, State, cursor_shape, cursor_tree, Leads, BeganAbove, IsInOrder, ap₂, HasNoDefault, names_none, no_such_field, no_default, DefaultIsThreeCalls}
use Rattle.fr_model.proofs.Basis.{Enterable, a_field, a_variant_field, may_work, started, without_source_at, without_source_suits, without_source_apart, enterable_apart, Opening, opening, rightly_changed, whole_off, opened_rests, put_among, count_change, suit_change, nth_holds, opened_holds, done_but, done_put, leads_within, leads_child, at_cursor, suits_at, begun_in_order}
use Rattle.fr_model.specs.Refusals.{operation_failed, at_shape, named_refusal}
use Rattle.fr_model.proofs.Paths.{changed_nth}
use Rattle.fr_model.proofs.Children.{without_source_selects}

-- the place with its child i whole: it suits its shape, may be the cursor's, and holds the value's tokens in place of the child's
pub record Putting (mode : Mode) (table : Table) (s i : ℕ) (v : Val) (t : Tree) : Type 0 where
  pub suits : Suits table s (change_child i (λ old. whole v) (opened (def_of table s) t))
  pub at : AtCursor mode (change_child i (λ old. whole v) (opened (def_of table s) t))
  pub rest : RestsAround [] t → RestsAround [] (change_child i (λ old. whole v) (opened (def_of table s) t))
  pub hold : (k : ℕ) → tree_occurs (change_child i (λ old. whole v) (opened (def_of table s) t)) k
      + tree_occurs (child_tree i (opened (def_of table s) t)) k ≡ tree_occurs t k + occurs v k

put_off : (mode : Mode) (i : ℕ) (v : Val) (ts : Trees) → AllOff mode ts → AllOff mode (change_nth i (λ old. whole v) ts)
put_off mode i v no_trees off = tt
put_off mode zero v (branch t ts) off = (whole_off mode v, off.1)
put_off mode (suc i) v (branch t ts) off = (off.0, put_off mode i v ts off.1)

pub putting : (mode : Mode) (table : Table) (s i : ℕ) (v : Val) (t : Tree) → Enterable table s i t → AtCursor mode t
    → Suits table s t → fits table (child_as table s (tracker_at (def_of table s) t) i) v ≡ true → Putting mode table s i v t
putting mode table s i v t enterable at suits fit = record {
  suits = subst (λ (u : Tree). Suits table s (change_child i (λ old. whole v) u)) (sym place.is) (
    subst (λ (n : ℕ). IsBegunAs (def_of table s) tracker n) (sym (count_change i (λ old. whole v) place.children)) place.begun_as,
    suit_change table s tracker i 0 place.children i (λ old. whole v) (omega arith) place.suit (λ old. fit),
    rightly_changed table s tracker place.children i (λ old. whole v) tt place.rightly,
  );
  at = subst (λ (u : Tree). AtCursor mode (change_child i (λ old. whole v) u)) (sym place.is)
      (may_work mode tracker place.apart, put_off mode i v place.children place.off);
  rest = λ rested.
      let there : RestsAround [] (begun tracker place.children)
      = subst (λ (u : Tree). RestsAround [] u) place.is (opened_rests table s t suits rested) in
      let apart = enterable_apart table s i t tracker (count_trees place.children) enterable place.begun_as.0 in
      subst (λ (u : Tree). RestsAround [] (change_child i (λ old. whole v) u)) (sym place.is) (
        done_put tracker i v place.children
            apart.0 (apart.1 refl rested)
            (done_but tracker i place.children (apart.1 refl rested) there.0),
        put_among i v place.children there.1,
      );
  hold = λ k.
      let same = opened_holds (tracker_of (def_of table s)) (child_count table s) t k in
      let within = place.within in
      let now : tree_occurs (change_child i (λ old. whole v) (opened (def_of table s) t)) k
      + tree_occurs (child_tree i (opened (def_of table s) t)) k ≡ tree_occurs (opened (def_of table s) t) k + occurs v k
      = subst (λ (u : Tree). tree_occurs (change_child i (λ old. whole v) u) k + tree_occurs (child_tree i u) k
      ≡ tree_occurs u k + occurs v k) (sym place.is) (nth_holds i (λ old. whole v) place.children k place.within) in
      now ∙ ap (λ (n : ℕ). n + occurs v k) same;
}
  where
    tracker : Tracker
    tracker = tracker_at (def_of table s) t

    place : Opening mode table s i tracker t
    place = opening mode table s i t enterable at suits

-- the field is one that may be entered, and the child has its shape

pub record FieldThere (table : Table) (s i : ℕ) (t : Tree) (field : Field) : Type 0 where
  pub enterable : Enterable table s i t
  pub shape : child_as table s (tracker_at (def_of table s) t) i ≡ field.shape.0

pub get_below : {X : Type 0} (xs : List X) (i : ℕ) (x : X) → slice_get xs i ≡ Some x → i < length xs
get_below [] i x e = cc
get_below (y ∷ ys) zero x e = omega arith
get_below (y ∷ ys) (suc i) x e = let rest = get_below ys i x e in omega arith

struct_child : (table : Table) (s i : ℕ) (struct : StructDef) (field : Field) (tracker : Tracker) → def_of table s ≡ Def.Struct struct
    → slice_get struct.fields i ≡ Some field → (n : ℕ) → is_conversion tracker ≡ false → IsFullAs (Def.Struct struct) tracker n
    → child_as table s tracker i ≡ field.shape.0
struct_child table s i struct field (as_fields None) is e n apart full_as = rw (is, e) refl
struct_child table s i struct field (as_content (ContentKind.Source conversion)) is e n apart full_as = cc
struct_child table s i struct field _ is e n apart full_as = absurd full_as

-- one that isn't begun yet is begun as a struct
struct_fresh : (table : Table) (s i : ℕ) (struct : StructDef) (field : Field) → def_of table s ≡ Def.Struct struct
    → slice_get struct.fields i ≡ Some field → child_as table s (tracker_of (def_of table s)) i ≡ field.shape.0
struct_fresh table s i struct field is e =
    subst (λ (def : Def). child_as table s (tracker_of def) i ≡ field.shape.0) (sym is)
    (struct_child table s i struct field (as_fields None) is e _ refl refl)

struct_tracker : (table : Table) (s i : ℕ) (struct : StructDef) (field : Field) (t : Tree) → def_of table s ≡ Def.Struct struct
    → slice_get struct.fields i ≡ Some field → is_begun_conversion t ≡ false → Suits table s t
    → child_as table s (tracker_at (def_of table s) t) i ≡ field.shape.0
struct_tracker table s i struct field (begun tracker ts) is e apart suits =
    struct_child table s i struct field tracker is e _ apart (rw is at suits.0.0)
struct_tracker table s i struct field (whole v) is e apart suits =
    subst (λ (def : Def). child_as table s (over_base (tracker_of def) v) i ≡ field.shape.0) (sym is)
    (struct_child table s i struct field (as_fields None) is e _ refl refl)
struct_tracker table s i struct field _ is e apart suits = struct_fresh table s i struct field is e

variant_child : (table : Table) (s i k : ℕ) (enumeration : EnumDef) (field : Field) (t : Tree) → def_of table s ≡ Def.Enum enumeration
    → selected t ≡ Some k → field_in (Def.Enum enumeration) (Some k) i ≡ Some field
    → child_as table s (tracker_at (def_of table s) t) i ≡ field.shape.0
variant_child table s i k enumeration field (begun (as_fields (Some j)) ts) is chosen e =
    let same : j ≡ k = cc in rw (is, same, e) refl
variant_child table s i k enumeration field _ is chosen e = cc

pub of_variant_below : (found : Option VariantDef) (i : ℕ) (field : Field) → field_of_variant found i ≡ Some field
    → i < length (fields_or_none found)
of_variant_below (Some variant) i field e = get_below variant.fields i field e
of_variant_below None i field e = cc

pub field_there : (table : Table) (s i : ℕ) (t : Tree) (field : Field) → is_begun_conversion t ≡ false → Suits table s t
    → field_in (def_of table s) (selected t) i ≡ Some field → FieldThere table s i t field
field_there table s i t field apart suits e = go _ (selected t) refl refl e
  where
    go : (def : Def) (chosen : Option ℕ) → def_of table s ≡ def → selected t ≡ chosen → field_in def chosen i ≡ Some field
        → FieldThere table s i t field
    go (Def.Struct struct) None is chosen e = record {
      enterable = a_field struct is (get_below struct.fields i field e) apart;
      shape = struct_tracker table s i struct field t is e apart suits;
    }
    go (Def.Struct struct) (Some k) is chosen e = cc
    go (Def.Enum enumeration) (Some k) is chosen e = record {
      enterable = a_variant_field k enumeration is chosen (rw is (of_variant_below (slice_get enumeration.variants k) i field e));
      shape = variant_child table s i k enumeration field t is chosen e;
    }
    go (Def.Enum enumeration) None is chosen e = cc
    go _ chosen is held e = cc

-- one change after another

nth_after : (i : ℕ) (first second both : Tree → Tree) (ts : Trees) → ((u : Tree) → second (first u) ≡ both u)
    → change_nth i second (change_nth i first ts) ≡ change_nth i both ts
nth_after i first second both no_trees same = refl
nth_after zero first second both (branch t ts) same = ap (λ (u : Tree). branch u ts) (same t)
nth_after (suc i) first second both (branch t ts) same = ap (branch t) (nth_after i first second both ts same)

child_after : (i : ℕ) (first second both : Tree → Tree) (t : Tree) → ((u : Tree) → second (first u) ≡ both u)
    → change_child i second (change_child i first t) ≡ change_child i both t
child_after i first second both (begun tracker ts) same = ap (begun tracker) (nth_after i first second both ts same)
child_after i first second both _ same = refl

change_after : (here way : Place) (first second both : Tree → Tree) (t : Tree) → ((u : Tree) → change_at way second (first u) ≡ both u)
    → change_at (here ++ way) second (change_at here first t) ≡ change_at here both t
change_after [] way first second both t same = same t
change_after (i ∷ here) way first second both t same =
    child_after i (λ child. change_at here first child) (λ child. change_at _ second child)
    (λ child. change_at here both child) t (λ u. change_after here way first second both u same)

-- a value that is put twice is put once
twice : (here : Place) (v : Val) (t : Tree)
    → change_at here (λ old. whole v) (change_at here (λ old. whole v) t) ≡ change_at here (λ old. whole v) t
twice [] v t = refl
twice (i ∷ here) v t =
    child_after i (λ child. change_at here (λ old. whole v) child) (λ child. change_at here (λ old. whole v) child)
    (λ child. change_at here (λ old. whole v) child) t (λ u. twice here v u)

-- what stands at a place that is changed
stands_there : (mode : Mode) (here : Place) (t : Tree) (change : Tree → Tree) → Leads mode here t
    → tree_at here (change_at here change t) ≡ change (tree_at here t)
stands_there mode [] t change leads = refl
stands_there mode (i ∷ here) (begun tracker ts) change leads =
    ap (tree_at here)
    (changed_nth i (λ child. change_at here change child) ts (leads_within mode i (λ child. Leads mode here child) ts leads))
    ∙ stands_there mode here _ change (leads_child mode i (λ child. Leads mode here child) ts leads)
stands_there mode (i ∷ here) _ change leads = absurd leads

-- and of which shape is a child of it
shape_on : (mode : Mode) (table : Table) (s : ℕ) (here : Place) (i : ℕ) (t : Tree) (change : Tree → Tree) → Leads mode here t
    → shape_in table s (here ++ i ∷ []) (change_at here change t)
    ≡ shape_below table (shape_in table s here t) i (change (tree_at here t))
shape_on mode table s [] i t change leads = refl
shape_on mode table s (j ∷ here) i (begun tracker ts) change leads =
    ap (shape_in table _ (here ++ i ∷ []))
    (changed_nth j (λ child. change_at here change child) ts (leads_within mode j (λ child. Leads mode here child) ts leads))
    ∙ shape_on mode table _ here i _ change (leads_child mode j (λ child. Leads mode here child) ts leads)
shape_on mode table s (j ∷ here) i _ change leads = absurd leads

-- a place below another, and the way back

up_again : (here : Place) (i : ℕ) → up (here ++ i ∷ []) ≡ here
up_again [] i = refl
up_again (j ∷ []) i = refl
up_again (j ∷ k ∷ here) i = ap (λ (place : Place). j ∷ place) (up_again (k ∷ here) i)

not_root : (here : Place) (i : ℕ) → is_root (here ++ i ∷ []) ≡ false
not_root [] i = refl
not_root (j ∷ here) i = refl

deeper : (start : ℕ) (here : Place) (i : ℕ) → start ≤ length here → nat_lt start (length (here ++ i ∷ [])) ≡ true
deeper start here i began = lt-ltb start (length (here ++ i ∷ [])) (rw (length-append here (i ∷ [])) (omega (arith, began)))

-- the field may be entered

record MayEnter (def : Def) (t : Tree) (i : ℕ) : Type 0 where
  by_number : field_refusal def t i ≡ None
  by_name : named_refusal def t ≡ None

may_enter : (def : Def) (t : Tree) (i : ℕ) (field : Field) → field_in def (selected t) i ≡ Some field → MayEnter def t i
may_enter def t i field e = go def _ refl e
  where
    go : (def : Def) (chosen : Option ℕ) → selected t ≡ chosen → field_in def chosen i ≡ Some field → MayEnter def t i
    go (Def.Struct struct) None is e = record { by_number = rw (lt-ltb i _ (get_below struct.fields i field e)) refl; by_name = refl }
    go (Def.Struct struct) (Some k) is e = cc
    go (Def.Enum enumeration) (Some k) is e = record {
      by_number = rw (is, lt-ltb i _ (of_variant_below (slice_get enumeration.variants k) i field e)) refl;
      by_name = rw is refl;
    }
    go _ None is e = cc
    go _ chosen is e = cc

own_shape : (table : Table) (s given : ℕ) (state : State) (v : Val) → s ≡ given → set table s state given v ≡ Ok (puts state v)
own_shape table s given state v same = go _
  where
    go : (b : Bool) → (if b then set_dynamic table s state given v else unless_refused (set_refusal table s given) (puts state v))
        ≡ Ok (puts state v)
    go true = rw (eq-eqb s given same) refl
    go false = rw (eq-eqb s given same) refl

-- what has fields is neither a set nor a dynamic value
fields_alone : (def : Def) (tracker : Tracker) (n : ℕ) (chosen : Option ℕ) (i : ℕ) (field : Field)
    → field_in def chosen i ≡ Some field → IsFullAs def tracker n → (is_set_tracker tracker ≡ false) × (is_dynamic_tracker tracker ≡ false)
fields_alone (Def.Struct struct) (as_fields None) n chosen i field e full_as = (refl, refl)
fields_alone (Def.Struct struct) (as_content kind) n chosen i field e full_as = (refl, refl)
fields_alone (Def.Struct struct) _ n chosen i field e full_as = absurd full_as
fields_alone (Def.Enum enumeration) (as_fields (Some k)) n chosen i field e full_as = (refl, refl)
fields_alone (Def.Enum enumeration) (as_content kind) n chosen i field e full_as = (refl, refl)
fields_alone (Def.Enum enumeration) _ n chosen i field e full_as = absurd full_as
fields_alone _ tracker n chosen i field e full_as = cc

module _ (hooks : Meanings) (table : Table) (root : ℕ) (state : State) (i : ℕ) (field : Field) (v : Val)
    (order : IsInOrder table root state)
    (is : field_in (def_of table (cursor_shape table root state)) (selected (cursor_tree state)) i ≡ Some field)
    (value : field_default table field ≡ Ok v) where
  abbrev here : ℕ
  here = cursor_shape table root state

  abbrev below : Place
  below = state.cursor ++ i ∷ []

  abbrev inside : State
  inside = enters table here state (Way.Child i)

  abbrev put : State
  put = puts inside v

  abbrev base : Tree
  base = started table root state

  at_here : AtCursor state.mode base
  at_here = without_source_at state.mode _ _ (at_cursor state.mode state.cursor state.tree order.leads)

  suits_here : Suits table here base
  suits_here = without_source_suits table _ _ (suits_at state.mode table root state.cursor state.tree order.leads order.suits)

  there : FieldThere table here i base field
  there =
      field_there table here i base field (without_source_apart _ _) suits_here
      (ap (λ (chosen : Option ℕ). field_in (def_of table here) chosen i) (without_source_selects _ (cursor_tree state)) ∙ is)

  place : Opening state.mode table here i (tracker_at (def_of table here) base) base
  place = opening state.mode table here i base there.enterable at_here suits_here

  may : MayEnter (def_of table here) (cursor_tree state) i
  may = may_enter (def_of table here) (cursor_tree state) i field is

  inside_in_order : IsInOrder table root inside
  inside_in_order = begun_in_order table root state i there.enterable order

  -- the field has its own shape
  inside_shape : cursor_shape table root inside ≡ field.shape.0
  inside_shape =
      shape_on state.mode table root state.cursor i state.tree (entered_on table here (Way.Child i)) order.leads
      ∙ ap (λ (u : Tree). shape_below table here i
      (change_child i (enter (def_of table (child_as table here (tracker_at (def_of table here) base) i))) u)) place.is
      ∙ there.shape

  enters_it : step hooks table root state (Call.BeginNthField i) ≡ Ok inside
  enters_it = ap (λ (refusal : Option Operation). unless_refused (at_shape here refusal) inside) may.by_number

  sets_it : step hooks table root inside (Call.Set field.shape.0 v) ≡ Ok put
  sets_it = own_shape table (cursor_shape table root inside) field.shape.0 inside v inside_shape

  put_tree : cursor_tree put ≡ whole v
  put_tree = stands_there state.mode below inside.tree (λ old. whole v) inside_in_order.leads

  -- entering the field, and putting the value, is putting it there
  same_tree : change_at state.cursor (put_child (def_of table here) i v) state.tree ≡ put.tree
  same_tree =
      sym (change_after state.cursor (i ∷ []) (entered_on table here (Way.Child i)) (λ old. whole v) (put_child (def_of table here) i v)
      state.tree (λ u. child_after i
      (enter (def_of table (child_as table here (tracker_at (def_of table here) (without_source (def_of table here) u)) i)))
      (λ old. whole v) (λ old. whole v) (opened (def_of table here) (without_source (def_of table here) u)) (λ child. refl)))

  -- what stands above it
  above_it : tree_at (up below) put.tree
      ≡ begun (tracker_at (def_of table here) base) (change_nth i (λ old. whole v) place.children)
  above_it =
      ap (λ (way : Place). tree_at way put.tree) (up_again state.cursor i) ∙ ap (tree_at state.cursor) (sym same_tree)
      ∙ stands_there state.mode state.cursor state.tree (put_child (def_of table here) i v) order.leads
      ∙ ap (change_child i (λ old. whole v)) place.is

  alone : (is_set_item put ≡ false) × (is_dynamic_part put ≡ false)
  alone =
      let tracker = fields_alone (def_of table here) (tracker_at (def_of table here) base) _
      (selected (cursor_tree state)) i field is place.begun_as.0 in
      (ap is_set above_it ∙ tracker.0, ap is_begun_dynamic above_it ∙ tracker.1)

  no_source : is_source_place put ≡ false
  no_source = ap is_begun_conversion above_it ∙ place.apart

  ends_it : (mode : Mode) → BeganAbove mode state.cursor → AreSameButCalls (Ok (record (puts_child table here state i v) { mode = mode }))
      (end_in hooks table root (cursor_shape table root put) (record put { mode = mode }) mode)
  ends_it strict began =
      subst (λ (of_set : Bool). AreSameButCalls (Ok (record (puts_child table here state i v) { mode = strict }))
      (if of_set then ends_item strict_column hooks table (cursor_shape table root put) (record put { mode = strict })
      else if is_source_place put then ends_source hooks table root (record put { mode = strict })
      else ended hooks table (cursor_shape table root put) (record put { mode = strict })
      (complete strict_column hooks table (cursor_shape table root put) (cursor_tree put)))) (sym alone.0)
      (subst (λ (source : Bool). AreSameButCalls (Ok (record (puts_child table here state i v) { mode = strict }))
      (if source then ends_source hooks table root (record put { mode = strict })
      else ended hooks table (cursor_shape table root put) (record put { mode = strict })
      (complete strict_column hooks table (cursor_shape table root put) (cursor_tree put)))) (sym no_source)
      (subst (λ (made : Option Val). AreSameButCalls (Ok (record (puts_child table here state i v) { mode = strict }))
      (ended hooks table (cursor_shape table root put) (record put { mode = strict }) made))
      (sym (ap (complete strict_column hooks table (cursor_shape table root put)) put_tree))
      (same_tree ∙ sym (twice below v inside.tree), sym (up_again state.cursor i), refl)))
  ends_it (deferred start) began =
      subst (λ (b : Bool). AreSameButCalls (Ok (record (puts_child table here state i v) { mode = deferred start })) (if b then
      (if is_set_item put then
      ends_item deferred_column hooks table (cursor_shape table root put) (record put { mode = deferred start })
      else leaves_deferred hooks table (cursor_shape table root put) (record put { mode = deferred start }) (is_dynamic_part put))
      else Err (violates Invariant.EndAtStart))) (sym (deeper start state.cursor i began)) (subst (λ (of_set : Bool).
      AreSameButCalls (Ok (record (puts_child table here state i v) { mode = deferred start })) (if of_set then
      ends_item deferred_column hooks table (cursor_shape table root put) (record put { mode = deferred start })
      else leaves_deferred hooks table (cursor_shape table root put) (record put { mode = deferred start }) (is_dynamic_part put)))
      (sym alone.0) (subst (λ (of_part : Bool).
      AreSameButCalls (Ok (record (puts_child table here state i v) { mode = deferred start }))
      (leaves_deferred hooks table (cursor_shape table root put) (record put { mode = deferred start }) of_part))
      (sym alone.1) (same_tree, sym (up_again state.cursor i), refl)))

  leaves_it : AreSameButCalls (Ok (puts_child table here state i v)) (step hooks table root put Call.End)
  leaves_it =
      subst (λ (u : Tree). AreSameButCalls (Ok (puts_child table here state i v))
      (if is_open_slice u then closes_slice hooks table (cursor_shape table root put) put put.mode
      else leaves_place hooks table root (cursor_shape table root put) put)) (sym put_tree)
      (subst (λ (b : Bool). AreSameButCalls (Ok (puts_child table here state i v))
      (if b then Err (violates Invariant.EndAtRoot) else end_in hooks table root (cursor_shape table root put) put put.mode))
      (sym (not_root state.cursor i)) (ends_it state.mode order.began))

  defaults_it : step hooks table root state (Call.SetNthFieldToDefault i) ≡ Ok (puts_child table here state i v)
  defaults_it =
      ap (λ (refusal : Option Operation). defaults_field table here state i (at_shape here refusal)
      (field_in (def_of table here) (selected (cursor_tree state)) i)) may.by_name
      ∙ ap (λ (found : Option Field). defaults_field table here state i None found) is
      ∙ ap (λ (made : Result Val ReflectErrorKind). puts_child_default table here state i made) value

  pub default_is_three_calls : AreSameButCalls (step hooks table root state (Call.SetNthFieldToDefault i))
      (three_calls hooks table root state i field.shape.0 v)
  default_is_three_calls =
      subst (λ (outcome : Result State ReflectErrorKind). AreSameButCalls outcome
      (three_calls hooks table root state i field.shape.0 v)) (sym defaults_it)
      (subst (λ (outcome : Result State ReflectErrorKind). AreSameButCalls (Ok (puts_child table here state i v))
      (and_step hooks table root (and_step hooks table root outcome (Call.Set field.shape.0 v)) Call.End)) (sym enters_it)
      (subst (λ (outcome : Result State ReflectErrorKind). AreSameButCalls (Ok (puts_child table here state i v))
      (and_step hooks table root outcome Call.End)) (sym sets_it) leaves_it))

module _ (table : Table) (s : ℕ) (state : State) (tree : Tree) (i : ℕ) (kind : ReflectErrorKind) where
  -- what the call does, by the refusal of naming a field and by the field that is found
  abbrev told : Option Operation → Option Field → Result State ReflectErrorKind
  told refusal found = defaults_field table s state i (at_shape s refusal) found

  abbrev is_told : Result State ReflectErrorKind
  is_told = told (named_refusal (def_of table s) tree) (field_in (def_of table s) (selected tree) i)

  default_refused : (made : Result Val ReflectErrorKind) → puts_child_default table s state i made ≡ Err kind → made ≡ Err kind
  default_refused (Ok v) e = cc
  default_refused (Err other) e = cc

  pub why_refused : is_told ≡ Err kind → HasNoDefault table s tree i kind
  why_refused e = go _ _ refl refl e
    where
      go : (refusal : Option Operation) (found : Option Field) → named_refusal (def_of table s) tree ≡ refusal
          → field_in (def_of table s) (selected tree) i ≡ found → told refusal found ≡ Err kind → HasNoDefault table s tree i kind
      go (Some operation) found unnamed there is =
          let same : operation_failed s operation ≡ kind = cc in names_none (ap (at_shape s) unnamed ∙ ap Some same)
      go None None named there is =
          let same : operation_failed s Operation.FieldIndexOutOfBounds ≡ kind = cc in no_such_field named there (sym same)
      go None (Some field) named there is = no_default field named there (default_refused (field_default table field) is)

  pub refused_so : HasNoDefault table s tree i kind → is_told ≡ Err kind
  refused_so (names_none unnamed) =
      ap (λ (refusal : Option ReflectErrorKind). defaults_field table s state i refusal
      (field_in (def_of table s) (selected tree) i)) unnamed
  refused_so (no_such_field named missing same) = ap₂ told named missing ∙ ap Err (sym same)
  refused_so (no_default field named there default) = ap₂ told named there ∙ ap (puts_child_default table s state i) default

pub sets_to_default : DefaultIsThreeCalls
sets_to_default hooks table root state i = record {
  default = λ field v order there value. default_is_three_calls hooks table root state i field v order there value;
  none = λ kind. (why_refused table _ state _ i kind, refused_so table _ state _ i kind);
}
