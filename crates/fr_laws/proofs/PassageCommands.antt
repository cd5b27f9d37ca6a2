-- Each orderly command but `end` does the same to two places that look the same, or is refused at both.
use Rattle.std.proofs.Common.{◌≡◌, ◌<◌, ◌∷◌, ◌||◌, ◌⊎◌, inl, inr, if◌then◌else◌}
use Rattle.std.proofs.lemmas.Option.{slice_get_within}
use Rattle.fr_model.proofs.Common.{ℕ, Bool, true, false, List, [], length, nat_le, Option, Some, None, Result, Ok, Err, unwrap_or, option_or, refl, sym, ◌∙◌, ap, ap₂, subst, arith, Def, VariantDef, Field, ShapeId, Operation, ReflectErrorKind, is_dynamic, is_option, preset_of, slice_get, Table, def_of, field_in, variants_of, Val, Place, array_limit, count_children, Tracker, as_fields, as_elements, as_content, as_items, as_entries, ContentKind, ItemsKind, EntriesKind, is_conversion, selected, Tree, hole, entered, whole, begun, Trees, no_trees, branch, tree_nth, change_nth, change_child, change_at, count_trees, child_as, holes, fresh, tracker_of, tracker_at, without_source, opened, enter, enter_child, put_child, content_anew, Mode, strict, deferred, State, cursor_tree, one_more_call, Way, enters, puts, puts_default, becomes, opens, begins_array, is_hole, named_refusal, field_default, at_shape, unless_refused, init_list_refusal, init_map_refusal, init_set_refusal, init_array_refusal, is_open_slice, kept_option, pointer_refusal, points_to_slice, pointee_refusal, shared_slice_refusal, selection_refusal, has_discriminant, variant_fields, fields_or_none, variant_anew, slice_anew, kept_so, kept_in, kept_slice, is_result, is_enum, field_found, HasContent, HasFieldsOf, HasFields, PointsTo, TakesItemsAs, IsFullAs, is_closed_slice}
use Rattle.fr_model.proofs.Basis.{count_holes}
use Rattle.fr_model.proofs.Children.{ChildOf, field_of, element_of, variant_field_of, ChildCase, a_child, a_variant_child, no_child, child_case, OnlyOfEnum, NamedCase, a_named, a_variant_named, no_such_name, no_names, named_case}
use Rattle.fr_model.proofs.Opening.{begun_fields, begun_elements, begun_variant}
use Rattle.fr_laws.proofs.PassageTrees.{IsStraight, IsRightAs, IsRight}
use Rattle.fr_laws.proofs.PassageSides.{is_pointer}
use Rattle.fr_laws.proofs.PassageSteps.{LookSame, AllHoles, Put, as_fresh, as_value, both_enter, both_stay, unless, Does, nothing, values, begins, fills_one, BothDo, nth_same, nth_holes, no_nth, one_hole, is_a_hole, is_entered_is, entered_too, selected_same, refused_same, named_same}
use Rattle.fr_laws.specs.Passage.{is_hole_in, enters_hole, enters_found_hole, is_entered, may_begin_list}
use Rattle.fr_model.specs.Step.{begin_nth_field, begin_field, set_nth_field_to_default, set, set_default, set_refusal, puts_parsed, set_empty_shared_slice, init_list, init_array, init_map, init_set, begin_some, begin_side, begin_smart_ptr, select, select_found, selects, puts_child_default}
use Rattle.fr_model.specs.Collections.{unless_map, unless_set}
use Rattle.fr_model.specs.Items.{unless_list}
use Rattle.fr_model.specs.Refusals.{was_not_a}
use Rattle.fr_shape.specs.declared.error.Expected.{Expected}
use Rattle.fr_shape.specs.Hooks.{Meaning, gives, refuses, unsupported}

pub not_conversion : (table : Table) (s : ℕ) (tracker : Tracker) → IsStraight table s tracker → is_conversion tracker ≡ false
not_conversion table s (as_content (ContentKind.Source conversion)) straight = absurd straight
not_conversion table s (as_content ContentKind.Some) straight = refl
not_conversion table s (as_content ContentKind.Ok) straight = refl
not_conversion table s (as_content ContentKind.Err) straight = refl
not_conversion table s (as_content ContentKind.Pointer) straight = refl
not_conversion table s (as_fields selected) straight = refl
not_conversion table s as_elements straight = refl
not_conversion table s (as_items kind) straight = refl
not_conversion table s (as_entries kind) straight = refl

pub no_source : (table : Table) (s : ℕ) (t : Tree) → IsRight table s t → without_source (def_of table s) t ≡ t
no_source table s hole right = refl
no_source table s entered right = refl
no_source table s (whole v) right = refl
no_source table s (begun tracker ts) right =
    ap (λ (b : Bool). if b then fresh (def_of table s) else begun tracker ts) (not_conversion table s tracker right.1)

only_of_enum : (table : Table) (s : ℕ) (t : Tree) → IsRight table s t → OnlyOfEnum (def_of table s) t
only_of_enum table s t right = go (def_of table s) t refl right
  where
    none : (def : Def) (t : Tree) → selected t ≡ None → OnlyOfEnum def t
    none (Def.Enum enumeration) t is = tt
    none _ t is = is

    of_begun : (def : Def) (tracker : Tracker) (ts : Trees) → IsFullAs def tracker (count_trees ts) → OnlyOfEnum def (begun tracker ts)
    of_begun (Def.Enum enumeration) tracker ts full_as = tt
    of_begun _ (as_fields (Some k)) ts full_as = absurd full_as
    of_begun _ _ ts full_as = refl

    go : (def : Def) (t : Tree) → def_of table s ≡ def → IsRight table s t → OnlyOfEnum def t
    go def (begun tracker ts) is right = of_begun def tracker ts (subst (λ (one : Def). IsFullAs one tracker (count_trees ts)) is right.0)
    go def hole is right = absurd right
    go def entered is right = none def entered refl
    go def (whole v) is right = none def (whole v) refl

-- the child is there
child_below : (def : Def) (i : ℕ) (tracker : Tracker) (ts : Trees) → ChildOf def i (begun tracker ts) → is_conversion tracker ≡ false
    → IsFullAs def tracker (count_trees ts) → i < count_trees ts
child_below def i tracker ts (field_of struct is below) apart full_as =
    omega (arith, below, begun_fields struct tracker _ apart (rw is at full_as))
child_below def i tracker ts (element_of item n is below few not_whole) apart full_as =
    omega (arith, below, begun_elements item n tracker _ apart (rw is at full_as))
child_below def i (as_fields (Some j)) ts (variant_field_of k enumeration is chosen below) apart full_as =
    let same : j ≡ k = cc in
    let count : count_trees ts ≡ length _ = subst (λ (n : ℕ). count_trees ts ≡ length (variant_fields def n)) same
    (begun_variant def j (count_trees ts) full_as) in
    omega (arith, below, count)
child_below def i _ ts (variant_field_of k enumeration is chosen below) apart full_as = cc

-- an entered place that has the child is begun with it
entered_right : (table : Table) (s i : ℕ) → ChildOf (def_of table s) i entered
    → IsRightAs table s (tracker_of (def_of table s)) (count_trees (holes (count_children (def_of table s))))
    × (i < count_trees (holes (count_children (def_of table s))))
entered_right table s i (field_of struct is below) =
    let count = count_holes (length struct.fields) in rw is ((count, tt), omega (arith, count, below))
entered_right table s i (element_of item n is below few not_whole) =
    let count = count_holes n in rw is ((count, tt), omega (arith, count, below))
entered_right table s i (variant_field_of k enumeration is chosen below) = cc

no_pointer_child : (def : Def) (i : ℕ) (t : Tree) → ChildOf def i t → is_pointer def ≡ true → ⊥
no_pointer_child def i t (field_of struct is below) pointer = let none = rw is at pointer in cc
no_pointer_child def i t (element_of item n is below few not_whole) pointer = let none = rw is at pointer in cc
no_pointer_child def i t (variant_field_of k enumeration is chosen below) pointer = let none = rw is at pointer in cc

tracker_shut : (def : Def) → is_closed_slice (tracker_of def) ≡ false
tracker_shut (Def.Array item n) = refl
tracker_shut (Def.List item) = refl
tracker_shut (Def.Map key item) = refl
tracker_shut (Def.Set item) = refl
tracker_shut (Def.Scalar kind) = refl
tracker_shut Def.Str = refl
tracker_shut Def.Opaque = refl
tracker_shut (Def.Struct struct) = refl
tracker_shut (Def.Enum enumeration) = refl
tracker_shut (Def.Option item) = refl
tracker_shut (Def.Result one other) = refl
tracker_shut (Def.Pointer pointer) = refl
tracker_shut (Def.Slice item) = refl
tracker_shut Def.Dynamic = refl
tracker_shut Def.Undefined = refl
tracker_shut Def.Other = refl

pub takes_pointer : (def : Def) → TakesItemsAs def ItemsKind.ClosedSlice → is_pointer def ≡ true
takes_pointer (Def.Pointer pointer) takes = refl
takes_pointer _ takes = absurd takes

-- a closed pointer to a slice has no such child
child_shut : (def : Def) (tracker : Tracker) (ts : Trees) (i : ℕ) → ChildOf def i (begun tracker ts) → IsFullAs def tracker (count_trees ts)
    → is_closed_slice tracker ≡ false
child_shut def (as_items ItemsKind.ClosedSlice) ts i child full = absurd (no_pointer_child def i _ child (takes_pointer def full))
child_shut def (as_items ItemsKind.List) ts i child full = refl
child_shut def (as_items ItemsKind.Slice) ts i child full = refl
child_shut def (as_items ItemsKind.Set) ts i child full = refl
child_shut def (as_items ItemsKind.Array) ts i child full = refl
child_shut def (as_fields chosen) ts i child full = refl
child_shut def as_elements ts i child full = refl
child_shut def (as_content kind) ts i child full = refl
child_shut def (as_entries kind) ts i child full = refl

-- what is put in where the child was a hole: entered, or a value
pub put_does : (table : Table) (s i : ℕ) (way : Place) (f : Tree → Tree) (x t u : Tree) → LookSame (def_of table s) t u
    → IsRight table s t → IsRight table s u → ChildOf (def_of table s) i t
    → is_hole_in i t ≡ true → f hole ≡ x → ((tracker : Tracker) → tracker_at (def_of table s) t ≡ tracker → Put table s tracker i way x)
    → Does table s t u way (change_child i f (opened (def_of table s) t)) (change_child i f (opened (def_of table s) u))
put_does table s i way f x entered entered look right right' child is_hole_there becomes put =
    let def = def_of table s in
    let there = entered_right table s i child in
    let same : change_nth i f (holes (count_children def)) ≡ change_nth i (λ old. x) (holes (count_children def))
    = nth_same i f (λ old. x) _ (ap f (nth_holes i (count_children def)) ∙ becomes) in
    let is = ap (begun (tracker_of def)) same in
    fills_one (tracker_of def) (holes (count_children def)) (holes (count_children def)) i x (tracker_shut def)
    (inl (refl, refl, (λ j. nth_holes j (count_children def)), refl)) there.0 there.1 (nth_holes i (count_children def)) (nth_holes i (count_children def))
    (put (tracker_of def) refl) is is
put_does table s i way f x (begun tracker ts) (begun other us) look right right' child is_hole_there becomes put =
    let at : tree_nth i ts ≡ hole = is_a_hole _ is_hole_there in
    let at' : tree_nth i us ≡ hole = is_a_hole _ (sym (look.1.each i) ∙ is_hole_there) in
    fills_one tracker ts us i x (child_shut (def_of table s) tracker ts i child right.0) (inr (refl, ap (λ (one : Tracker). begun one us) (sym look.0))) right
    (child_below (def_of table s) i tracker ts child (not_conversion table s tracker right.1) right.0) at at' (put tracker refl)
    (ap (begun tracker) (nth_same i f (λ old. x) ts (ap f at ∙ becomes)))
    (ap₂ (λ (one : Tracker) (ws : Trees). begun one ws) (sym look.0) (nth_same i f (λ old. x) us (ap f at' ∙ becomes)))
put_does table s i way f x hole u look right right' child is_hole_there becomes put = absurd right
put_does table s i way f x (whole v) u look right right' child is_hole_there becomes put = cc
put_does table s i way f x entered hole look right right' child is_hole_there becomes put = absurd look
put_does table s i way f x entered (whole v) look right right' child is_hole_there becomes put = absurd look
put_does table s i way f x entered (begun other us) look right right' child is_hole_there becomes put = absurd look
put_does table s i way f x (begun tracker ts) hole look right right' child is_hole_there becomes put = absurd look
put_does table s i way f x (begun tracker ts) entered look right right' child is_hole_there becomes put = absurd look
put_does table s i way f x (begun tracker ts) (whole v) look right right' child is_hole_there becomes put =
    let at : is_hole (tree_nth i ts) ≡ true = is_hole_there in
    absurd (no_child_of (def_of table s) child look.1)
  where
    no_child_of : (def : Def) → ChildOf def i (begun tracker ts) → is_pointer def ≡ true → ⊥
    no_child_of def (field_of struct is below) pointer = let none = rw is at pointer in cc
    no_child_of def (element_of item n is below few not_whole) pointer = let none = rw is at pointer in cc
    no_child_of def (variant_field_of k enumeration is chosen below) pointer = let none = rw is at pointer in cc

tracker_same : (def : Def) (i : ℕ) (t u : Tree) → LookSame def t u → ChildOf def i t → is_hole_in i t ≡ true
    → tracker_at def u ≡ tracker_at def t
tracker_same def i entered entered look child there = refl
tracker_same def i (begun tracker ts) (begun other us) look child there = sym look.0
tracker_same def i (begun tracker ts) (whole v) look child there = absurd (no_pointer_child def i _ child look.1)
tracker_same def i (whole v) u look child there = cc
tracker_same def i hole u look child there = absurd look
tracker_same def i _ _ look child there = absurd look

-- a field that is declared is a child
field_child : (def : Def) (t : Tree) (i : ℕ) (field : Field) → OnlyOfEnum def t → named_refusal def t ≡ None
    → field_in def (selected t) i ≡ Some field → ChildOf def i t
field_child (Def.Struct struct) t i field only none is =
    let at : slice_get struct.fields i ≡ Some field = rw only at is in field_of struct refl (slice_get_below struct.fields i field at)
  where
    slice_get_below : (fields : List Field) (i : ℕ) (field : Field) → slice_get fields i ≡ Some field → i < length fields
    slice_get_below fields i field is = slice_get_within fields i field is
field_child (Def.Enum enumeration) t i field only none is = go (selected t) refl is
  where
    of_variant : (found : Option VariantDef) (k : ℕ) → slice_get enumeration.variants k ≡ found → selected t ≡ Some k
        → field_in (Def.Enum enumeration) (Some k) i ≡ Some field → ChildOf (Def.Enum enumeration) i t
    of_variant (Some variant) k found chosen is =
        let at : slice_get variant.fields i ≡ Some field = rw found at is in
        variant_field_of k enumeration refl chosen (rw found (slice_get_within variant.fields i field at))
    of_variant None k found chosen is = let none = rw found at is in cc

    go : (chosen : Option ℕ) → selected t ≡ chosen → field_in (Def.Enum enumeration) chosen i ≡ Some field → ChildOf (Def.Enum enumeration) i t
    go (Some k) chosen is = of_variant (slice_get enumeration.variants k) k refl chosen is
    go None chosen is = cc
field_child _ t i field only none is = cc

kept_none : (mode : Mode) (tracker : Tracker) → kept_in mode tracker entered ≡ None
kept_none strict tracker = refl
kept_none (deferred start) tracker = refl

slice_none : (mode : Mode) → kept_slice mode entered ≡ None
slice_none strict = refl
slice_none (deferred start) = refl

-- a pointer that may be begun
pub pointer_is : (table : Table) (def : Def) → pointer_refusal table def ≡ None
    → TakesItemsAs def ItemsKind.Slice × HasContent def ContentKind.Pointer 1
pointer_is table (Def.Pointer pointer) none = (tt, go pointer.constructible pointer.pointee none)
  where
    go : (constructible : Bool) (pointee : Option ShapeId)
        → (if constructible then pointee_refusal table pointer.known pointee else Some Operation.PointerNotConstructible) ≡ None → PointsTo pointee 1
    go true (Some target) none = refl
    go true None none = cc
    go false pointee none = cc
pointer_is table _ none = cc

selected_right : (def : Def) (k : ℕ) → is_enum def ≡ true → selection_refusal def k ≡ None → HasFields def (Some k) (length (variant_fields def k))
selected_right (Def.Enum enumeration) k is none = go (slice_get enumeration.variants k) _ none
  where
    go : (found : Option VariantDef) (layout : Option Operation)
        → option_or layout (if has_discriminant found then None else Some Operation.VariantWithoutDiscriminant) ≡ None
        → HasFieldsOf found (length (fields_or_none found))
    go (Some variant) layout none = refl
    go None (Some operation) none = cc
    go None None none = cc
selected_right _ k is none = cc

option_right : (def : Def) → is_option def ≡ true → HasContent def ContentKind.Some 1
option_right (Def.Option item) is = refl
option_right _ is = cc

result_right : (def : Def) → is_result def ≡ true → HasContent def ContentKind.Ok 1 × HasContent def ContentKind.Err 1
result_right (Def.Result one other) is = (refl, refl)
result_right _ is = cc

pub open_too : (def : Def) (t u : Tree) → LookSame def t u → is_open_slice t ≡ true → is_open_slice u ≡ true
open_too def (begun tracker ts) (begun other us) look is = subst (λ (one : Tracker). is_open_slice (begun one us) ≡ true) look.0 (go tracker is)
  where
    go : (tracker : Tracker) → is_open_slice (begun tracker ts) ≡ true → is_open_slice (begun tracker us) ≡ true
    go (as_items ItemsKind.Slice) is = refl
    go _ is = cc
open_too def (begun tracker ts) (whole v) look is = let none = rw look.0 at is in cc
open_too def hole u look is = cc
open_too def entered u look is = cc
open_too def (whole v) u look is = cc
open_too def (begun tracker ts) hole look is = absurd look
open_too def (begun tracker ts) entered look is = absurd look

open_list : (s : ℕ) (def : Def) (t : Tree) → is_open_slice t ≡ true → (init_list_refusal s def t ≡ None) × (opened def t ≡ t)
open_list s def (begun (as_items ItemsKind.Slice) ts) is = (refl, refl)
open_list s def (begun _ ts) is = cc
open_list s def _ is = cc

either : (a b : Bool) → (a || b) ≡ true → (a ≡ true) ⊎ (b ≡ true)
either true b e = inl refl
either false b e = inr e

module _ (table : Table) (s : ℕ) (one other : State)
    (look : LookSame (def_of table s) (cursor_tree one) (cursor_tree other))
    (right : IsRight table s (cursor_tree one)) (right' : IsRight table s (cursor_tree other))
    (static : is_dynamic (def_of table s) ≡ false) where
  abbrev def : Def
  def = def_of table s

  abbrev t : Tree
  t = cursor_tree one

  abbrev u : Tree
  u = cursor_tree other

  abbrev Both : Result State ReflectErrorKind → Result State ReflectErrorKind → Type 0
  Both = BothDo table s one other

  -- a field or an element

  child_does : (i : ℕ) → ChildOf def i t → is_hole_in i t ≡ true → Does table s t u (i ∷ []) (enter_child table s i t) (enter_child table s i u)
  child_does i child there =
      subst (λ (tracker : Tracker). Does table s t u (i ∷ []) (enter_child table s i t) (change_child i (enter (def_of table (child_as table s tracker i))) (opened def u)))
      (sym (tracker_same def i t u look child there))
      (put_does table s i (i ∷ []) (enter (def_of table (child_as table s (tracker_at def t) i))) (fresh (def_of table (child_as table s (tracker_at def t) i)))
      t u look right right' child there refl
      (λ tracker e. as_fresh refl (ap (λ (known : Tracker). fresh (def_of table (child_as table s known i))) e)))

  both_children : (i : ℕ) → ChildOf def i t → is_hole_in i (without_source def t) ≡ true
      → Both (Ok (enters table s one (Way.Child i))) (Ok (enters table s other (Way.Child i)))
  both_children i child there =
      let plain : without_source def t ≡ t = no_source table s t right in
      let plain' : without_source def u ≡ u = no_source table s u right' in
      both_enter table s one other (Way.Child i) (Way.Child i) i (enter_child table s i t) (enter_child table s i u) refl refl
      (ap (enter_child table s i) plain) (ap (enter_child table s i) plain') (child_does i child (subst (λ (w : Tree). is_hole_in i w ≡ true) plain there))

  pub nth_does : (i : ℕ) → enters_hole table s one i ≡ true → Both (begin_nth_field table s one i) (begin_nth_field table s other i)
  nth_does i there = go (child_case def i t)
    where
      go : ChildCase def i t → Both (begin_nth_field table s one i) (begin_nth_field table s other i)
      go (a_child child none may) = rw (none, sym (refused_same def t u i look) ∙ none) (both_children i child there)
      go (a_variant_child k child none is) = rw (none, sym (refused_same def t u i look) ∙ none) (both_children i child there)
      go (no_child operation some may) = rw (some, sym (refused_same def t u i look) ∙ some) tt

  pub named_does : (name : List ℕ) → enters_found_hole table s one (field_found name def (selected t)) ≡ true
      → Both (begin_field table s one name) (begin_field table s other name)
  named_does name there = go (named_case name def t (only_of_enum table s t right))
    where
      found_too : field_found name def (selected u) ≡ field_found name def (selected t)
      found_too = ap (field_found name def) (sym (selected_same def t u look))

      go : NamedCase name def t → Both (begin_field table s one name) (begin_field table s other name)
      go (a_named i child none found declared may) =
          rw (none, sym (named_same def t u look) ∙ none, found, found_too ∙ found) (both_children i child (rw found at there))
      go (a_variant_named i k child none found is) =
          rw (none, sym (named_same def t u look) ∙ none, found, found_too ∙ found) (both_children i child (rw found at there))
      go (no_such_name none found declared) = rw (none, sym (named_same def t u look) ∙ none, found, found_too ∙ found) tt
      go (no_names operation some declared) = rw (some, sym (named_same def t u look) ∙ some) tt

  pub default_does : (i : ℕ) → enters_hole table s one i ≡ true → Both (set_nth_field_to_default table s one i) (set_nth_field_to_default table s other i)
  default_does i there = go (named_refusal def t) (field_in def (selected t) i) refl refl
    where
      found_too : field_in def (selected u) i ≡ field_in def (selected t) i
      found_too = ap (λ (chosen : Option ℕ). field_in def chosen i) (sym (selected_same def t u look))

      by_value : ChildOf def i t → (value : Result Val ReflectErrorKind)
          → Both (puts_child_default table s one i value) (puts_child_default table s other i value)
      by_value child (Err kind) = tt
      by_value child (Ok v) =
          let plain : without_source def t ≡ t = no_source table s t right in
          let plain' : without_source def u ≡ u = no_source table s u right' in
          both_stay table s one other (put_child def i v) (put_child def i v) _ _
          (ap (λ (w : Tree). change_child i (λ old. whole v) (opened def w)) plain)
          (ap (λ (w : Tree). change_child i (λ old. whole v) (opened def w)) plain')
          (put_does table s i [] (λ old. whole v) (whole v) t u look right right' child (subst (λ (w : Tree). is_hole_in i w ≡ true) plain there) refl
          (λ tracker e. as_value v refl refl))

      go : (refusal : Option Operation) (found : Option Field) → named_refusal def t ≡ refusal → field_in def (selected t) i ≡ found
          → Both (set_nth_field_to_default table s one i) (set_nth_field_to_default table s other i)
      go (Some operation) found some is = rw (some, sym (named_same def t u look) ∙ some) tt
      go None None none is = rw (none, sym (named_same def t u look) ∙ none, is, found_too ∙ is) tt
      go None (Some field) none is =
          rw (none, sym (named_same def t u look) ∙ none, is, found_too ∙ is)
          (by_value (field_child def t i field (only_of_enum table s t right) none is) (field_default table field))

  -- at an entered place

  module _ (is : t ≡ entered) where
    is' : u ≡ entered
    is' = entered_too def t u look is

    values_do : (v : Val) → Both (Ok (puts one v)) (Ok (puts other v))
    values_do v = both_stay table s one other (λ old. whole v) (λ old. whole v) (whole v) (whole v) refl refl (values v is is' refl refl refl)

    pub set_does : (given : ℕ) (v : Val) → Both (set table s one given v) (set table s other given v)
    set_does given v = rw static (unless table s one other (set_refusal table s given) _ _ (values_do v))

    pub set_default_does : Both (set_default table s one) (set_default table s other)
    set_default_does = go (preset_of table s)
      where
        go : (preset : Option Val) → Both (puts_default s one preset) (puts_default s other preset)
        go (Some v) = values_do v
        go None = tt

    pub parsed_does : (meaning : Meaning) (refusal : ReflectErrorKind) (operation : Operation)
        → Both (puts_parsed s one meaning refusal operation) (puts_parsed s other meaning refusal operation)
    parsed_does (gives v) refusal operation = values_do v
    parsed_does (refuses message) refusal operation = tt
    parsed_does unsupported refusal operation = tt

    pub empty_slice_does : Both (set_empty_shared_slice table s one) (set_empty_shared_slice table s other)
    empty_slice_does = unless table s one other (at_shape s (shared_slice_refusal table def)) _ _ (values_do _)

    begins_do : (f g : Tree → Tree) (tracker : Tracker) (ts : Trees) → f entered ≡ begun tracker ts → g entered ≡ begun tracker ts
        → AllHoles ts → IsRightAs table s tracker (count_trees ts)
        → Both (Ok (record one { tree = change_at one.cursor f one.tree; calls = one_more_call one.calls }))
        (Ok (record other { tree = change_at other.cursor g other.tree; calls = one_more_call other.calls }))
    begins_do f g tracker ts e e' holes right =
        both_stay table s one other f g (begun tracker ts) (begun tracker ts) (ap f is ∙ e) (ap g is' ∙ e') (begins tracker ts is is' holes right refl refl refl)

    pub entered_list_does : Both (init_list table s one) (init_list table s other)
    entered_list_does = rw (static, ap (init_list_refusal s def) is, ap (init_list_refusal s def) is') (go def refl)
      where
        go : (d : Def) → def ≡ d → Both (unless_refused (at_shape s (unless_list Operation.InitListOfOther d)) (opens table s one))
            (unless_refused (at_shape s (unless_list Operation.InitListOfOther d)) (opens table s other))
        go (Def.List item) e =
            begins_do (opened def) (opened def) (as_items ItemsKind.List) no_trees (rw e refl) (rw e refl) no_nth (rw e (tt, tt))
        go Def.Dynamic e = let none = rw e at static in cc
        go _ e = tt

    pub array_does : Both (init_array table s one) (init_array table s other)
    array_does = rw (ap (init_array_refusal def) is, ap (init_array_refusal def) is') (go def refl)
      where
        by_size : (item : ShapeId) (n : ℕ) (small : Bool) → def ≡ Def.Array item n
            → Both (unless_refused (at_shape s (option_or (if small then None else Some Operation.ArrayTooLarge) None)) (begins_array table s one))
            (unless_refused (at_shape s (option_or (if small then None else Some Operation.ArrayTooLarge) None)) (begins_array table s other))
        by_size item n true e =
            begins_do (λ old. opened def (without_source def old)) (λ old. opened def (without_source def old)) as_elements (holes n) (rw e refl) (rw e refl)
            (λ j. nth_holes j n) (rw e (count_holes n, tt))
        by_size item n false e = tt

        go : (d : Def) → def ≡ d → Both (unless_refused (at_shape s (init_array_refusal d entered)) (begins_array table s one))
            (unless_refused (at_shape s (init_array_refusal d entered)) (begins_array table s other))
        go (Def.Array item n) e = by_size item n (nat_le n array_limit) e
        go _ e = tt

    pub map_does : Both (init_map table s one) (init_map table s other)
    map_does = rw (static, ap (init_map_refusal s def) is, ap (init_map_refusal s def) is') (go def refl)
      where
        go : (d : Def) → def ≡ d → Both (unless_refused (at_shape s (unless_map Operation.InitMapOfOther d)) (opens table s one))
            (unless_refused (at_shape s (unless_map Operation.InitMapOfOther d)) (opens table s other))
        go (Def.Map key item) e =
            begins_do (opened def) (opened def) (as_entries (EntriesKind.Map 0)) no_trees (rw e refl) (rw e refl) no_nth (rw e (refl, tt))
        go Def.Dynamic e = let none = rw e at static in cc
        go _ e = tt

    pub set_begins : Both (init_set table s one) (init_set table s other)
    set_begins = rw (ap (init_set_refusal s def) is, ap (init_set_refusal s def) is') (go def refl)
      where
        go : (d : Def) → def ≡ d → Both (unless_refused (at_shape s (unless_set Operation.InitSetOfOther d)) (opens table s one))
            (unless_refused (at_shape s (unless_set Operation.InitSetOfOther d)) (opens table s other))
        go (Def.Set item) e =
            begins_do (opened def) (opened def) (as_items ItemsKind.Set) no_trees (rw e refl) (rw e refl) no_nth (rw e (tt, tt))
        go _ e = tt

    content_does : (tracker : Tracker) (kept kept' : Option Tree) → is_closed_slice tracker ≡ false → kept ≡ None → kept' ≡ None → IsRightAs table s tracker 1
        → Both (Ok (enters table s one (Way.Content tracker kept))) (Ok (enters table s other (Way.Content tracker kept')))
    content_does tracker kept kept' shut none none' right =
        both_enter table s one other (Way.Content tracker kept) (Way.Content tracker kept') 0 (content_anew table s tracker) (content_anew table s tracker) refl refl
        (ap (λ (held : Option Tree). unwrap_or held (content_anew table s tracker)) none)
        (ap (λ (held : Option Tree). unwrap_or held (content_anew table s tracker)) none')
        (fills_one tracker (branch hole no_trees) (branch hole no_trees) 0 (fresh (def_of table (child_as table s tracker 0))) shut
        (inl (is, is', one_hole, refl)) right (omega arith) refl refl (as_fresh refl refl) refl refl)

    pub some_does : Both (begin_some table s one) (begin_some table s other)
    some_does = go (is_option def) refl
      where
        go : (b : Bool) → is_option def ≡ b → Both (begin_some table s one) (begin_some table s other)
        go true e =
            rw e (content_does (as_content ContentKind.Some) _ _ refl (ap (kept_option one.mode _) is) (ap (kept_option other.mode _) is') (option_right def e, tt))
        go false e = rw e tt

    pub side_does : (tracker : Tracker) → is_closed_slice tracker ≡ false → (is_result def ≡ true → IsRightAs table s tracker 1)
        → Both (begin_side table s one tracker) (begin_side table s other tracker)
    side_does tracker shut right = go (is_result def) refl
      where
        go : (b : Bool) → is_result def ≡ b → Both (begin_side table s one tracker) (begin_side table s other tracker)
        go true e =
            rw e (content_does tracker _ _ shut (ap (kept_in one.mode tracker) is ∙ kept_none one.mode tracker)
            (ap (kept_in other.mode tracker) is' ∙ kept_none other.mode tracker) (right e))
        go false e = rw e tt

    pub ok_does : Both (begin_side table s one (as_content ContentKind.Ok)) (begin_side table s other (as_content ContentKind.Ok))
    ok_does = side_does (as_content ContentKind.Ok) refl (λ e. ((result_right def e).0, tt))

    pub err_does : Both (begin_side table s one (as_content ContentKind.Err)) (begin_side table s other (as_content ContentKind.Err))
    err_does = side_does (as_content ContentKind.Err) refl (λ e. ((result_right def e).1, tt))

    pub pointer_does : Both (begin_smart_ptr table s one) (begin_smart_ptr table s other)
    pointer_does = go (pointer_refusal table def) (points_to_slice table def) refl refl
      where
        go : (refusal : Option Operation) (to_slice : Bool) → pointer_refusal table def ≡ refusal → points_to_slice table def ≡ to_slice
            → Both (begin_smart_ptr table s one) (begin_smart_ptr table s other)
        go (Some operation) to_slice e f = rw e tt
        go None true e f =
            rw (e, f) (begins_do (λ old. unwrap_or (kept_slice one.mode t) slice_anew) (λ old. unwrap_or (kept_slice other.mode u) slice_anew)
            (as_items ItemsKind.Slice) no_trees
            (ap (λ (held : Option Tree). unwrap_or held slice_anew) (ap (kept_slice one.mode) is ∙ slice_none one.mode))
            (ap (λ (held : Option Tree). unwrap_or held slice_anew) (ap (kept_slice other.mode) is' ∙ slice_none other.mode))
            no_nth ((pointer_is table def e).0, (e, f)))
        go None false e f =
            rw (e, f) (content_does (as_content ContentKind.Pointer) _ _ refl
            (ap (kept_in one.mode (as_content ContentKind.Pointer)) is ∙ kept_none one.mode (as_content ContentKind.Pointer))
            (ap (kept_in other.mode (as_content ContentKind.Pointer)) is' ∙ kept_none other.mode (as_content ContentKind.Pointer))
            ((pointer_is table def e).1, tt))

    variant_does : (k : ℕ) → is_enum def ≡ true → Both (unless_refused (at_shape s (selection_refusal def k)) (selects table s one k))
        (unless_refused (at_shape s (selection_refusal def k)) (selects table s other k))
    variant_does k enum = go (selection_refusal def k) refl
      where
        go : (refusal : Option Operation) → selection_refusal def k ≡ refusal
            → Both (unless_refused (at_shape s refusal) (selects table s one k)) (unless_refused (at_shape s refusal) (selects table s other k))
        go (Some operation) e = tt
        go None e =
            begins_do (λ old. unwrap_or (kept_so (as_fields (Some k)) t) (variant_anew def k)) (λ old. unwrap_or (kept_so (as_fields (Some k)) u) (variant_anew def k))
            (as_fields (Some k)) (holes (length (variant_fields def k)))
            (ap (λ (held : Option Tree). unwrap_or held (variant_anew def k)) (ap (kept_so (as_fields (Some k))) is))
            (ap (λ (held : Option Tree). unwrap_or held (variant_anew def k)) (ap (kept_so (as_fields (Some k))) is'))
            (λ j. nth_holes j (length (variant_fields def k)))
            (subst (λ (n : ℕ). HasFields def (Some k) n) (sym (count_holes (length (variant_fields def k)))) (selected_right def k enum e), tt)

    pub select_does : (find : List VariantDef → Option ℕ) (unknown : Operation)
        → Both (select table s one find unknown) (select table s other find unknown)
    select_does find unknown = go (is_enum def) (find (variants_of def)) refl
      where
        go : (b : Bool) (found : Option ℕ) → is_enum def ≡ b
            → Both (if b then select_found table s one found unknown else Err (was_not_a Expected.Enum s))
            (if b then select_found table s other found unknown else Err (was_not_a Expected.Enum s))
        go true (Some k) e = variant_does k e
        go true None e = tt
        go false found e = tt

  pub list_does : may_begin_list t ≡ true → Both (init_list table s one) (init_list table s other)
  list_does may = go (either _ _ may)
    where
      go : (is_entered t ≡ true) ⊎ (is_open_slice t ≡ true) → Both (init_list table s one) (init_list table s other)
      go (inl e) = entered_list_does (is_entered_is t e)
      go (inr e) =
          let left = open_list s def t e in
          let right = open_list s def u (open_too def t u look e) in
          rw (static, left.0, right.0) (both_stay table s one other (opened def) (opened def) t u left.1 right.1 (nothing refl refl refl))
