-- A child that is left in deferred mode and entered again.
use Rattle.std.proofs.Common.{le-leb, ◌≡◌, ◌<◌, ◌∷◌, ◌++◌, if◌then◌else◌}
use Rattle.fr_model.proofs.Common.{ℕ, Bool, true, false, nat_lt, lt-ltb, ltb-true, List, [], length, Option, Some, None, Ok, Err, refl, sym, ap, subst, ◌∙◌, arith, Def, VariantDef, Operation, Invariant, Meanings, Table, def_of, Val, Call, Place, up, is_root, Tracker, as_fields, as_elements, Tree, hole, whole, begun, Trees, count_trees, tree_at, change_at, Mode, strict, deferred, State, cursor_shape, cursor_tree, one_more_call, is_set, is_begun_dynamic, is_open_slice, with_ended_item, number_in, deferred_column, complete, enter, opened, is_set_item, is_dynamic_part, closes_slice, leaves_place, leaves, takes_item, puts_and_leaves, ends_item, item_ended, part_ended, leaves_deferred, end_in, violates, step, field_refusal, named_refusal, fields_or_none, variant_fields, unless_refused, at_shape, Leads, AtCursor, Suits, IsInOrder, IsBegunAs, HasFieldsOf, array_limit, field_found, selected, without_source}
use Rattle.fr_model.specs.Step.{closes}
use Rattle.fr_laws.specs.SwapLaws.{IsInParts, IsBegunInParts, StandsInParts, EntersChild, ComesToTheSame, EnteringAgainKeeps}
use Rattle.fr_model.proofs.Basis.{at_cursor, suits_at, left_in_order, leads_within, leads_child}
use Rattle.fr_laws.proofs.Beside.{nth_kept, above_kept, IsSeenAbove, dynamic_above, left_as_it_is, up_from_child, beneath_is_apart}
use Rattle.fr_laws.proofs.Entries.{enters_so, entering_refusal, entry, entered_state, first_is, entering_drops, apart_drops, parts_apart}
use Rattle.fr_laws.proofs.Swaps.{same_state}

-- what one sees of a place that a change keeps
kept_there : {A : Type 0} (see : Tree → A) (change : Tree → Tree) → ((t : Tree) → see (change t) ≡ see t) → (here : Place) (t : Tree)
    → see (tree_at here (change_at here change t)) ≡ see (tree_at here t)
kept_there see change keeps [] t = keeps t
kept_there see change keeps (k ∷ here) (begun tracker ts) = nth_kept _ _ (kept_there see change keeps here) k ts
kept_there see change keeps (k ∷ here) _ = refl

kept_above : {A : Type 0} (see : Tree → A) → IsSeenAbove see → (here place : Place) (k : ℕ) (change : Tree → Tree) (t : Tree)
    → place ≡ here ++ k ∷ [] → see (tree_at (up place) (change_at place change t)) ≡ see (tree_at (up place) t)
kept_above see seen here place k change t is = rw (is, up_from_child here k) (above_kept see seen here k [] change t)

ended_is_set : (n : ℕ) (v : Val) (t : Tree) → is_set (with_ended_item n v t) ≡ is_set t
ended_is_set n v (begun tracker ts) = refl
ended_is_set n v _ = refl

-- such a place is neither a set nor a dynamic value
parts_alone : (def : Def) (t : Tree) → IsInParts def t → (is_set t ≡ false) × (is_begun_dynamic t ≡ false)
parts_alone def (begun (as_fields chosen) ts) parts = (refl, refl)
parts_alone def (begun as_elements ts) parts = (refl, refl)
parts_alone def (begun _ ts) parts = absurd parts
parts_alone def _ parts = (refl, refl)

never : (b c : Bool) → true ≡ b → b ≡ c → c ≡ false → ⊥
never b c e f g = cc

-- the end left the place as it was, and the cursor went up
record Left (state above : State) (start : ℕ) : Type 0 where
  is : above ≡ leaves state
  deeper : start < length state.cursor
  shut : is_open_slice (cursor_tree state) ≡ false
  no_item : is_set_item state ≡ false
  no_part : is_dynamic_part state ≡ false

module _ (hooks : Meanings) (table : Table) (root start i : ℕ) (state above : State) (went : state.cursor ≡ above.cursor ++ i ∷ [])
    (parts : StandsInParts table root above) where
  abbrev s : ℕ
  s = cursor_shape table root state

  alone : (is_set (cursor_tree above) ≡ false) × (is_begun_dynamic (cursor_tree above) ≡ false)
  alone = parts_alone (def_of table (cursor_shape table root above)) (cursor_tree above) parts

  closes_so : (mode : Mode) → mode ≡ deferred start → closes_slice hooks table s state mode ≡ Ok above → Left state above start
  closes_so strict is e = cc
  closes_so (deferred from) is e =
      let same : closes state ≡ above = cc in
      absurd (beneath_is_apart above.cursor i [] (sym went ∙ ap (λ (u : State). u.cursor) same))

  item_so : is_set_item state ≡ true → (value : Option Val) → item_ended deferred_column hooks table s state value ≡ Ok above
      → Left state above start
  item_so of_set None e = cc
  item_so of_set (Some v) e =
      let same : takes_item state v ≡ above = cc in
      absurd (never _ _ (sym of_set)
      (sym (kept_there is_set (with_ended_item (number_in state.cursor) v) (ended_is_set (number_in state.cursor) v) (up state.cursor) state.tree)
      ∙ ap (λ (u : State). is_set (cursor_tree u)) same) alone.0)

  part_so : is_dynamic_part state ≡ true → (value : Option Val) → part_ended hooks table s state value ≡ Ok above → Left state above start
  part_so of_part None e = cc
  part_so of_part (Some v) e =
      let same : puts_and_leaves state v ≡ above = cc in
      absurd (never _ _ (sym of_part)
      (sym (kept_above is_begun_dynamic dynamic_above above.cursor state.cursor i (λ old. whole v) state.tree went)
      ∙ ap (λ (u : State). is_begun_dynamic (cursor_tree u)) same) alone.1)

  left_so : start < length state.cursor → is_open_slice (cursor_tree state) ≡ false → (of_set of_part : Bool) → is_set_item state ≡ of_set
      → is_dynamic_part state ≡ of_part
      → (if of_set then ends_item deferred_column hooks table s state else leaves_deferred hooks table s state of_part) ≡ Ok above
      → Left state above start
  left_so deeper shut true of_part item part e = item_so item (complete deferred_column hooks table s (cursor_tree state)) e
  left_so deeper shut false true item part e = part_so part (complete deferred_column hooks table s (cursor_tree state)) e
  left_so deeper shut false false item part e =
      let same : leaves state ≡ above = cc in
      record { is = sym same; deeper = deeper; shut = shut; no_item = item; no_part = part }

  deep_so : is_open_slice (cursor_tree state) ≡ false → (b : Bool) → nat_lt start (length state.cursor) ≡ b
      → (if b then (if is_set_item state then ends_item deferred_column hooks table s state
      else leaves_deferred hooks table s state (is_dynamic_part state)) else Err (violates Invariant.EndAtStart)) ≡ Ok above
      → Left state above start
  deep_so shut true is e = left_so (ltb-true start (length state.cursor) is) shut (is_set_item state) (is_dynamic_part state) refl refl e
  deep_so shut false is e = cc

  root_so : is_open_slice (cursor_tree state) ≡ false → (b : Bool) (mode : Mode) → mode ≡ deferred start
      → (if b then Err (violates Invariant.EndAtRoot) else end_in hooks table root s state mode) ≡ Ok above → Left state above start
  root_so shut true mode is e = cc
  root_so shut false strict is e = cc
  root_so shut false (deferred from) is e =
      let same : from ≡ start = cc in
      deep_so shut (nat_lt start (length state.cursor)) refl (rw same at e)

  end_so : (b : Bool) → is_open_slice (cursor_tree state) ≡ b → state.mode ≡ deferred start
      → (if b then closes_slice hooks table s state state.mode else leaves_place hooks table root s state) ≡ Ok above → Left state above start
  end_so true is mode e = closes_so state.mode mode e
  end_so false shut mode e = root_so shut (is_root state.cursor) state.mode mode e

-- the child is there

abbrev HasChild : ℕ → Tree → Type 0
HasChild i (begun tracker ts) = i < count_trees ts
HasChild i _ = ⊥

child_there : (mode : Mode) (here : Place) (i : ℕ) (t : Tree) → Leads mode (here ++ i ∷ []) t → HasChild i (tree_at here t)
child_there mode [] i (begun tracker ts) leads = leads_within mode i (λ child. Leads mode [] child) ts leads
child_there mode [] i _ leads = absurd leads
child_there mode (k ∷ here) i (begun tracker ts) leads =
    child_there mode here i _ (leads_child mode k (λ child. Leads mode (here ++ i ∷ []) child) ts leads)
child_there mode (k ∷ here) i _ leads = absurd leads

begun_stays : (def : Def) (i : ℕ) (t : Tree) → HasChild i t → IsInParts def t → opened def (without_source def t) ≡ t
begun_stays def i (begun (as_fields chosen) ts) there parts = refl
begun_stays def i (begun as_elements ts) there parts = refl
begun_stays def i (begun _ ts) there parts = absurd parts
begun_stays def i _ there parts = absurd there

touched_stays : (mode : Mode) (def : Def) (t : Tree) → AtCursor mode t → enter def t ≡ t
touched_stays mode def hole at = absurd at
touched_stays mode def _ at = refl

-- and may be entered

fields_of_it : (found : Option VariantDef) (n : ℕ) → HasFieldsOf found n → n ≡ length (fields_or_none found)
fields_of_it (Some variant) n full = full
fields_of_it None n full = absurd full

field_admitted : (def : Def) (tracker : Tracker) (ts : Trees) (i : ℕ) → IsBegunAs def tracker (count_trees ts) → IsBegunInParts tracker
    → i < count_trees ts → field_refusal def (begun tracker ts) i ≡ None
field_admitted (Def.Struct struct) (as_fields None) ts i full parts within =
    rw (lt-ltb i (length struct.fields) (omega (arith, full.0, within)))
field_admitted (Def.Enum enumeration) (as_fields (Some k)) ts i full parts within =
    let count = fields_of_it _ (count_trees ts) full.0 in
    rw (lt-ltb i (length (variant_fields (Def.Enum enumeration) k)) (omega (arith, count, within)))
field_admitted (Def.Array item n) as_elements ts i full parts within =
    rw (lt-ltb i n (omega (arith, full.0, within)), le-leb n array_limit (omega (arith, full.0, full.1)))
field_admitted _ (as_fields chosen) ts i full parts within = absurd full.0
field_admitted _ as_elements ts i full parts within = absurd full.0
field_admitted _ _ ts i full parts within = absurd parts

named_admitted : (def : Def) (tracker : Tracker) (ts : Trees) (name : List ℕ) (i : ℕ) → IsBegunAs def tracker (count_trees ts)
    → IsBegunInParts tracker → field_found name def (selected (begun tracker ts)) ≡ Some i → named_refusal def (begun tracker ts) ≡ None
named_admitted (Def.Struct struct) (as_fields None) ts name i full parts found = refl
named_admitted (Def.Enum enumeration) (as_fields (Some k)) ts name i full parts found = refl
named_admitted (Def.Array item n) as_elements ts name i full parts found = cc
named_admitted _ (as_fields chosen) ts name i full parts found = absurd full.0
named_admitted _ as_elements ts name i full parts found = absurd full.0
named_admitted _ _ ts name i full parts found = absurd parts

admitted : (table : Table) (s i : ℕ) (t : Tree) (command : Call) → HasChild i t → Suits table s t → IsInParts (def_of table s) t
    → EntersChild table s i t command → entering_refusal (def_of table s) t command ≡ None
admitted table s i (begun tracker ts) (Call.BeginField name) within suits parts so =
    named_admitted (def_of table s) tracker ts name i suits.0 parts so
admitted table s i (begun tracker ts) (Call.BeginNthField k) within suits parts so =
    rw so (field_admitted (def_of table s) tracker ts i suits.0 parts within)
admitted table s i (begun tracker ts) _ within suits parts so = absurd so
admitted table s i _ command within suits parts so = absurd within

-- the two together

comes_again : (hooks : Meanings) (table : Table) (root start i : ℕ) (state : State) (command : Call) → IsInOrder table root state
    → state.mode ≡ deferred start → Left state (leaves state) start → state.cursor ≡ up state.cursor ++ i ∷ []
    → step hooks table root state Call.End ≡ Ok (leaves state) → StandsInParts table root (leaves state)
    → EntersChild table (cursor_shape table root (leaves state)) i (cursor_tree (leaves state)) command
    → ComesToTheSame hooks table root state (leaves state) command
comes_again hooks table root start i state command order mode left went ends parts so = record {
  same = is;
  end_removes = λ t. rw (ends, left.shut, left.no_item, left.no_part, mode);
  begin_removes = λ t. rw is (entering_drops hooks table root (cursor_shape table root (leaves state)) (leaves state) command
      (enters_so table _ i (cursor_tree (leaves state)) command so) t
      ∙ apart_drops (leaves state) (parts_apart _ (cursor_tree (leaves state)) parts) t);
}
  where
    here : Place
    here = up state.cursor

    order_above : IsInOrder table root (leaves state)
    order_above = left_in_order table root start state mode left.deeper order

    there : HasChild i (tree_at (up state.cursor) state.tree)
    there = child_there state.mode (up state.cursor) i state.tree (rw went at order.leads)

    suits : Suits table (cursor_shape table root (leaves state)) (cursor_tree (leaves state))
    suits = suits_at state.mode table root (up state.cursor) state.tree order_above.leads order.suits

    may : entering_refusal (def_of table (cursor_shape table root (leaves state))) (cursor_tree (leaves state)) command ≡ None
    may = admitted table (cursor_shape table root (leaves state)) i (cursor_tree (leaves state)) command there suits parts so

    at_child : AtCursor state.mode (tree_at (up state.cursor ++ i ∷ []) state.tree)
    at_child = at_cursor state.mode (up state.cursor ++ i ∷ []) state.tree (subst (λ (place : Place). Leads state.mode place state.tree) went order.leads)

    same_tree : (entered_state table root (leaves state) i).tree ≡ state.tree
    same_tree =
        ap (change_at (up state.cursor ++ i ∷ []) (entry table root (leaves state) i))
        (left_as_it_is (up state.cursor) _ state.tree (begun_stays (def_of table (cursor_shape table root (leaves state))) i _ there parts))
        ∙ left_as_it_is (up state.cursor ++ i ∷ []) (entry table root (leaves state) i) state.tree (touched_stays state.mode _ _ at_child)

    is : step hooks table root (leaves state) command ≡ Ok (record state { calls = one_more_call (one_more_call state.calls) })
    is =
        first_is hooks table root (leaves state) i command so
        ∙ ap (λ (refusal : Option Operation). unless_refused (at_shape (cursor_shape table root (leaves state)) refusal)
        (entered_state table root (leaves state) i)) may
        ∙ ap Ok (same_state _ _ same_tree (sym went) refl refl)

pub entering_again_keeps : EnteringAgainKeeps
entering_again_keeps hooks table root start i state above command order mode ends went parts so =
    go above left.is (end_so hooks table root start i state above went parts (is_open_slice (cursor_tree state)) refl mode ends) went ends parts so
  where
    left : Left state above start
    left = end_so hooks table root start i state above went parts (is_open_slice (cursor_tree state)) refl mode ends

    go : (to : State) → to ≡ leaves state → Left state to start → state.cursor ≡ to.cursor ++ i ∷ []
        → step hooks table root state Call.End ≡ Ok to → StandsInParts table root to
        → EntersChild table (cursor_shape table root to) i (cursor_tree to) command → ComesToTheSame hooks table root state to command
    go to is =
        subst (λ (u : State). Left state u start → state.cursor ≡ u.cursor ++ i ∷ [] → step hooks table root state Call.End ≡ Ok u
        → StandsInParts table root u → EntersChild table (cursor_shape table root u) i (cursor_tree u) command
        → ComesToTheSame hooks table root state u command) (sym is)
        (λ left went ends parts so. comes_again hooks table root start i state command order mode left went ends parts so)
