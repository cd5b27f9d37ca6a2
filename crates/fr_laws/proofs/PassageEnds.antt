-- The end of a place: in strict mode it becomes whole, and beside it in deferred mode it is left, and makes the same.
use Rattle.std.proofs.Common.{◌≡◌, ◌≢◌, ◌<◌, ◌≤◌, ◌∷◌, ◌||◌, ◌⊎◌, inl, inr, if◌then◌else◌}
use Rattle.fr_model.proofs.Common.{ℕ, zero, suc, Bool, true, false, [], append-nil, Option, Some, None, refl, sym, ◌∙◌, ap, ap₂, subst, arith, Meanings, Table, Val, Place, Column, deferred_column, Tracker, as_items, ItemsKind, as_content, ContentKind, as_entries, EntriesKind, as_fields, as_elements, Tree, hole, entered, whole, begun, Trees, no_trees, branch, tree_nth, tree_at, change_at, and_last, count_trees, child_as, shape_in, complete, complete_all, made, one_more, Vals, is_hole, is_set, is_set_tracker, up, number_in, without_nth, and_item, has_same, with_ended_item, is_begun_conversion, is_begun_dynamic}
use Rattle.fr_model.proofs.Basis.{count_last}
use Rattle.fr_model.specs.Collections.{is_same_value}
use Rattle.fr_laws.specs.Passage.{fills, fills_among}
use Rattle.fr_laws.proofs.PassageTrees.{same_or, nth_before, nth_last, IsStraight, IsRight}
use Rattle.fr_laws.proofs.PassageSides.{IsOffBeside, AreBeside, AreBesideBut, IsBeside, Along, along_end, along_put, along_up}
use Rattle.fr_laws.proofs.PassageSteps.{change_is, change_none}
use Rattle.fr_laws.proofs.PassageSound.{without_before, without_behind}
use Rattle.fr_laws.proofs.PassageMoves.{all_beside}

-- what is begun rightly is neither a conversion nor a dynamic value
pub right_apart : (table : Table) (s : ℕ) (t : Tree) → IsRight table s t → (is_begun_conversion t ≡ false) × (is_begun_dynamic t ≡ false)
right_apart table s hole right = absurd right
right_apart table s entered right = (refl, refl)
right_apart table s (whole v) right = (refl, refl)
right_apart table s (begun tracker ts) right = go tracker right.1
  where
    go : (tracker : Tracker) → IsStraight table s tracker → (is_begun_conversion (begun tracker ts) ≡ false) × (is_begun_dynamic (begun tracker ts) ≡ false)
    go (as_content (ContentKind.Source conversion)) straight = absurd straight
    go (as_content ContentKind.Some) straight = (refl, refl)
    go (as_content ContentKind.Ok) straight = (refl, refl)
    go (as_content ContentKind.Err) straight = (refl, refl)
    go (as_content ContentKind.Pointer) straight = (refl, refl)
    go (as_fields chosen) straight = (refl, refl)
    go as_elements straight = (refl, refl)
    go (as_items ItemsKind.List) straight = (refl, refl)
    go (as_items ItemsKind.Slice) straight = (refl, refl)
    go (as_items ItemsKind.ClosedSlice) straight = (refl, refl)
    go (as_items ItemsKind.Set) straight = (refl, refl)
    go (as_items ItemsKind.Array) straight = absurd straight
    go (as_entries (EntriesKind.Map base)) straight = (refl, refl)
    go (as_entries (EntriesKind.Object keys)) straight = absurd straight

count_without : (i : ℕ) (ts : Trees) → i < count_trees ts → suc (count_trees (without_nth i ts)) ≡ count_trees ts
count_without i no_trees below = absurd (omega (arith, below))
count_without zero (branch t ts) below = refl
count_without (suc i) (branch t ts) below = ap suc (count_without i ts (omega (arith, below)))

module _ (hooks : Meanings) (table : Table) where
  along_replaced : (s : ℕ) (here : Place) (Ends Others : ℕ → Tree → Tree → Type 0) (t u : Tree) → Along hooks table s here Ends t u
      → (Ends (shape_in table s here t) (tree_at here t) (tree_at here u) → Others (shape_in table s here t) (tree_at here t) (tree_at here u))
      → Along hooks table s here Others t u
  along_replaced s [] Ends Others t u along step = step along
  along_replaced s (i ∷ here) Ends Others (begun tracker ts) (begun other us) along step =
      (along.0, along.1, along_replaced (child_as table s tracker i) here Ends Others (tree_nth i ts) (tree_nth i us) along.2 step)
  along_replaced s (i ∷ here) Ends Others _ _ along step = absurd along

  -- a change at the end of the way
  pub along_changed : (s : ℕ) (here : Place) (Ends Others : ℕ → Tree → Tree → Type 0) (t u m n : Tree) → Along hooks table s here Ends t u
      → Others (shape_in table s here t) m n → Along hooks table s here Others (change_at here (λ old. m) t) (change_at here (λ old. n) u)
  along_changed s here Ends Others t u m n along new =
      subst (λ (place : Place). Along hooks table s place Others (change_at here (λ old. m) t) (change_at here (λ old. n) u)) (append-nil here)
      (along_put hooks table s here [] Ends Others t u m n along new)

  pub parents_same : (s : ℕ) (here : Place) (Ends : ℕ → Tree → Tree → Type 0) (t u : Tree) → here ≢ [] → Along hooks table s here Ends t u
      → is_set (tree_at (up here) t) ≡ is_set (tree_at (up here) u)
  parents_same s here Ends t u below along =
      go (shape_in table s (up here) t) (tree_at (up here) t) (tree_at (up here) u)
      (along_end hooks table s (up here) (λ shape one other. Along hooks table shape (number_in here ∷ []) Ends one other) t u
      (along_up hooks table s here Ends t u below along))
    where
      go : (c : ℕ) (a b : Tree) → Along hooks table c (number_in here ∷ []) Ends a b → is_set a ≡ is_set b
      go c (begun tracker ts) (begun other us) both = ap is_set_tracker both.0
      go c hole b both = absurd both
      go c entered b both = absurd both
      go c (whole v) b both = absurd both
      go c (begun tracker ts) hole both = absurd both
      go c (begun tracker ts) entered both = absurd both
      go c (begun tracker ts) (whole v) both = absurd both

  -- left in deferred mode, whole in strict mode
  abbrev IsLeft : Val → ℕ → (a b : Tree) → Type 0
  IsLeft v c a b = (a ≡ whole v) × (complete deferred_column hooks table c b ≡ Some v)

  off_left : (of_set : Bool) (c : ℕ) (v : Val) (a b : Tree) → of_set ≡ false → IsLeft v c a b → IsOffBeside hooks table of_set c a b
  off_left true c v a b none both = cc
  off_left false c v a b none both = rw both.0 both.1

  pub left_along : (s : ℕ) (here : Place) (t u : Tree) (v : Val) → here ≢ [] → Along hooks table s here (IsBeside hooks table) t u
      → complete deferred_column hooks table (shape_in table s here t) (tree_at here u) ≡ Some v → is_set (tree_at (up here) u) ≡ false
      → Along hooks table s (up here) (IsBeside hooks table) (change_at here (λ old. whole v) t) u
  left_along s here t u v below along makes no_set =
      along_replaced s (up here) _ (IsBeside hooks table) (change_at here (λ old. whole v) t) u
      (along_up hooks table s here (IsLeft v) (change_at here (λ old. whole v) t) u below
      (subst (λ (w : Tree). Along hooks table s here (IsLeft v) (change_at here (λ old. whole v) t) w) (change_none here u)
      (along_changed s here (IsBeside hooks table) (IsLeft v) t u (whole v) (tree_at here u) along (refl, makes))))
      (go (shape_in table s (up here) (change_at here (λ old. whole v) t)) (tree_at (up here) (change_at here (λ old. whole v) t)) (tree_at (up here) u) no_set)
    where
      go : (c : ℕ) (a b : Tree) → is_set b ≡ false → Along hooks table c (number_in here ∷ []) (IsLeft v) a b → IsBeside hooks table c a b
      go c (begun tracker ts) (begun other us) none both = (
        both.0,
        all_beside hooks table c tracker (number_in here) ts us both.1
            (off_left (is_set_tracker tracker) _ v _ _ (ap is_set_tracker both.0 ∙ none) both.2),
      )
      go c hole b none both = absurd both
      go c entered b none both = absurd both
      go c (whole w) b none both = absurd both
      go c (begun tracker ts) hole none both = absurd both
      go c (begun tracker ts) entered none both = absurd both
      go c (begun tracker ts) (whole w) none both = absurd both

  -- the items of a set

  same_found : (c : ℕ) (v : Val) (ts us : Trees) → count_trees ts ≡ count_trees us
      → ((j : ℕ) → j < count_trees ts → IsOffBeside hooks table true c (tree_nth j ts) (tree_nth j us)) → has_same v ts ≡ has_same v us
  same_found c v no_trees no_trees count each = refl
  same_found c v no_trees (branch u us) count each = absurd (omega (arith, count))
  same_found c v (branch t ts) no_trees count each = absurd (omega (arith, count))
  same_found c v (branch t ts) (branch u us) count each =
      ap₂ (λ (a b : Bool). a || b) (go t u (each 0 (omega arith)))
      (same_found c v ts us (omega (arith, count)) (λ j below. each (suc j) (omega (arith, below))))
    where
      go : (t u : Tree) → IsOffBeside hooks table true c t u → is_same_value v t ≡ is_same_value v u
      go hole hole beside = refl
      go hole entered beside = absurd beside
      go hole (whole w) beside = absurd beside
      go hole (begun other ws) beside = absurd beside
      go (whole w) u beside = ap (is_same_value v) (sym beside)
      go entered u beside = absurd beside
      go (begun tracker ws) u beside = absurd beside

  without_beside : (s i : ℕ) (ts us : Trees) → AreBesideBut hooks table s (as_items ItemsKind.Set) i ts us
      → AreBeside hooks table s (as_items ItemsKind.Set) (without_nth i ts) (without_nth i us)
  without_beside s i ts us but =
      let there : i < count_trees us = subst (λ (n : ℕ). i < n) but.count but.there in
      let less = count_without i ts but.there in
      let less' = count_without i us there in
      let count = but.count in
      record { count = omega (arith, less, less', count); each = λ j below. go j (side j i) (omega (arith, less, below)) }
    where
      side : (j i : ℕ) → (j < i) ⊎ (i ≤ j)
      side j zero = inr (omega arith)
      side zero (suc i) = inl (omega arith)
      side (suc j) (suc i) = next (side j i)
        where
          next : (j < i) ⊎ (i ≤ j) → (suc j < suc i) ⊎ (suc i ≤ suc j)
          next (inl below) = inl (omega (arith, below))
          next (inr behind) = inr (omega (arith, behind))

      go : (j : ℕ) → (j < i) ⊎ (i ≤ j) → suc j < count_trees ts → IsOffBeside hooks table true
          (child_as table s (as_items ItemsKind.Set) j) (tree_nth j (without_nth i ts)) (tree_nth j (without_nth i us))
      go j (inl before) below =
          rw (without_before j i ts before, without_before j i us before) (but.each j (omega (arith, below)) (λ e. omega (arith, e, before)))
      go j (inr behind) below =
          rw (without_behind j i ts behind, without_behind j i us behind) (but.each (suc j) below (λ e. omega (arith, e, behind)))

  item_beside : (s : ℕ) (v : Val) (ts us : Trees) → AreBeside hooks table s (as_items ItemsKind.Set) ts us
      → AreBeside hooks table s (as_items ItemsKind.Set) (and_item ts v) (and_item us v)
  item_beside s v ts us all =
      rw (same_found (child_as table s (as_items ItemsKind.Set) 0) v ts us all.count (λ j below. all.each j below)) (go (has_same v us))
    where
      last : (j : ℕ) → (j ≡ count_trees ts) ⊎ (j ≢ count_trees ts) → j < count_trees (and_last ts (whole v))
          → IsOffBeside hooks table true (child_as table s (as_items ItemsKind.Set) j) (tree_nth j (and_last ts (whole v))) (tree_nth j (and_last us (whole v)))
      last j (inl same) below =
          rw (
            ap (λ (k : ℕ). tree_nth k (and_last ts (whole v))) same ∙ nth_last ts (whole v),
            ap (λ (k : ℕ). tree_nth k (and_last us (whole v))) (same ∙ all.count) ∙ nth_last us (whole v),
          ) refl
      last j (inr apart) below =
          let count = all.count in
          let more = count_last ts (whole v) in
          let under : j < count_trees ts = omega (arith, below, apart, more) in
          rw (nth_before j ts (whole v) under, nth_before j us (whole v) (omega (arith, under, count))) (all.each j under)

      go : (b : Bool) → AreBeside hooks table s (as_items ItemsKind.Set) (if b then ts else and_last ts (whole v)) (if b then us else and_last us (whole v))
      go true = all
      go false = record {
        count = count_last ts (whole v) ∙ ap suc all.count ∙ sym (count_last us (whole v));
        each = λ j below. last j (same_or j (count_trees ts)) below;
      }

  pub taken_along : (s : ℕ) (here : Place) (t u : Tree) (v : Val) → here ≢ [] → Along hooks table s here (IsBeside hooks table) t u
      → is_set (tree_at (up here) t) ≡ true
      → Along hooks table s (up here) (IsBeside hooks table) (change_at (up here) (with_ended_item (number_in here) v) t)
      (change_at (up here) (with_ended_item (number_in here) v) u)
  taken_along s here t u v below along set =
      let above = along_up hooks table s here (IsBeside hooks table) t u below along in
      let i = number_in here in
      let at = along_end hooks table s (up here) _ t u above in
      subst (λ (w : Tree). Along hooks table s (up here) (IsBeside hooks table) w (change_at (up here) (with_ended_item i v) u))
      (sym (change_is (up here) (with_ended_item i v) t))
      (subst (λ (w : Tree). Along hooks table s (up here) (IsBeside hooks table) (change_at (up here) (λ old. with_ended_item i v (tree_at (up here) t)) t) w)
      (sym (change_is (up here) (with_ended_item i v) u))
      (along_changed s (up here) _ (IsBeside hooks table) t u (with_ended_item i v (tree_at (up here) t)) (with_ended_item i v (tree_at (up here) u)) above
      (go (shape_in table s (up here) t) (tree_at (up here) t) (tree_at (up here) u) set at)))
    where
      go : (c : ℕ) (a b : Tree) → is_set a ≡ true → Along hooks table c (number_in here ∷ []) (IsBeside hooks table) a b
          → IsBeside hooks table c (with_ended_item (number_in here) v a) (with_ended_item (number_in here) v b)
      go c (begun (as_items ItemsKind.Set) ts) (begun other us) set both =
          (both.0, item_beside c v (without_nth (number_in here) ts) (without_nth (number_in here) us) (without_beside c (number_in here) ts us both.1))
      go c (begun _ ts) (begun other us) set both = cc
      go c hole b set both = cc
      go c entered b set both = cc
      go c (whole w) b set both = cc
      go c (begun tracker ts) hole set both = absurd both
      go c (begun tracker ts) entered set both = absurd both
      go c (begun tracker ts) (whole w) set both = absurd both

  -- open and closed pointers to slices make the same

  pub slices_same : (column : Column) (s i : ℕ) (ts : Trees) → complete_all column hooks table s (as_items ItemsKind.Slice) i ts
      ≡ complete_all column hooks table s (as_items ItemsKind.ClosedSlice) i ts
  slices_same column s i no_trees = refl
  slices_same column s i (branch t ts) = ap (one_more _) (slices_same column s (suc i) ts)

  pub closed_same : (column : Column) (s : ℕ) (ts : Trees) → complete column hooks table s (begun (as_items ItemsKind.Slice) ts)
      ≡ complete column hooks table s (begun (as_items ItemsKind.ClosedSlice) ts)
  closed_same column s ts = ap (made (as_items ItemsKind.Slice)) (slices_same column s 0 ts) ∙ made_alike (complete_all column hooks table s (as_items ItemsKind.ClosedSlice) 0 ts)
    where
      made_alike : (values : Option Vals) → made (as_items ItemsKind.Slice) values ≡ made (as_items ItemsKind.ClosedSlice) values
      made_alike (Some vs) = refl
      made_alike None = refl

  pub closed_fills : (s i : ℕ) (ts : Trees) → fills_among table s (as_items ItemsKind.Slice) i ts
      ≡ fills_among table s (as_items ItemsKind.ClosedSlice) i ts
  closed_fills s i no_trees = refl
  closed_fills s i (branch t ts) = ap (λ (b : Bool). (is_hole t || fills table (child_as table s (as_items ItemsKind.Slice) i) t) || b) (closed_fills s (suc i) ts)
