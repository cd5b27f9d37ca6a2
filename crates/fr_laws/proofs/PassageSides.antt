-- A tree of strict mode beside one of deferred mode: the same way to the cursor, and off it whole places beside such as make their values.
use Rattle.std.proofs.Common.{◌≡◌, ◌≢◌, ◌+◌, ◌<◌, ◌∷◌, ◌++◌, ◌||◌}
use Rattle.fr_model.proofs.Common.{ℕ, suc, Bool, true, false, [], Option, Some, None, refl, sym, ◌∙◌, ap, subst, arith, Def, Meanings, Table, def_of, preset_of, Val, Place, strict_column, deferred_column, Tracker, as_items, ItemsKind, Tree, hole, entered, whole, begun, Trees, no_trees, branch, for_hole, tree_nth, change_nth, tree_at, change_at, count_trees, child_as, shape_in, complete, complete_all, hole_takes, made, made_by, made_of_entered, is_set_tracker, up, number_in, is_hole}
use Rattle.fr_model.proofs.Basis.{count_change}
use Rattle.fr_model.proofs.Templates.{both_false}
use Rattle.fr_laws.proofs.PassageTrees.{nth_changed, nth_other}
use Rattle.fr_laws.specs.Passage.{fills, fills_among, fills_entered}

abbrev pub is_pointer : Def → Bool
is_pointer (Def.Pointer pointer) = true
is_pointer _ = false

module _ (hooks : Meanings) (table : Table) where
  -- Off the way: a hole beside a hole, and a whole place beside one that makes its value, which in a set is whole itself.
  abbrev pub IsOffBeside : (of_set : Bool) → ℕ → (t u : Tree) → Type 0
  IsOffBeside of_set s hole hole = Unit {0}
  IsOffBeside true s (whole v) u = u ≡ whole v
  IsOffBeside false s (whole v) u = complete deferred_column hooks table s u ≡ Some v
  IsOffBeside _ s _ _ = ⊥

  -- so it is of each child of a place of shape s that is begun so
  pub record AreBeside (s : ℕ) (tracker : Tracker) (ts us : Trees) : Type 0 where
    pub count : count_trees ts ≡ count_trees us
    pub each : (j : ℕ) → j < count_trees ts
        → IsOffBeside (is_set_tracker tracker) (child_as table s tracker j) (tree_nth j ts) (tree_nth j us)

  -- or of each but one, which is there
  pub record AreBesideBut (s : ℕ) (tracker : Tracker) (i : ℕ) (ts us : Trees) : Type 0 where
    pub count : count_trees ts ≡ count_trees us
    pub there : i < count_trees ts
    pub each : (j : ℕ) → j < count_trees ts → j ≢ i
        → IsOffBeside (is_set_tracker tracker) (child_as table s tracker j) (tree_nth j ts) (tree_nth j us)

  -- At the cursor: both entered, both whole with the same, both begun so; or a closed pointer to a slice, which in strict mode is whole.
  abbrev pub IsBeside : ℕ → (t u : Tree) → Type 0
  IsBeside s entered entered = Unit {0}
  IsBeside s (whole v) (whole w) = v ≡ w
  IsBeside s (whole v) (begun other us) =
      (other ≡ as_items ItemsKind.ClosedSlice) × (is_pointer (def_of table s) ≡ true)
      × (complete deferred_column hooks table s (begun other us) ≡ Some v)
  IsBeside s (begun tracker ts) (begun other us) = (tracker ≡ other) × AreBeside s tracker ts us
  IsBeside s _ _ = ⊥

  -- the way leads through places that are begun alike, and at its end something holds
  abbrev pub Along : ℕ → Place → (ℕ → Tree → Tree → Type 0) → (t u : Tree) → Type 0
  Along s [] Ends t u = Ends s t u
  Along s (i ∷ here) Ends (begun tracker ts) (begun other us) =
      (tracker ≡ other) × AreBesideBut s tracker i ts us × Along (child_as table s tracker i) here Ends (tree_nth i ts) (tree_nth i us)
  Along s (i ∷ here) Ends _ _ = ⊥

  pub along_end : (s : ℕ) (here : Place) (Ends : ℕ → Tree → Tree → Type 0) (t u : Tree) → Along s here Ends t u
      → Ends (shape_in table s here t) (tree_at here t) (tree_at here u)
  along_end s [] Ends t u along = along
  along_end s (i ∷ here) Ends (begun tracker ts) (begun other us) along =
      along_end (child_as table s tracker i) here Ends (tree_nth i ts) (tree_nth i us) along.2
  along_end s (i ∷ here) Ends _ _ along = absurd along

  pub along_shape : (s : ℕ) (here : Place) (Ends : ℕ → Tree → Tree → Type 0) (t u : Tree) → Along s here Ends t u
      → shape_in table s here t ≡ shape_in table s here u
  along_shape s [] Ends t u along = refl
  along_shape s (i ∷ here) Ends (begun tracker ts) (begun other us) along =
      along_shape (child_as table s tracker i) here Ends (tree_nth i ts) (tree_nth i us) along.2
      ∙ ap (λ (one : Tracker). shape_in table (child_as table s one i) here (tree_nth i us)) along.0
  along_shape s (i ∷ here) Ends _ _ along = absurd along

  but_changed : (s : ℕ) (tracker : Tracker) (i : ℕ) (ts us : Trees) (f g : Tree → Tree) → AreBesideBut s tracker i ts us
      → AreBesideBut s tracker i (change_nth i f ts) (change_nth i g us)
  but_changed s tracker i ts us f g but = record {
    count = count_change i f ts ∙ but.count ∙ sym (count_change i g us);
    there = subst (λ (n : ℕ). i < n) (sym (count_change i f ts)) but.there;
    each = λ j below apart. rw (nth_other j i f ts apart, nth_other j i g us apart)
        (but.each j (subst (λ (n : ℕ). j < n) (count_change i f ts) below) apart);
  }

  pub along_put : (s : ℕ) (here way : Place) (Ends Last : ℕ → Tree → Tree → Type 0) (t u m n : Tree) → Along s here Ends t u
      → Along (shape_in table s here t) way Last m n
      → Along s (here ++ way) Last (change_at here (λ old. m) t) (change_at here (λ old. n) u)
  along_put s [] way Ends Last t u m n old new = new
  along_put s (i ∷ here) way Ends Last (begun tracker ts) (begun other us) m n old new =
      let rest = along_put (child_as table s tracker i) here way Ends Last (tree_nth i ts) (tree_nth i us) m n old.2 new in
      let below : i < count_trees us = subst (λ (k : ℕ). i < k) old.1.count old.1.there in (
        old.0,
        but_changed s tracker i ts us _ _ old.1,
        rw (
          nth_changed i (λ child. change_at here (λ old. m) child) ts old.1.there,
          nth_changed i (λ child. change_at here (λ old. n) child) us below,
        ) rest,
      )
  along_put s (i ∷ here) way Ends Last _ _ m n old new = absurd old

  -- up to the place above
  pub along_up : (s : ℕ) (here : Place) (Ends : ℕ → Tree → Tree → Type 0) (t u : Tree) → here ≢ [] → Along s here Ends t u
      → Along s (up here) (λ shape one other. Along shape (number_in here ∷ []) Ends one other) t u
  along_up s [] Ends t u below along = absurd (below refl)
  along_up s (i ∷ []) Ends t u below along = along
  along_up s (i ∷ j ∷ here) Ends (begun tracker ts) (begun other us) below along =
      (along.0, along.1, along_up (child_as table s tracker i) (j ∷ here) Ends (tree_nth i ts) (tree_nth i us) (λ e. cc) along.2)
  along_up s (i ∷ j ∷ here) Ends _ _ below along = absurd along

  -- What is made

  -- no child is a hole
  abbrev pub have_holes : Trees → Bool
  have_holes no_trees = false
  have_holes (branch t ts) = is_hole t || have_holes ts

  is_one : (of_set : Bool) (s : ℕ) (v : Val) (u : Tree) → IsOffBeside of_set s (whole v) u → complete deferred_column hooks table s u ≡ Some v
  is_one true s v u beside = ap (complete deferred_column hooks table s) beside
  is_one false s v u beside = beside

  -- what stands beside a whole place is no hole
  beside_whole : (of_set : Bool) (s : ℕ) (v : Val) (u : Tree) → IsOffBeside of_set s (whole v) u → (X : Type 0) (x y : X) → for_hole u x y ≡ y
  beside_whole of_set s v hole beside X x y = let none = is_one of_set s v hole beside in cc
  beside_whole of_set s v _ beside X x y = refl

  same_completing : (s : ℕ) (tracker : Tracker) (i : ℕ) (ts us : Trees) → count_trees ts ≡ count_trees us
      → ((j k : ℕ) → k ≡ i + j → j < count_trees ts
      → IsOffBeside (is_set_tracker tracker) (child_as table s tracker k) (tree_nth j ts) (tree_nth j us)) → have_holes ts ≡ false
      → complete_all strict_column hooks table s tracker i ts ≡ complete_all deferred_column hooks table s tracker i us
  same_completing s tracker i no_trees no_trees count each none = refl
  same_completing s tracker i no_trees (branch u us) count each none = absurd (omega (arith, count))
  same_completing s tracker i (branch t ts) no_trees count each none = absurd (omega (arith, count))
  same_completing s tracker i (branch (whole v) ts) (branch u us) count each none =
      let here = each 0 i (omega arith) (omega arith) in
      let rest = same_completing s tracker (suc i) ts us (omega (arith, count))
      (λ j k e below. each (suc j) k (omega arith) (omega (arith, below))) none in
      let value : for_hole u (hole_takes deferred_column table s tracker i) (complete deferred_column hooks table (child_as table s tracker i) u) ≡ Some v
      = beside_whole (is_set_tracker tracker) _ v u here _ _ _ ∙ is_one (is_set_tracker tracker) _ v u here in
      rw (value, rest) refl
  same_completing s tracker i (branch hole ts) (branch u us) count each none = cc
  same_completing s tracker i (branch entered ts) (branch u us) count each none =
      absurd (not_entered (is_set_tracker tracker) (child_as table s tracker i) u (each 0 i (omega arith) (omega arith)))
    where
      not_entered : (of_set : Bool) (s : ℕ) (u : Tree) → IsOffBeside of_set s entered u → ⊥
      not_entered of_set s u beside = beside
  same_completing s tracker i (branch (begun other ws) ts) (branch u us) count each none =
      absurd (not_begun (is_set_tracker tracker) (child_as table s tracker i) u (each 0 i (omega arith) (omega arith)))
    where
      not_begun : (of_set : Bool) (s : ℕ) (u : Tree) → IsOffBeside of_set s (begun other ws) u → ⊥
      not_begun of_set s u beside = beside

  entered_same : (s : ℕ) → fills_entered (def_of table s) (preset_of table s) ≡ false
      → made_of_entered strict_column hooks table s ≡ made_of_entered deferred_column hooks table s
  entered_same s none = go (def_of table s) (preset_of table s) _ _ none
    where
      go : (def : Def) (preset one other : Option Val) → fills_entered def preset ≡ false → made_by def preset one ≡ made_by def preset other
      go (Def.Struct struct) (Some v) one other none = refl
      go (Def.Struct struct) None one other none = cc
      go _ preset one other none = refl

  holes_fill : (s : ℕ) (tracker : Tracker) (i : ℕ) (ts : Trees) → fills_among table s tracker i ts ≡ false → have_holes ts ≡ false
  holes_fill s tracker i no_trees none = refl
  holes_fill s tracker i (branch t ts) none =
      let both = both_false _ (fills_among table s tracker (suc i) ts) none in
      rw ((both_false (is_hole t) _ both.0).0) (holes_fill s tracker (suc i) ts both.1)

  -- where no hole is filled, what completes in strict mode is what completes beside it in deferred mode
  pub makes_same : (s : ℕ) (t u : Tree) → IsBeside s t u → fills table s t ≡ false
      → complete strict_column hooks table s t ≡ complete deferred_column hooks table s u
  makes_same s entered entered beside none = entered_same s none
  makes_same s (whole v) (whole w) beside none = ap Some beside
  makes_same s (whole v) (begun other us) beside none = sym beside.2
  makes_same s (begun tracker ts) (begun other us) beside none =
      ap (made tracker) (same_completing s tracker 0 ts us beside.1.count
      (λ j k e below. subst (λ (m : ℕ). IsOffBeside (is_set_tracker tracker) (child_as table s tracker m) (tree_nth j ts) (tree_nth j us))
      (omega arith) (beside.1.each j below)) (holes_fill s tracker 0 ts none))
      ∙ ap (λ (one : Tracker). made one (complete_all deferred_column hooks table s one 0 us)) beside.0
  makes_same s hole u beside none = absurd beside
  makes_same s _ _ beside none = absurd beside

  -- and none is filled on the strict side where none is on the other
  strict_fills_none : (s : ℕ) (tracker : Tracker) (i : ℕ) (ts us : Trees) → count_trees ts ≡ count_trees us
      → ((j k : ℕ) → k ≡ i + j → j < count_trees ts
      → IsOffBeside (is_set_tracker tracker) (child_as table s tracker k) (tree_nth j ts) (tree_nth j us))
      → fills_among table s tracker i us ≡ false → fills_among table s tracker i ts ≡ false
  strict_fills_none s tracker i no_trees us count each none = refl
  strict_fills_none s tracker i (branch t ts) no_trees count each none = absurd (omega (arith, count))
  strict_fills_none s tracker i (branch t ts) (branch u us) count each none =
      let both = both_false _ (fills_among table s tracker (suc i) us) none in
      let rest = strict_fills_none s tracker (suc i) ts us (omega (arith, count))
      (λ j k e below. each (suc j) k (omega arith) (omega (arith, below))) both.1 in
      go (is_set_tracker tracker) t u (each 0 i (omega arith) (omega arith)) (both_false (is_hole u) _ both.0).0 rest
    where
      go : (of_set : Bool) (t u : Tree) → IsOffBeside of_set (child_as table s tracker i) t u → is_hole u ≡ false
          → fills_among table s tracker (suc i) ts ≡ false
          → ((is_hole t || fills table (child_as table s tracker i) t) || fills_among table s tracker (suc i) ts) ≡ false
      go of_set hole hole beside there rest = cc
      go of_set hole entered beside there rest = absurd beside
      go of_set hole (whole w) beside there rest = absurd beside
      go of_set hole (begun other ws) beside there rest = absurd beside
      go of_set (whole v) u beside there rest = rest
      go of_set entered u beside there rest = absurd beside
      go of_set (begun other ws) u beside there rest = absurd beside

  pub fills_none_strictly : (s : ℕ) (t u : Tree) → IsBeside s t u → fills table s u ≡ false → fills table s t ≡ false
  fills_none_strictly s entered entered beside none = none
  fills_none_strictly s (whole v) u beside none = refl
  fills_none_strictly s (begun tracker ts) (begun other us) beside none =
      strict_fills_none s tracker 0 ts us beside.1.count
      (λ j k e below. subst (λ (m : ℕ). IsOffBeside (is_set_tracker tracker) (child_as table s tracker m) (tree_nth j ts) (tree_nth j us))
      (omega arith) (beside.1.each j below))
      (subst (λ (one : Tracker). fills_among table s one 0 us ≡ false) (sym beside.0) none)
  fills_none_strictly s hole u beside none = absurd beside
  fills_none_strictly s _ _ beside none = absurd beside
