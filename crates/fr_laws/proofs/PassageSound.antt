-- What is left of deferred mode: where the run gives a value and is orderly, each place off the way makes its value and fills no hole.
use Rattle.std.proofs.Common.{◌≡◌, ◌≢◌, ◌+◌, ◌<◌, ◌≤◌, ◌∷◌, ◌++◌, ◌⊎◌, inl, inr, if◌then◌else◌}
use Rattle.fr_model.proofs.Common.{ℕ, zero, suc, Bool, true, false, [], Option, Some, None, is_none, refl, sym, ◌∙◌, ap, subst, arith, Meanings, Table, Val, Vals, Place, deferred_column, Tracker, as_items, ItemsKind, Tree, hole, entered, whole, begun, Trees, no_trees, branch, for_hole, tree_nth, change_nth, child_tree, tree_at, change_at, and_last, count_trees, child_as, shape_in, shape_below, complete, complete_all, valid_child, hole_takes, made, is_closed_slice, is_set, is_hole, up, number_in, without_nth, and_item, has_same, with_ended_item}
use Rattle.fr_model.proofs.Basis.{count_last, one_more_is, none_valid}
use Rattle.fr_model.proofs.Templates.{both_false}
use Rattle.fr_laws.proofs.PassageTrees.{same_or, nth_changed, nth_other, nth_before, nth_there, no_hole, Way, way_right}
use Rattle.fr_laws.proofs.PassageSteps.{as_fresh, as_value, Does, nothing, values, begins, fills_one, adds, adds_entry}
use Rattle.fr_laws.specs.Passage.{fills, fills_among}

-- the trees but one

pub without_before : (j i : ℕ) (ts : Trees) → j < i → tree_nth j (without_nth i ts) ≡ tree_nth j ts
without_before j i no_trees below = refl
without_before j zero (branch t ts) below = absurd (omega (arith, below))
without_before zero (suc i) (branch t ts) below = refl
without_before (suc j) (suc i) (branch t ts) below = without_before j i ts (omega (arith, below))

pub without_behind : (j i : ℕ) (ts : Trees) → i ≤ j → tree_nth j (without_nth i ts) ≡ tree_nth (suc j) ts
without_behind j i no_trees behind = refl
without_behind j zero (branch t ts) behind = refl
without_behind zero (suc i) (branch t ts) behind = absurd (omega (arith, behind))
without_behind (suc j) (suc i) (branch t ts) behind = without_behind j i ts (omega (arith, behind))

module _ (hooks : Meanings) (table : Table) where
  pub record Makes (s : ℕ) (t : Tree) : Type 0 where
    pub value : Val
    pub is : complete deferred_column hooks table s t ≡ Some value
    pub fills_none : fills table s t ≡ false

  -- a place makes its value and fills no hole, unless it is one
  abbrev pub IsSound : ℕ → Tree → Type 0
  IsSound s t = t ≢ hole → Makes s t

  abbrev pub AreSound : ℕ → Tracker → Trees → Type 0
  AreSound s tracker ts = (j : ℕ) → IsSound (child_as table s tracker j) (tree_nth j ts)

  abbrev pub AreSoundBut : ℕ → Tracker → ℕ → Trees → Type 0
  AreSoundBut s tracker i ts = (j : ℕ) → j ≢ i → IsSound (child_as table s tracker j) (tree_nth j ts)

  -- at the cursor the children are sound, and a closed pointer to a slice itself
  abbrev pub SoundHere : ℕ → Tree → Type 0
  SoundHere s (begun tracker ts) = AreSound s tracker ts × (is_closed_slice tracker ≡ true → Makes s (begun tracker ts))
  SoundHere s _ = Unit {0}

  abbrev pub SoundBeside : ℕ → ℕ → Tree → Type 0
  SoundBeside s i (begun tracker ts) = AreSoundBut s tracker i ts
  SoundBeside s i _ = Unit {0}

  -- all places off the way are
  abbrev pub SoundOff : ℕ → Place → Tree → Type 0
  SoundOff s [] t = SoundHere s t
  SoundOff s (i ∷ here) t = SoundBeside s i t × SoundOff (shape_below table s i t) here (child_tree i t)

  -- the children of what is sound are

  not_hole : (t : Tree) (x y : Option Val) → is_hole t ≡ false → for_hole t x y ≡ y
  not_hole hole x y there = cc
  not_hole entered x y there = refl
  not_hole (whole v) x y there = refl
  not_hole (begun tracker ts) x y there = refl

  none_made : (s : ℕ) (tracker : Tracker) (i : ℕ) (value : Option Val) (w : Val) → value ≡ None
      → valid_child hooks table s tracker i value ≡ Some w → ⊥
  none_made s tracker i value w none e =
      let told = none_valid hooks table s tracker i value in
      let this : is_none (valid_child hooks table s tracker i value) ≡ false = ap is_none e in
      let that : is_none value ≡ true = ap is_none none in
      let both = rw (this, that) at told in cc

  children_sound : (s : ℕ) (tracker : Tracker) (i : ℕ) (ts : Trees) (vs : Vals)
      → complete_all deferred_column hooks table s tracker i ts ≡ Some vs → fills_among table s tracker i ts ≡ false
      → (j k : ℕ) → k ≡ i + j → IsSound (child_as table s tracker k) (tree_nth j ts)
  children_sound s tracker i no_trees vs e none j k at = λ there. absurd (there refl)
  children_sound s tracker i (branch t ts) vs e none zero k at =
      let parts = one_more_is _ (complete_all deferred_column hooks table s tracker (suc i) ts) vs e in
      let both = both_false _ (fills_among table s tracker (suc i) ts) none in
      let here = both_false (is_hole t) (fills table (child_as table s tracker i) t) both.0 in
      let same : k ≡ i = omega (arith, at) in
      λ there. subst (λ (m : ℕ). Makes (child_as table s tracker m) t) (sym same)
      (go (complete deferred_column hooks table (child_as table s tracker i) t) refl here.0 here.1 parts.head parts.head_is)
    where
      go : (value : Option Val) → complete deferred_column hooks table (child_as table s tracker i) t ≡ value → is_hole t ≡ false
          → fills table (child_as table s tracker i) t ≡ false → (w : Val)
          → valid_child hooks table s tracker i (for_hole t (hole_takes deferred_column table s tracker i) (complete deferred_column hooks table (child_as table s tracker i) t)) ≡ Some w
          → Makes (child_as table s tracker i) t
      go (Some v) is there fills_none w made_is = record { value = v; is = is; fills_none = fills_none }
      go None is there fills_none w made_is = absurd (none_made s tracker i _ w (not_hole t _ _ there ∙ is) made_is)
  children_sound s tracker i (branch t ts) vs e none (suc j) k at =
      let parts = one_more_is _ (complete_all deferred_column hooks table s tracker (suc i) ts) vs e in
      let both = both_false _ (fills_among table s tracker (suc i) ts) none in
      children_sound s tracker (suc i) ts parts.tail parts.tail_is both.1 j k (omega (arith, at))

  made_some : (tracker : Tracker) (values : Option Vals) (v : Val) → made tracker values ≡ Some v → (vs : Vals) × (values ≡ Some vs)
  made_some tracker (Some vs) v e = (vs, refl)
  made_some tracker None v e = cc

  pub made_children_sound : (s : ℕ) (tracker : Tracker) (ts : Trees) → Makes s (begun tracker ts) → AreSound s tracker ts
  made_children_sound s tracker ts makes j =
      let values = made_some tracker (complete_all deferred_column hooks table s tracker 0 ts) makes.value makes.is in
      children_sound s tracker 0 ts values.0 values.1 makes.fills_none j j (omega arith)

  pub sound_here : (s : ℕ) (t : Tree) → Makes s t → SoundHere s t
  sound_here s (begun tracker ts) makes = (made_children_sound s tracker ts makes, λ shut. makes)
  sound_here s hole makes = tt
  sound_here s entered makes = tt
  sound_here s (whole v) makes = tt

  -- what is done keeps nothing unsound

  both_ways : (b : Bool) → b ≡ false → b ≡ true → ⊥
  both_ways true shut closed = cc
  both_ways false shut closed = cc

  changed_sound : (s : ℕ) (tracker : Tracker) (i : ℕ) (x : Tree) (ts : Trees) → tree_nth i ts ≡ hole
      → ((j : ℕ) → j ≢ i → IsSound (child_as table s tracker j) (tree_nth j (change_nth i (λ old. x) ts))) → AreSound s tracker ts
  changed_sound s tracker i x ts at others j there = go (same_or j i)
    where
      go : (j ≡ i) ⊎ (j ≢ i) → Makes (child_as table s tracker j) (tree_nth j ts)
      go (inl same) = absurd (there (ap (λ (k : ℕ). tree_nth k ts) same ∙ at))
      go (inr apart) =
          subst (λ (w : Tree). Makes (child_as table s tracker j) w) (nth_other j i (λ old. x) ts apart)
          (others j apart (λ e. there (sym (nth_other j i (λ old. x) ts apart) ∙ e)))

  added_sound : (s : ℕ) (tracker : Tracker) (ts us : Trees) → ((j : ℕ) → j < count_trees ts → tree_nth j us ≡ tree_nth j ts)
      → AreSoundBut s tracker (count_trees ts) us → AreSound s tracker ts
  added_sound s tracker ts us same others j there =
      let below = nth_there j ts there in
      subst (λ (w : Tree). Makes (child_as table s tracker j) w) (same j below)
      (others j (λ e. omega (arith, e, below)) (λ e. there (sym (same j below) ∙ e)))

  pub done_sound : (s : ℕ) (t : Tree) (way : Place) (m : Tree) → Does table s t t way m m → SoundOff s way m → SoundHere s t
  done_sound s t way m (nothing is e e') sound = rw (is, e) at sound
  done_sound s t way m (values v left right is e e') sound = rw left tt
  done_sound s t way m (begins tracker ts left right holes full is e e') sound = rw left tt
  done_sound s t way m (fills_one tracker ts us i x shut (inl so) full below at at' put e e') sound = rw so.0 tt
  done_sound s t way m (fills_one tracker ts us i x shut (inr so) full below at at' (as_fresh is anew) e e') sound =
      let after : SoundOff s (i ∷ []) (begun tracker (change_nth i (λ old. x) ts)) = rw (is, e) at sound in
      rw so.0 (changed_sound s tracker i x ts at after.0, λ closed. absurd (both_ways (is_closed_slice tracker) shut closed))
  done_sound s t way m (fills_one tracker ts us i x shut (inr so) full below at at' (as_value v is anew) e e') sound =
      let after : SoundOff s [] (begun tracker (change_nth i (λ old. x) ts)) = rw (is, e) at sound in
      rw so.0 (changed_sound s tracker i x ts at (λ j apart. after.0 j), λ closed. absurd (both_ways (is_closed_slice tracker) shut closed))
  done_sound s t way m (adds tracker ts us x shut left right full is anew e e') sound =
      let after : SoundOff s (count_trees ts ∷ []) (begun tracker (and_last ts x)) = rw (is, e) at sound in
      rw left (added_sound s tracker ts (and_last ts x) (λ j below. nth_before j ts x below) after.0, λ closed. absurd (both_ways (is_closed_slice tracker) shut closed))
  done_sound s t way m (adds_entry tracker ts us x shut left right full is anew e e') sound =
      let after : SoundOff s (count_trees ts ∷ []) (begun tracker (and_last (and_last ts x) hole)) = rw (is, e) at sound in
      let more = count_last ts x in
      rw left (
        added_sound s tracker ts (and_last (and_last ts x) hole)
            (λ j below. nth_before j (and_last ts x) hole (omega (arith, below, more)) ∙ nth_before j ts x below) after.0,
        λ closed. absurd (both_ways (is_closed_slice tracker) shut closed),
      )

  -- along the way

  pub sound_before : (Holds : ℕ → Type 0) (s : ℕ) (here way : Place) (t m : Tree) → Way table Holds s here t
      → (SoundOff (shape_in table s here t) way m → SoundHere (shape_in table s here t) (tree_at here t))
      → SoundOff s (here ++ way) (change_at here (λ old. m) t) → SoundOff s here t
  sound_before Holds s [] way t m leads back sound = back sound
  sound_before Holds s (i ∷ here) way hole m leads back sound = absurd leads.1
  sound_before Holds s (i ∷ here) way entered m leads back sound = absurd (way_right table Holds s here hole leads.2)
  sound_before Holds s (i ∷ here) way (whole v) m leads back sound = absurd (way_right table Holds s here hole leads.2)
  sound_before Holds s (i ∷ here) way (begun tracker ts) m leads back sound =
      let there = no_hole table _ _ (way_right table Holds (child_as table s tracker i) here (tree_nth i ts) leads.2) in
      let below = nth_there i ts there in (
        (λ j apart. subst (λ (w : Tree). IsSound (child_as table s tracker j) w)
            (nth_other j i (λ child. change_at here (λ old. m) child) ts apart) (sound.0 j apart)),
        sound_before Holds (child_as table s tracker i) here way (tree_nth i ts) m leads.2 back
            (subst (λ (w : Tree). SoundOff (child_as table s tracker i) (here ++ way) w)
            (nth_changed i (λ child. change_at here (λ old. m) child) ts below) sound.1),
      )

  -- what is sound at the end of the way
  pub sound_at : (Holds : ℕ → Type 0) (s : ℕ) (here : Place) (t m : Tree) → Way table Holds s here t
      → SoundOff s here (change_at here (λ old. m) t) → SoundHere (shape_in table s here t) m
  sound_at Holds s [] t m leads sound = sound
  sound_at Holds s (i ∷ here) hole m leads sound = absurd leads.1
  sound_at Holds s (i ∷ here) entered m leads sound = absurd (way_right table Holds s here hole leads.2)
  sound_at Holds s (i ∷ here) (whole v) m leads sound = absurd (way_right table Holds s here hole leads.2)
  sound_at Holds s (i ∷ here) (begun tracker ts) m leads sound =
      let there = no_hole table _ _ (way_right table Holds (child_as table s tracker i) here (tree_nth i ts) leads.2) in
      sound_at Holds (child_as table s tracker i) here (tree_nth i ts) m leads.2
      (subst (λ (w : Tree). SoundOff (child_as table s tracker i) here w)
      (nth_changed i (λ child. change_at here (λ old. m) child) ts (nth_there i ts there)) sound.1)

  -- what was left is sound, and so it was before
  pub left_makes : (Holds : ℕ → Type 0) (s : ℕ) (here : Place) (t : Tree) → here ≢ [] → Way table Holds s here t → SoundOff s (up here) t
      → Makes (shape_in table s here t) (tree_at here t)
  left_makes Holds s [] t below leads sound = absurd (below refl)
  left_makes Holds s (i ∷ []) (begun tracker ts) below leads sound =
      sound.0 i (no_hole table _ _ (way_right table Holds (child_as table s tracker i) [] (tree_nth i ts) leads.2))
  left_makes Holds s (i ∷ []) hole below leads sound = absurd leads.1
  left_makes Holds s (i ∷ []) entered below leads sound = absurd leads.2.1
  left_makes Holds s (i ∷ []) (whole v) below leads sound = absurd leads.2.1
  left_makes Holds s (i ∷ j ∷ here) t below leads sound =
      left_makes Holds (shape_below table s i t) (j ∷ here) (child_tree i t) (λ e. cc) leads.2 sound.1

  pub left_sound : (Holds : ℕ → Type 0) (s : ℕ) (here : Place) (t : Tree) → here ≢ [] → Way table Holds s here t → SoundOff s (up here) t
      → SoundOff s here t
  left_sound Holds s [] t below leads sound = absurd (below refl)
  left_sound Holds s (i ∷ []) (begun tracker ts) below leads sound = (
    (λ j apart. sound.0 j),
    sound_here (child_as table s tracker i) (tree_nth i ts)
        (sound.0 i (no_hole table _ _ (way_right table Holds (child_as table s tracker i) [] (tree_nth i ts) leads.2))),
  )
  left_sound Holds s (i ∷ []) hole below leads sound = absurd leads.1
  left_sound Holds s (i ∷ []) entered below leads sound = absurd leads.2.1
  left_sound Holds s (i ∷ []) (whole v) below leads sound = absurd leads.2.1
  left_sound Holds s (i ∷ j ∷ here) t below leads sound =
      (sound.0, left_sound Holds (shape_below table s i t) (j ∷ here) (child_tree i t) (λ e. cc) leads.2 sound.1)

  -- an item of a set

  item_kept : (j : ℕ) (v : Val) (ts : Trees) → tree_nth j ts ≢ hole → tree_nth j (and_item ts v) ≡ tree_nth j ts
  item_kept j v ts there = go (has_same v ts)
    where
      go : (b : Bool) → tree_nth j (if b then ts else and_last ts (whole v)) ≡ tree_nth j ts
      go true = refl
      go false = nth_before j ts (whole v) (nth_there j ts there)

  -- where each child is of one shape
  pub item_sound : (s c : ℕ) (tracker : Tracker) (i : ℕ) (v : Val) (ts : Trees) → ((j : ℕ) → child_as table s tracker j ≡ c)
      → AreSound s tracker (and_item (without_nth i ts) v) → AreSoundBut s tracker i ts
  item_sound s c tracker i v ts same sound j apart there =
      go (lower j i apart)
    where
      lower : (j i : ℕ) → j ≢ i → (j < i) ⊎ ((k : ℕ) × (j ≡ suc k) × (i ≤ k))
      lower zero zero apart = absurd (apart refl)
      lower zero (suc i) apart = inl (omega arith)
      lower (suc j) zero apart = inr (j, refl, omega arith)
      lower (suc j) (suc i) apart = next (lower j i (λ e. apart (ap suc e)))
        where
          next : (j < i) ⊎ ((k : ℕ) × (j ≡ suc k) × (i ≤ k)) → (suc j < suc i) ⊎ ((k : ℕ) × (suc j ≡ suc k) × (suc i ≤ k))
          next (inl below) = inl (omega (arith, below))
          next (inr (k, is, behind)) = inr (suc k, ap suc is, omega (arith, behind))

      from : (k : ℕ) → tree_nth k (without_nth i ts) ≡ tree_nth j ts → Makes (child_as table s tracker j) (tree_nth j ts)
      from k is =
          let kept = item_kept k v (without_nth i ts) (λ e. there (sym is ∙ e)) in
          subst (λ (w : Tree). Makes (child_as table s tracker j) w) (kept ∙ is)
          (subst (λ (m : ℕ). Makes m (tree_nth k (and_item (without_nth i ts) v))) (same k ∙ sym (same j))
          (sound k (λ e. there (sym is ∙ sym kept ∙ e))))

      go : (j < i) ⊎ ((k : ℕ) × (j ≡ suc k) × (i ≤ k)) → Makes (child_as table s tracker j) (tree_nth j ts)
      go (inl below) = from j (without_before j i ts below)
      go (inr (k, is, behind)) = from k (without_behind k i ts behind ∙ ap (λ (m : ℕ). tree_nth m ts) (sym is))

  pub taken_sound : (Holds : ℕ → Type 0) (s : ℕ) (here : Place) (v : Val) (t : Tree) → here ≢ [] → Way table Holds s here t
      → is_set (tree_at (up here) t) ≡ true → Makes (shape_in table s here t) (tree_at here t)
      → SoundOff s (up here) (change_at (up here) (with_ended_item (number_in here) v) t) → SoundOff s here t
  taken_sound Holds s [] v t below leads set makes sound = absurd (below refl)
  taken_sound Holds s (i ∷ []) v (begun (as_items ItemsKind.Set) ts) below leads set makes sound = (
    item_sound s (child_as table s (as_items ItemsKind.Set) 0) (as_items ItemsKind.Set) i v ts (λ j. refl) sound.0,
    sound_here (child_as table s (as_items ItemsKind.Set) i) (tree_nth i ts) makes,
  )
  taken_sound Holds s (i ∷ []) v (begun _ ts) below leads set makes sound = cc
  taken_sound Holds s (i ∷ []) v hole below leads set makes sound = cc
  taken_sound Holds s (i ∷ []) v entered below leads set makes sound = cc
  taken_sound Holds s (i ∷ []) v (whole w) below leads set makes sound = cc
  taken_sound Holds s (i ∷ j ∷ here) v hole below leads set makes sound = absurd leads.1
  taken_sound Holds s (i ∷ j ∷ here) v entered below leads set makes sound = absurd (way_right table Holds s (j ∷ here) hole leads.2)
  taken_sound Holds s (i ∷ j ∷ here) v (whole w) below leads set makes sound = absurd (way_right table Holds s (j ∷ here) hole leads.2)
  taken_sound Holds s (i ∷ j ∷ here) v (begun tracker ts) below leads set makes sound =
      let there = no_hole table _ _ (way_right table Holds (child_as table s tracker i) (j ∷ here) (tree_nth i ts) leads.2) in
      let change = λ (child : Tree). change_at (up (j ∷ here)) (with_ended_item (number_in (j ∷ here)) v) child in (
        (λ k apart. subst (λ (w : Tree). IsSound (child_as table s tracker k) w) (nth_other k i change ts apart) (sound.0 k apart)),
        taken_sound Holds (child_as table s tracker i) (j ∷ here) v (tree_nth i ts) (λ e. cc) leads.2 set makes
            (subst (λ (w : Tree). SoundOff (child_as table s tracker i) (up (j ∷ here)) w) (nth_changed i change ts (nth_there i ts there)) sound.1),
      )
