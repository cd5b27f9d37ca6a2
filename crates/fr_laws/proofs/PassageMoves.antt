-- What is done to a place keeps the way to the cursor as it is to be, in one state and in two beside one another.
use Rattle.std.proofs.Common.{◌≡◌, ◌≢◌, ◌<◌, ◌∷◌, ◌⊎◌, inl, inr}
use Rattle.fr_model.proofs.Common.{ℕ, suc, Bool, true, false, [], refl, sym, ◌∙◌, ap, subst, arith, Meanings, Table, def_of, Val, Place, Tracker, Tree, hole, whole, begun, Trees, tree_nth, change_nth, and_last, count_trees, child_as, shape_in, fresh, State, cursor_tree, is_set_tracker}
use Rattle.fr_model.proofs.Basis.{count_change, count_last}
use Rattle.fr_model.proofs.TokensInTrees.{fresh_is}
use Rattle.fr_laws.proofs.PassageTrees.{same_or, nth_changed, nth_other, nth_before, nth_last, IsRightAs, IsRight, Way, way_end, way_put}
use Rattle.fr_laws.proofs.PassageSides.{IsOffBeside, AreBeside, AreBesideBut, IsBeside, Along}
use Rattle.fr_laws.proofs.PassageSteps.{AreBegunSo, as_fresh, as_value, Does, nothing, values, begins, fills_one, adds, adds_entry, does}
use Rattle.fr_laws.proofs.PassageShapes.{child_direct}
use Rattle.fr_laws.specs.Passage.{IsDirect}

pub fresh_right : (table : Table) (s c : ℕ) → IsRight table s (fresh (def_of table c))
fresh_right table s c = fresh_is (IsRight table s) (def_of table c) (λ e. tt) (λ e. tt)

-- In one state

module _ (table : Table) where
  abbrev pub DirectWay : ℕ → Place → Tree → Type 0
  DirectWay s here t = Way table (IsDirect table) s here t

  right_changed : (s : ℕ) (tracker : Tracker) (i : ℕ) (f : Tree → Tree) (ts : Trees) → IsRightAs table s tracker (count_trees ts)
      → IsRightAs table s tracker (count_trees (change_nth i f ts))
  right_changed s tracker i f ts right = subst (IsRightAs table s tracker) (sym (count_change i f ts)) right

  -- a place that is begun so leads to its child, which is fresh
  leads_fresh : (s : ℕ) (tracker : Tracker) (ts : Trees) (i : ℕ) (x : Tree) → IsDirect table s → IsRightAs table s tracker (count_trees ts)
      → i < count_trees ts → tree_nth i ts ≡ x → x ≡ fresh (def_of table (child_as table s tracker i))
      → DirectWay s (i ∷ []) (begun tracker ts)
  leads_fresh s tracker ts i x direct right below at is = (
    direct,
    right,
    (
      child_direct table s tracker (count_trees ts) i direct right below,
      subst (IsRight table (child_as table s tracker i)) (sym (at ∙ is)) (fresh_right table _ _),
    ),
  )

  leads_on : (s : ℕ) (t : Tree) (way : Place) (m n : Tree) → IsDirect table s → IsRight table s t → Does table s t t way m n → DirectWay s way m
  leads_on s t way m n direct right (nothing is e e') = rw (is, e) (direct, right)
  leads_on s t way m n direct right (values v left too is e e') = rw (is, e) (direct, tt)
  leads_on s t way m n direct right (begins tracker ts left too holes full is e e') = rw (is, e) (direct, full)
  leads_on s t way m n direct right (fills_one tracker ts us i x shut so full below at at' (as_fresh is anew) e e') =
      rw (is, e) (leads_fresh s tracker (change_nth i (λ old. x) ts) i x direct (right_changed s tracker i (λ old. x) ts full)
      (subst (λ (n : ℕ). i < n) (sym (count_change i (λ old. x) ts)) below) (nth_changed i (λ old. x) ts below) anew)
  leads_on s t way m n direct right (fills_one tracker ts us i x shut so full below at at' (as_value v is anew) e e') =
      rw (is, e) (direct, right_changed s tracker i (λ old. x) ts full)
  leads_on s t way m n direct right (adds tracker ts us x shut so too full is anew e e') =
      rw (is, e) (leads_fresh s tracker (and_last ts x) (count_trees ts) x direct
      (subst (IsRightAs table s tracker) (sym (count_last ts x)) full) (omega (arith, count_last ts x)) (nth_last ts x) anew)
  leads_on s t way m n direct right (adds_entry tracker ts us x shut so too full is anew e e') =
      let one = count_last ts x in
      let two = count_last (and_last ts x) hole in
      rw (is, e) (leads_fresh s tracker (and_last (and_last ts x) hole) (count_trees ts) x direct
      (subst (IsRightAs table s tracker) (sym (two ∙ ap suc one)) full) (omega (arith, one, two))
      (nth_before (count_trees ts) (and_last ts x) hole (omega (arith, one)) ∙ nth_last ts x) anew)

  pub leads_does : (s : ℕ) (state : State) (way : Place) (m n : Tree) → DirectWay s state.cursor state.tree
      → Does table (shape_in table s state.cursor state.tree) (cursor_tree state) (cursor_tree state) way m n
      → DirectWay s (does state way m).cursor (does state way m).tree
  leads_does s state way m n leads is =
      let end = way_end table (IsDirect table) s state.cursor state.tree leads in
      way_put table (IsDirect table) s state.cursor way state.tree m leads (leads_on _ (cursor_tree state) way m n end.0 end.1 is)

-- In two states

module _ (hooks : Meanings) (table : Table) where
  whole_beside : (of_set : Bool) (s : ℕ) (v : Val) → IsOffBeside hooks table of_set s (whole v) (whole v)
  whole_beside true s v = refl
  whole_beside false s v = refl

  hole_beside : (of_set : Bool) (s : ℕ) (t u : Tree) → t ≡ hole → u ≡ hole → IsOffBeside hooks table of_set s t u
  hole_beside of_set s t u is is' = rw (is, is') tt

  pub fresh_beside : (s c : ℕ) → IsBeside hooks table s (fresh (def_of table c)) (fresh (def_of table c))
  fresh_beside s c = fresh_is (λ (w : Tree). IsBeside hooks table s w w) (def_of table c) (λ e. refl) (λ e. tt)

  begun_beside : (s : ℕ) (t u : Tree) (tracker : Tracker) (ts us : Trees) → AreBegunSo t u tracker ts us → IsBeside hooks table s t u
      → AreBeside hooks table s tracker ts us
  begun_beside s t u tracker ts us (inl (is, is', holes, same)) beside =
      subst (AreBeside hooks table s tracker ts) same
      (record { count = refl; each = λ j below. hole_beside _ _ _ _ (holes j) (holes j) })
  begun_beside s t u tracker ts us (inr (is, is')) beside =
      let both : IsBeside hooks table s (begun tracker ts) (begun tracker us) = rw (is, is') at beside in both.1

  -- one of them is changed
  others_beside : (s : ℕ) (tracker : Tracker) (ts us : Trees) (i : ℕ) (x : Tree) → AreBeside hooks table s tracker ts us → i < count_trees ts
      → AreBesideBut hooks table s tracker i (change_nth i (λ old. x) ts) (change_nth i (λ old. x) us)
  others_beside s tracker ts us i x all below = record {
    count = count_change i (λ old. x) ts ∙ all.count ∙ sym (count_change i (λ old. x) us);
    there = subst (λ (n : ℕ). i < n) (sym (count_change i (λ old. x) ts)) below;
    each = λ j under apart. rw (nth_other j i (λ old. x) ts apart, nth_other j i (λ old. x) us apart)
        (all.each j (subst (λ (n : ℕ). j < n) (count_change i (λ old. x) ts) under));
  }

  pub all_beside : (s : ℕ) (tracker : Tracker) (i : ℕ) (ts us : Trees) → AreBesideBut hooks table s tracker i ts us
      → IsOffBeside hooks table (is_set_tracker tracker) (child_as table s tracker i) (tree_nth i ts) (tree_nth i us)
      → AreBeside hooks table s tracker ts us
  all_beside s tracker i ts us but here = record {
    count = but.count;
    each = λ j below. go j below (same_or j i);
  }
    where
      go : (j : ℕ) → j < count_trees ts → (j ≡ i) ⊎ (j ≢ i)
          → IsOffBeside hooks table (is_set_tracker tracker) (child_as table s tracker j) (tree_nth j ts) (tree_nth j us)
      go j below (inl same) = rw same here
      go j below (inr apart) = but.each j below apart

  last_beside : (s : ℕ) (tracker : Tracker) (ts us : Trees) (x y : Tree) → AreBeside hooks table s tracker ts us
      → AreBesideBut hooks table s tracker (count_trees ts) (and_last ts x) (and_last us y)
  last_beside s tracker ts us x y all = record {
    count = count_last ts x ∙ ap suc all.count ∙ sym (count_last us y);
    there = omega (arith, count_last ts x);
    each = λ j below apart.
        let under : j < count_trees ts = omega (arith, below, apart, count_last ts x) in
        let count = all.count in
        rw (nth_before j ts x under, nth_before j us y (omega (arith, under, count))) (all.each j under);
  }

  entry_beside : (s : ℕ) (tracker : Tracker) (ts us : Trees) (x : Tree) → AreBeside hooks table s tracker ts us
      → AreBesideBut hooks table s tracker (count_trees ts) (and_last (and_last ts x) hole) (and_last (and_last us x) hole)
  entry_beside s tracker ts us x all = record {
    count = count_last (and_last ts x) hole ∙ ap suc (count_last ts x ∙ ap suc all.count ∙ sym (count_last us x)) ∙ sym (count_last (and_last us x) hole);
    there = omega (arith, count_last ts x, count_last (and_last ts x) hole);
    each = λ j below apart. go j (same_or j (suc (count_trees ts))) below apart;
  }
    where
      count : count_trees ts ≡ count_trees us
      count = all.count

      go : (j : ℕ) → (j ≡ suc (count_trees ts)) ⊎ (j ≢ suc (count_trees ts)) → j < count_trees (and_last (and_last ts x) hole)
          → j ≢ count_trees ts → IsOffBeside hooks table (is_set_tracker tracker) (child_as table s tracker j)
          (tree_nth j (and_last (and_last ts x) hole)) (tree_nth j (and_last (and_last us x) hole))
      go j (inl same) below apart =
          hole_beside (is_set_tracker tracker) (child_as table s tracker j) _ _
          (ap (λ (k : ℕ). tree_nth k (and_last (and_last ts x) hole)) (same ∙ sym (count_last ts x)) ∙ nth_last (and_last ts x) hole)
          (ap (λ (k : ℕ). tree_nth k (and_last (and_last us x) hole)) (same ∙ ap suc count ∙ sym (count_last us x)) ∙ nth_last (and_last us x) hole)
      go j (inr behind) below apart =
          let under : j < count_trees ts = omega (arith, below, apart, behind, count_last ts x, count_last (and_last ts x) hole) in
          let more = count_last ts x in
          let more' = count_last us x in
          rw (
            nth_before j (and_last ts x) hole (omega (arith, under, more)) ∙ nth_before j ts x under,
            nth_before j (and_last us x) hole (omega (arith, under, more', count)) ∙ nth_before j us x (omega (arith, under, count)),
          )
          (all.each j under)

  begun_does : (s : ℕ) (tracker : Tracker) (ts us : Trees) (i : ℕ) (x y : Tree) → AreBesideBut hooks table s tracker i ts us
      → tree_nth i ts ≡ x → tree_nth i us ≡ y → IsBeside hooks table (child_as table s tracker i) x y
      → Along hooks table s (i ∷ []) (IsBeside hooks table) (begun tracker ts) (begun tracker us)
  begun_does s tracker ts us i x y but at at' beside = (
    refl,
    but,
    subst (λ (w : Tree). IsBeside hooks table (child_as table s tracker i) (tree_nth i ts) w) (sym at')
        (subst (λ (w : Tree). IsBeside hooks table (child_as table s tracker i) w y) (sym at) beside),
  )

  fresh_beside_as : (s c d : ℕ) (x : Tree) → x ≡ fresh (def_of table d) → IsBeside hooks table c x x
  fresh_beside_as s c d x is = subst (λ (w : Tree). IsBeside hooks table c w w) (sym is) (fresh_beside c d)

  pub does_beside : (s : ℕ) (t u : Tree) (way : Place) (m n : Tree) → IsBeside hooks table s t u → Does table s t u way m n
      → Along hooks table s way (IsBeside hooks table) m n
  does_beside s t u way m n beside (nothing is e e') = rw (is, e, e') beside
  does_beside s t u way m n beside (values v left right is e e') = rw (is, e, e') refl
  does_beside s t u way m n beside (begins tracker ts left right holes full is e e') =
      rw (is, e, e') (refl, record { count = refl; each = λ j below. hole_beside _ _ _ _ (holes j) (holes j) })
  does_beside s t u way m n beside (fills_one tracker ts us i x shut so full below at at' (as_fresh is anew) e e') =
      let all = begun_beside s t u tracker ts us so beside in
      let count = all.count in
      rw (is, e, e') (begun_does s tracker (change_nth i (λ old. x) ts) (change_nth i (λ old. x) us) i x x
      (others_beside s tracker ts us i x all below) (nth_changed i (λ old. x) ts below) (nth_changed i (λ old. x) us (omega (arith, count, below)))
      (fresh_beside_as s (child_as table s tracker i) _ x anew))
  does_beside s t u way m n beside (fills_one tracker ts us i x shut so full below at at' (as_value v is anew) e e') =
      let all = begun_beside s t u tracker ts us so beside in
      let count = all.count in
      rw (is, e, e') (
        refl,
        all_beside s tracker i (change_nth i (λ old. x) ts) (change_nth i (λ old. x) us)
            (others_beside s tracker ts us i x all below)
            (rw (nth_changed i (λ old. x) ts below, nth_changed i (λ old. x) us (omega (arith, count, below)), anew)
            (whole_beside (is_set_tracker tracker) (child_as table s tracker i) v)),
      )
  does_beside s t u way m n beside (adds tracker ts us x shut left right full is anew e e') =
      let both : IsBeside hooks table s (begun tracker ts) (begun tracker us) = rw (left, right) at beside in
      rw (is, e, e') (begun_does s tracker (and_last ts x) (and_last us x) (count_trees ts) x x (last_beside s tracker ts us x x both.1)
      (nth_last ts x) (ap (λ (j : ℕ). tree_nth j (and_last us x)) both.1.count ∙ nth_last us x)
      (fresh_beside_as s (child_as table s tracker (count_trees ts)) _ x anew))
  does_beside s t u way m n beside (adds_entry tracker ts us x shut left right full is anew e e') =
      let both : IsBeside hooks table s (begun tracker ts) (begun tracker us) = rw (left, right) at beside in
      let one = count_last ts x in
      let count = both.1.count in
      let other = count_last us x in
      rw (is, e, e') (begun_does s tracker (and_last (and_last ts x) hole) (and_last (and_last us x) hole) (count_trees ts) x x
      (entry_beside s tracker ts us x both.1)
      (nth_before (count_trees ts) (and_last ts x) hole (omega (arith, one)) ∙ nth_last ts x)
      (nth_before (count_trees ts) (and_last us x) hole (omega (arith, count, other))
      ∙ ap (λ (j : ℕ). tree_nth j (and_last us x)) both.1.count ∙ nth_last us x)
      (fresh_beside_as s (child_as table s tracker (count_trees ts)) _ x anew))
