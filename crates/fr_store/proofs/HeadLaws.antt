-- Laws of the first place of a walk, for proofs: nothing beneath it is in a slot, and once it had its turn the others are a walk.
use Rattle.std.proofs.Common.{◌≡◌, ◌≢◌, ◌⊎◌, ℕ, zero, suc, ◌+◌, ◌<◌, ◌≤◌, Bool, true, List, [], ◌∷◌, ◌++◌, length, length-append, get_or, inl, inr, refl, sym, ◌∙◌, ap, subst, arith}
use Rattle.std.proofs.lemmas.Grind.{common_steps}
use Rattle.std.proofs.lemmas.List.Elements.{All-contains, All-head, All-tail, Contains-get_or}
use Rattle.fr_store.specs.Common.{All, AllMarked, AllMarkedAmong, AllMarkedIn, AreInWalkOrder, AreStoredAt, AreUnplaced, ComesBefore, Contains, HasPlace, IsClosed, IsStoredAt, IsWalk, Kid, Kids, LeadsUnstored, Ordering, PathStep, Place, Plot, Reaches, Tracker, Tree, Val, at, begun_plot, body_in, cells_in, change_at, child_tree, closed_at, count_kids, kid, kid_at, kid_at_append, kid_nth, no_kids, ordering_then, put_at, steps_in, tree_of, tree_put_at, uses, uses_among, uses_nth, walk_order}
use Rattle.std.specs.Ordering.{nat_cmp}
use Rattle.fr_path.specs.OrderLaws.{walk_itself}
use Rattle.fr_store.proofs.ClosingLaws.{stays}
use Rattle.fr_store.proofs.DoneKids.{IsDone}
use Rattle.fr_store.proofs.PairLaws.{in_cases, pairs_weaker}
use Rattle.fr_store.proofs.OffLaws.{marked_off, off_stored, reach_place}

-- The order of the walk.

not_less : (first second : ℕ) (rest : Ordering) → first < second → ordering_then (nat_cmp second first) rest ≡ Ordering.Less → ⊥
not_less first second rest h e =
    let more : nat_cmp second first ≡ Ordering.Greater = grind (arith, common_steps) in
    let wrong : Ordering.Greater ≡ Ordering.Less = sym (ap (λ (x : Ordering). ordering_then x rest) more) ∙ e in
    cc

pub steps_count : (place : Place) (t : Tree) → length (steps_in place t) ≡ length place
steps_count [] t = refl
steps_count (i ∷ place) t = ap suc (steps_count place (child_tree i t))

-- nothing comes before what lies deeper, or itself
before_deeper : (tree : Tree) (first second : Place) → length first < length second → ComesBefore tree first second → ⊥
before_deeper tree first second h before =
    not_less (length (steps_in first tree)) (length (steps_in second tree)) _
    (omega (arith, steps_count first tree, steps_count second tree)) before

pub before_itself : (tree : Tree) (place : Place) → ComesBefore tree place place → ⊥
before_itself tree place before =
    let tied = walk_itself (steps_in place tree) (steps_in place tree) refl in
    cc

-- two children use what all of them do
pub two_nth : (i j : ℕ) (ks : Kids) (n : ℕ) → i ≢ j → uses (kid_nth i ks) n + uses (kid_nth j ks) n ≤ uses_among ks n
two_nth i j no_kids n ne = omega arith
two_nth zero zero (kid k ks) n ne = absurd (ne refl)
two_nth zero (suc j) (kid k ks) n ne = omega (arith, uses_nth j ks n)
two_nth (suc i) zero (kid k ks) n ne = omega (arith, uses_nth i ks n)
two_nth (suc i) (suc j) (kid k ks) n ne =
    let rest : uses (kid_nth i ks) n + uses (kid_nth j ks) n ≤ uses_among ks n = two_nth i j ks n (λ e. ne (ap suc e)) in
    omega arith

-- each place of a walk is stored
pub stored_among : (k : Kid) (slots : List ℕ) (places : List Place) (place : Place) → AreStoredAt k slots places
    → Contains places place → (slot : ℕ) × IsStoredAt k slot place
stored_among k [] [] place stored found = absurd (omega (arith, found.1))
stored_among k (slot ∷ slots) (first ∷ places) place stored found =
    go (in_cases first place places found) (λ later. stored_among k slots places place stored.1 later)
  where
    go : (first ≡ place) ⊎ Contains places place → (Contains places place → (slot : ℕ) × IsStoredAt k slot place)
        → (slot : ℕ) × IsStoredAt k slot place
    go (inl e) rest = (slot, subst (IsStoredAt k slot) e stored.0)
    go (inr later) rest = rest later
stored_among k _ _ place stored found = absurd stored

-- The first place.

pub record Head (k : Kid) (n : ℕ) (rest : List ℕ) (all_places : List Place) : Type 0 where
  pub place : Place
  pub places : List Place
  pub is : all_places ≡ place ∷ places
  pub stored : IsStoredAt k n place
  pub others : AreStoredAt k rest places
  pub before : All (λ (other : Place). ComesBefore (tree_of k) place other) places
  pub order : AreInWalkOrder (tree_of k) places

pub head_of : (k : Kid) (n : ℕ) (rest : List ℕ) (walk : IsWalk k (n ∷ rest)) → Head k n rest walk.places
head_of k n rest walk = go walk.places refl walk.stored walk.order
  where
    go : (places : List Place) → walk.places ≡ places → AreStoredAt k (n ∷ rest) places → AreInWalkOrder (tree_of k) places
        → Head k n rest walk.places
    go [] e stored order = absurd stored
    go (place ∷ places) e stored order = record {
      place = place;
      places = places;
      is = e;
      stored = stored.0;
      others = stored.1;
      before = order.0;
      order = order.1;
    }

closed_children : (ks : Kids) → AllMarkedAmong true ks
    → ((j : ℕ) (m : ℕ) (plot : Plot) → j < count_kids ks → kid_nth j ks ≡ at m true plot → ⊥) → AreUnplaced (cells_in ks)
closed_children no_kids marked none = tt
closed_children (kid (at slot mark plot) ks) marked none =
    absurd (none 0 slot plot (omega arith) (ap (λ (b : Bool). at slot b plot) marked.0.0))
closed_children (kid _ ks) marked none =
    (tt, closed_children ks marked.1 (λ j m plot h e. none (suc j) m plot (omega arith) e))

pub reaches_child : (place : Place) (k : Kid) (n : ℕ) (mark : Bool) (tracker : Tracker) (kids : Kids) (j : ℕ) → Reaches place k
    → kid_at place k ≡ at n mark (begun_plot tracker kids) → j < count_kids kids → Reaches (place ++ j ∷ []) k
reaches_child [] k n mark tracker kids j reach is h = subst (λ (x : Kid). Reaches (j ∷ []) x) (sym is) (h, tt)
reaches_child (i ∷ place) (at slot s (begun_plot made ks)) n mark tracker kids j reach is h =
    (reach.0, reaches_child place (kid_nth i ks) n mark tracker kids j reach.1 is h)
reaches_child (i ∷ place) _ n mark tracker kids j reach is h = absurd reach

module _ (k : Kid) (n : ℕ) (rest : List ℕ) (walk : IsWalk k (n ∷ rest)) (head : Head k n rest walk.places) where
  pub later : (slot : ℕ) (place : Place) → IsStoredAt k slot place → (head.place ≡ place) ⊎ Contains head.places place
  later slot place stored =
      in_cases head.place place head.places
      (subst (λ (ps : List Place). Contains ps place) head.is (walk.all slot place stored))

  -- no child of it is in a slot: it would come before
  pub head_closed : (cursor : Place) → LeadsUnstored cursor k → IsClosed (body_in head.stored.plot)
  head_closed cursor leads =
      let marked : AllMarked true (at n true head.stored.plot) = subst (AllMarked true) head.stored.is
      (marked_off cursor head.place k leads (off_stored cursor head.place k leads head.stored.is) head.stored.reaches) in
      go head.stored.plot refl marked.1
    where
      below : (tracker : Tracker) (kids : Kids) → head.stored.plot ≡ begun_plot tracker kids → (j m : ℕ) (plot : Plot)
          → j < count_kids kids → kid_nth j kids ≡ at m true plot → ⊥
      below tracker kids e j m plot h is =
          let top : kid_at head.place k ≡ at n true (begun_plot tracker kids)
          = head.stored.is ∙ ap (λ (p : Plot). at n true p) e in
          let child : IsStoredAt k m (head.place ++ j ∷ []) = record {
            plot = plot;
            reaches = reaches_child head.place k n true tracker kids j head.stored.reaches top h;
            is = kid_at_append head.place (j ∷ []) k ∙ ap (λ (x : Kid). kid_at (j ∷ []) x) top ∙ is;
          } in
          let deeper : length head.place < length (head.place ++ j ∷ []) = omega (arith, length-append head.place (j ∷ [])) in
          not (later m (head.place ++ j ∷ []) child) deeper
        where
          not : (head.place ≡ head.place ++ j ∷ []) ⊎ Contains head.places (head.place ++ j ∷ [])
              → length head.place < length (head.place ++ j ∷ []) → ⊥
          not (inl same) deeper =
              let alike : length head.place ≡ length (head.place ++ j ∷ []) = ap (λ (p : Place). length p) same in
              absurd (omega arith)
          not (inr found) deeper =
              before_deeper (tree_of k) head.place (head.place ++ j ∷ []) deeper
              (All-contains (λ (other : Place). ComesBefore (tree_of k) head.place other) head.places
              (head.place ++ j ∷ []) head.before found)

      go : (plot : Plot) → head.stored.plot ≡ plot → AllMarkedIn true plot → IsClosed (body_in plot)
      go (begun_plot tracker kids) e marked = closed_children kids marked (below tracker kids e)
      go _ e marked = tt

  -- once the place is done that is so at its turn, the others are a walk
  pub walk_on : {d : Place} {v : Val} {new : Kid} → IsDone k head.place d v new
      → (next : IsWalk (put_at d new k) rest) × (next.places ≡ head.places)
  walk_on {d} {v} {new} done = (record { places = head.places; stored = stored_on; order = order_on; all = all_on }, refl)
    where
      not_itself : (place : Place) → ComesBefore (tree_of k) head.place place → place ≢ head.place
      not_itself place before e =
          before_itself (tree_of k) head.place (subst (λ (p : Place). ComesBefore (tree_of k) head.place p) e before)

      each : (slots : List ℕ) (places : List Place) → All (λ (other : Place). ComesBefore (tree_of k) head.place other) places
          → AreStoredAt k slots places → AreStoredAt (put_at d new k) slots places
      each [] [] before stored = tt
      each (slot ∷ slots) (place ∷ places) before stored = (
        done.still stored.0 (not_itself place (All-head (λ (other : Place). ComesBefore (tree_of k) head.place other) place places before)),
        each slots places (All-tail (λ (other : Place). ComesBefore (tree_of k) head.place other) place places before) stored.1,
      )
      each _ _ before stored = absurd stored

      stored_on : AreStoredAt (put_at d new k) rest head.places
      stored_on = each rest head.places head.before head.others

      tree_then : tree_of (put_at d new k) ≡ closed_at d v (tree_of k)
      tree_then = tree_put_at d new k ∙ ap (λ (t : Tree). change_at d (λ old. t) (tree_of k)) done.tree

      -- the same steps lead to each of them
      steps_on : All (λ (q : Place). steps_in q (tree_of (put_at d new k)) ≡ steps_in q (tree_of k)) head.places
      steps_on i e h =
          let place : Place = get_or head.places i e in
          let lies = stored_among (put_at d new k) rest head.places place stored_on (Contains-get_or head.places i e h) in
          ap (steps_in place) tree_then ∙ (stays d place v (tree_of k) (reach_place d k done.reach)
          (subst (λ (t : Tree). HasPlace place t) tree_then (reach_place place (put_at d new k) lies.1.reaches))).steps

      order_on : AreInWalkOrder (tree_of (put_at d new k)) head.places
      order_on =
          pairs_weaker (ComesBefore (tree_of k)) (ComesBefore (tree_of (put_at d new k)))
          (λ (q : Place). steps_in q (tree_of (put_at d new k)) ≡ steps_in q (tree_of k)) (λ p q one other before.
          ap (λ (steps : List PathStep). walk_order steps (steps_in q (tree_of (put_at d new k)))) one
          ∙ ap (walk_order (steps_in p (tree_of k))) other ∙ before) head.places steps_on head.order

      all_on : (slot : ℕ) (place : Place) → IsStoredAt (put_at d new k) slot place → Contains head.places place
      all_on slot place stored = go (later slot place (done.before stored))
        where
          go : (head.place ≡ place) ⊎ Contains head.places place → Contains head.places place
          go (inl e) = absurd (done.no_more (subst (λ (p : Place). IsStoredAt (put_at d new k) slot p) (sym e) stored))
          go (inr found) = found
