-- At the end of deferred mode what lay around the cursor rests as it did: a set keeps its items, and a
-- map its base.
use Rattle.std.proofs.Common.{◌≡◌, ◌+◌, ◌≤◌, ◌∷◌}
use Rattle.fr_model.proofs.Common.{subst, ℕ, zero, suc, [], Option, Some, refl, sym, ◌∙◌, ap, ap₂, arith, count_vals, Meanings, Table, none_twice, Vals, no_vals, first, without_nth, complete, complete_all, closed, closed_all, closed_but, begun_with, finished, Place, Column, deferred_column, Tracker, as_items, ItemsKind, as_entries, EntriesKind, Tree, hole, entered, whole, begun, Trees, no_trees, branch, wholes, in_front, IsBase, AreDone, Rests, AllRest, RestBut, IsBehindBase, RestsAround}
use Rattle.fr_model.proofs.Finishes.{begun_with_is, mapped_is, one_more_tree_is}
use Rattle.fr_model.proofs.Wholes.{StartsWith, starts_on, base_long, base_there, base_without, base_with}
use Rattle.fr_model.proofs.Basis.{wholes_rest, one_more_is}
use Rattle.fr_model.proofs.Templates.{some_is}

-- what is closed rests

closed_rests_so : (hooks : Meanings) (table : Table) (s : ℕ) (t u : Tree) → closed hooks table s t ≡ Some u → Rests u
closed_rests_so hooks table s hole u e = let same : hole ≡ u = cc in rw (← same) tt
closed_rests_so hooks table s t u e = let to = mapped_is whole (complete deferred_column hooks table s t) u e in rw to.same tt

closed_all_rest : (hooks : Meanings) (table : Table) (s : ℕ) (tracker : Tracker) (i : ℕ) (ts us : Trees)
    → closed_all hooks table s tracker i ts ≡ Some us → AllRest us
closed_all_rest hooks table s tracker i no_trees us e = let same : no_trees ≡ us = cc in rw (← same) tt
closed_all_rest hooks table s tracker i (branch t ts) us e =
    let parts = one_more_tree_is _ _ us e in
    rw parts.same (
      closed_rests_so hooks table _ t parts.head parts.head_is,
      closed_all_rest hooks table s tracker (suc i) ts parts.tail parts.tail_is,
    )

closed_but_rest : (hooks : Meanings) (table : Table) (s : ℕ) (tracker : Tracker) (on_way : ℕ)
    (becomes : ℕ → Tree → Option Tree) (Below After : Tree → Type 0) (i : ℕ) (ts us : Trees)
    → ((shape : ℕ) (t u : Tree) → Below t → becomes shape t ≡ Some u → After u) → RestBut on_way Below ts
    → closed_but hooks table s tracker on_way becomes i ts ≡ Some us → RestBut on_way After us
closed_but_rest hooks table s tracker on_way becomes Below After i no_trees us step rest e =
    let same : no_trees ≡ us = cc in rw (← same) tt
closed_but_rest hooks table s tracker zero becomes Below After i (branch t ts) us step rest e =
    let parts = one_more_tree_is _ _ us e in
    rw parts.same (step _ t parts.head rest.0 parts.head_is, closed_all_rest hooks table s tracker (suc i) ts parts.tail parts.tail_is)
closed_but_rest hooks table s tracker (suc on_way) becomes Below After i (branch t ts) us step rest e =
    let parts = one_more_tree_is _ _ us e in
    rw parts.same (
      closed_rests_so hooks table _ t parts.head parts.head_is,
      closed_but_rest hooks table s tracker on_way becomes Below After (suc i) ts parts.tail step rest.1 parts.tail_is,
    )

-- what is whole stays as it is

closed_all_wholes : (hooks : Meanings) (table : Table) (s : ℕ) (tracker : Tracker) (i : ℕ) (vs : Vals)
    → closed_all hooks table s tracker i (wholes vs) ≡ Some (wholes vs)
closed_all_wholes hooks table s tracker i no_vals = refl
closed_all_wholes hooks table s tracker i (first v vs) = rw (closed_all_wholes hooks table s tracker (suc i) vs) refl

beside_stay : (hooks : Meanings) (table : Table) (s : ℕ) (tracker : Tracker) (on_way : ℕ)
    (becomes : ℕ → Tree → Option Tree) (i : ℕ) (ts us : Trees) (vs : Vals) → without_nth on_way ts ≡ wholes vs
    → closed_but hooks table s tracker on_way becomes i ts ≡ Some us → without_nth on_way us ≡ wholes vs
beside_stay hooks table s tracker on_way becomes i no_trees us vs are e = let same : no_trees ≡ us = cc in rw (← same) are
beside_stay hooks table s tracker zero becomes i (branch t ts) us vs are e =
    let parts = one_more_tree_is _ _ us e in
    let stay : closed_all hooks table s tracker (suc i) ts ≡ Some (wholes vs)
    = ap (closed_all hooks table s tracker (suc i)) are ∙ closed_all_wholes hooks table s tracker (suc i) vs in
    let there : ◌≡◌ {A = Option Trees} (Some parts.tail) _ = sym parts.tail_is ∙ stay in
    let tail : parts.tail ≡ wholes vs = cc in
    rw parts.same tail
beside_stay hooks table s tracker (suc on_way) becomes i (branch t ts) us no_vals are e = cc
beside_stay hooks table s tracker (suc on_way) becomes i (branch t ts) us (first w ws) are e =
    let parts = one_more_tree_is _ _ us e in
    let here : t ≡ whole w = cc in
    let others : without_nth on_way ts ≡ wholes ws = cc in
    let stays : ◌≡◌ {A = Option Tree} (Some (whole w)) _ = ap (closed hooks table _) (sym here) ∙ parts.head_is in
    let head : parts.head ≡ whole w = cc in
    rw parts.same (ap₂ branch head (beside_stay hooks table s tracker on_way becomes (suc i) ts parts.tail ws others parts.tail_is))

front_stays : (hooks : Meanings) (table : Table) (s : ℕ) (tracker : Tracker) (on_way : ℕ) (becomes : ℕ → Tree → Option Tree) (i : ℕ)
    (vs : Vals) (rest us : Trees) → count_vals vs ≤ on_way
    → closed_but hooks table s tracker on_way becomes i (in_front vs rest) ≡ Some us → StartsWith vs us
front_stays hooks table s tracker on_way becomes i no_vals rest us behind e = record { rest = us; are = refl }
front_stays hooks table s tracker zero becomes i (first v vs) rest us behind e = absurd (omega arith)
front_stays hooks table s tracker (suc on_way) becomes i (first v vs) rest us behind e =
    let parts = one_more_tree_is (Some (whole v)) _ us e in
    let more = front_stays hooks table s tracker on_way becomes (suc i) vs rest parts.tail (omega arith) parts.tail_is in
    let here = parts.head_is in
    let head : parts.head ≡ whole v = cc in
    rw parts.same (starts_on parts.head v parts.tail vs head more)

base_beside_way : (hooks : Meanings) (table : Table) (s base on_way : ℕ) (becomes : ℕ → Tree → Option Tree) (ts us : Trees)
    → closed_but hooks table s (as_entries (EntriesKind.Map base)) on_way becomes 0 ts ≡ Some us → base + base ≤ on_way
    → IsBase base ts → IsBase base us
base_beside_way hooks table s base on_way becomes ts us e behind is =
    let long = base_long base ts is in
    base_there base ts us is (front_stays hooks table s (as_entries (EntriesKind.Map base)) on_way becomes 0 _ is.rest us (omega arith)
    (ap (closed_but hooks table s (as_entries (EntriesKind.Map base)) on_way becomes 0) (sym is.are) ∙ e))

done_beside_way : (hooks : Meanings) (table : Table) (s : ℕ) (tracker : Tracker) (on_way : ℕ)
    (becomes : ℕ → Tree → Option Tree) (ts us : Trees) → closed_but hooks table s tracker on_way becomes 0 ts ≡ Some us
    → IsBehindBase tracker on_way → AreDone tracker (without_nth on_way ts) → AreDone tracker (without_nth on_way us)
done_beside_way hooks table s (as_items ItemsKind.Set) on_way becomes ts us e behind done = record {
  values = done.values;
  are = beside_stay hooks table s (as_items ItemsKind.Set) on_way becomes 0 ts us done.values done.are e;
  once = done.once;
}
done_beside_way hooks table s (as_items ItemsKind.Array) on_way becomes ts us e behind done = record {
  values = done.values;
  are = beside_stay hooks table s (as_items ItemsKind.Array) on_way becomes 0 ts us done.values done.are e;
}
done_beside_way hooks table s (as_entries (EntriesKind.Object keys)) on_way becomes ts us e behind done = record {
  values = done.values;
  are = beside_stay hooks table s (as_entries (EntriesKind.Object keys)) on_way becomes 0 ts us done.values done.are e;
}
done_beside_way hooks table s (as_entries (EntriesKind.Map base)) on_way becomes ts us e behind done =
    base_without base on_way us behind
    (base_beside_way hooks table s base on_way becomes ts us e behind (base_with base on_way ts behind done))
done_beside_way hooks table s _ on_way becomes ts us e behind done = tt

-- the place at the cursor

items_stay : (column : Column) (hooks : Meanings) (table : Table) (s i : ℕ) (vs : Vals)
    → complete_all column hooks table s (as_items ItemsKind.Set) i (wholes vs) ≡ Some vs
items_stay column hooks table s i no_vals = refl
items_stay column hooks table s i (first v vs) = rw (items_stay column hooks table s (suc i) vs) refl

front_completes : (column : Column) (hooks : Meanings) (table : Table) (s base i : ℕ) (vs : Vals) (rest : Trees) (us : Vals)
    → complete_all column hooks table s (as_entries (EntriesKind.Map base)) i (in_front vs rest) ≡ Some us → StartsWith vs (wholes us)
front_completes column hooks table s base i no_vals rest us e = record { rest = wholes us; are = refl }
front_completes column hooks table s base i (first v vs) rest us e =
    let parts = one_more_is (Some v) _ us e in
    let more = front_completes column hooks table s base (suc i) vs rest parts.tail parts.tail_is in
    let here = parts.head_is in
    let head : parts.head ≡ v = cc in
    rw parts.same (starts_on _ v _ vs (ap whole head) more)

base_here : (hooks : Meanings) (table : Table) (s base : ℕ) (ts : Trees) (vs : Vals) → IsBase base ts
    → complete_all deferred_column hooks table s (as_entries (EntriesKind.Map base)) 0 ts ≡ Some vs → IsBase base (wholes vs)
base_here hooks table s base ts vs is e =
    base_there base ts _ is (front_completes deferred_column hooks table s base 0 _ is.rest vs
    (ap (complete_all deferred_column hooks table s _ 0) (sym is.are) ∙ e))

done_here : (hooks : Meanings) (table : Table) (s : ℕ) (tracker : Tracker) (ts : Trees) (vs : Vals) → AreDone tracker ts
    → complete_all deferred_column hooks table s tracker 0 ts ≡ Some vs → AreDone tracker (wholes vs)
done_here hooks table s (as_items ItemsKind.Set) ts vs done e =
    let there : ◌≡◌ {A = Option Vals} (Some done.values) (Some vs) = sym (items_stay deferred_column hooks table s 0 done.values)
    ∙ ap (complete_all deferred_column hooks table s _ 0) (sym done.are) ∙ e in
    let same : done.values ≡ vs = cc in
    record { values = vs; are = refl; once = ap none_twice (sym same) ∙ done.once }
done_here hooks table s (as_items ItemsKind.Array) ts vs done e = record { values = vs; are = refl }
done_here hooks table s (as_entries (EntriesKind.Object keys)) ts vs done e = record { values = vs; are = refl }
done_here hooks table s (as_entries (EntriesKind.Map base)) ts vs done e = base_here hooks table s base ts vs done e
done_here hooks table s _ ts vs done e = tt

pub finish_rests : (hooks : Meanings) (table : Table) (s : ℕ) (cursor : Place) (tree next : Tree) → RestsAround cursor tree
    → finished hooks table s cursor tree ≡ Some next → RestsAround cursor next
finish_rests hooks table s [] hole next rests e = let same : hole ≡ next = cc in rw (← same) tt
finish_rests hooks table s [] entered next rests e = let to = mapped_is whole _ next e in rw to.same tt
finish_rests hooks table s [] (whole v) next rests e = let same : whole v ≡ next = cc in rw (← same) tt
finish_rests hooks table s [] (begun tracker ts) next rests e =
    let to = mapped_is (begun_with tracker) (complete_all deferred_column hooks table s tracker 0 ts) next e in
    rw to.same (begun_with_is (RestsAround []) tracker to.from tt
    (λ apart. (done_here hooks table s tracker ts to.from rests.0 to.is, wholes_rest to.from)))
finish_rests hooks table s (i ∷ place) (begun tracker ts) next rests e =
    let to = mapped_is _
    (closed_but hooks table s tracker i (λ (shape : ℕ) (t : Tree). finished hooks table shape place t) 0 ts) next e in
    rw to.same (
      done_beside_way hooks table s tracker i (λ (shape : ℕ) (t : Tree). finished hooks table shape place t) ts to.from to.is
          rests.2 rests.0,
      closed_but_rest hooks table s tracker i (λ (shape : ℕ) (t : Tree). finished hooks table shape place t)
          (λ child. RestsAround place child) (λ child. RestsAround place child) 0 ts to.from
          (λ shape t u below is. finish_rests hooks table shape place t u below is) rests.1 to.is,
      rests.2,
    )
finish_rests hooks table s (i ∷ place) tree next rests e = subst (RestsAround (i ∷ place)) (some_is tree next e) tt
