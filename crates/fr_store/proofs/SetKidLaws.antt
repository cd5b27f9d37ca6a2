-- Laws of the children of a set, for proofs: one of them goes, and a value comes behind the others unless it is there.
use Rattle.std.proofs.Common.{◌≡◌, ◌≢◌, ◌⊎◌, ℕ, zero, suc, Bool, true, false, ◌||◌, List, [], ◌∷◌, ◌++◌, inl, inr, refl, sym, ◌∙◌, ap, subst, arith, if◌then◌else◌}
use Rattle.fr_store.specs.Common.{AllMarkedAmong, AreLeftAll, AreUnplaced, Cell, IsClosed, IsPlaced, ItemsKind, Kid, Kids, Place, Plot, StoredBut, Tracker, Trees, Val, and_last, as_items, at, body_in, branch, cell_of, cells_in, given, gone, kid, kid_nth, no_kids, put_nth, same_or_other, there, tree_of, trees_in, whole}
use Rattle.fr_shape.specs.Same.{same}
use Rattle.fr_model.specs.Collections.{and_item, has_same, is_set_tracker, without_nth}
use Rattle.fr_values.specs.Cells.{and_item_cell, has_same_cell, without_cell}
use Rattle.fr_store.proofs.ItemsOfTops.{kids_and_last, trees_and_last}
use Rattle.fr_store.proofs.PlacesBeside.{closed_below, none_below, not_placed}

-- Children: one goes, and a value comes unless it is there.

pub kids_without : ℕ → Kids → Kids
kids_without i no_kids = no_kids
kids_without zero (kid k ks) = ks
kids_without (suc i) (kid k ks) = kid k (kids_without i ks)

abbrev pub kids_and_item : Kids → Val → Kids
kids_and_item ks v = if has_same_cell v (cells_in ks) then ks else kids_and_last ks (there v)

pub cells_without : (i : ℕ) (ks : Kids) → cells_in (kids_without i ks) ≡ without_cell i (cells_in ks)
unfolding kids_without
cells_without i no_kids = refl
cells_without zero (kid k ks) = refl
cells_without (suc i) (kid k ks) = ap (λ (cs : List Cell). cell_of k ∷ cs) (cells_without i ks)

pub trees_without : (i : ℕ) (ks : Kids) → trees_in (kids_without i ks) ≡ without_nth i (trees_in ks)
unfolding kids_without
trees_without i no_kids = refl
trees_without zero (kid k ks) = refl
trees_without (suc i) (kid k ks) = ap (λ (ts : Trees). branch (tree_of k) ts) (trees_without i ks)

cells_and_value : (ks : Kids) (v : Val) → cells_in (kids_and_last ks (there v)) ≡ cells_in ks ++ given v ∷ []
cells_and_value no_kids v = refl
cells_and_value (kid k ks) v = ap (λ (cs : List Cell). cell_of k ∷ cs) (cells_and_value ks v)

pub cells_item : (ks : Kids) (v : Val) → cells_in (kids_and_item ks v) ≡ and_item_cell (cells_in ks) v
cells_item ks v = go (has_same_cell v (cells_in ks))
  where
    go : (is : Bool) → cells_in (if is then ks else kids_and_last ks (there v))
        ≡ (if is then cells_in ks else cells_in ks ++ given v ∷ [])
    go true = refl
    go false = cells_and_value ks v

same_trees : (ks : Kids) (v : Val) → AreUnplaced (cells_in ks) → has_same_cell v (cells_in ks) ≡ has_same v (trees_in ks)
same_trees no_kids v closed = refl
same_trees (kid gone ks) v closed = ap (λ (b : Bool). false || b) (same_trees ks v closed.1)
same_trees (kid (there u) ks) v closed = ap (λ (b : Bool). same u v || b) (same_trees ks v closed.1)
same_trees (kid (at slot stored plot) ks) v closed = absurd closed.0

pub trees_item : (ks : Kids) (v : Val) → AreUnplaced (cells_in ks) → trees_in (kids_and_item ks v) ≡ and_item (trees_in ks) v
trees_item ks v closed =
    go (has_same_cell v (cells_in ks))
    ∙ ap (λ (is : Bool). if is then trees_in ks else and_last (trees_in ks) (whole v)) (same_trees ks v closed)
  where
    go : (is : Bool) → trees_in (if is then ks else kids_and_last ks (there v))
        ≡ (if is then trees_in ks else and_last (trees_in ks) (whole v))
    go true = refl
    go false = trees_and_last ks (there v)

-- none of them is in a slot
pub unplaced_without : (i : ℕ) (ks : Kids) → AreUnplaced (cells_in (put_nth i gone ks)) → AreUnplaced (cells_in (kids_without i ks))
unfolding kids_without
unplaced_without i no_kids closed = tt
unplaced_without zero (kid k ks) closed = closed.1
unplaced_without (suc i) (kid k ks) closed = (closed.0, unplaced_without i ks closed.1)

unplaced_value : (ks : Kids) (v : Val) → AreUnplaced (cells_in ks) → AreUnplaced (cells_in (kids_and_last ks (there v)))
unplaced_value no_kids v closed = (tt, tt)
unplaced_value (kid k ks) v closed = (closed.0, unplaced_value ks v closed.1)

pub unplaced_item : (ks : Kids) (v : Val) → AreUnplaced (cells_in ks) → AreUnplaced (cells_in (kids_and_item ks v))
unplaced_item ks v closed = go (has_same_cell v (cells_in ks))
  where
    go : (is : Bool) → AreUnplaced (cells_in (if is then ks else kids_and_last ks (there v)))
    go true = closed
    go false = unplaced_value ks v closed

pub set_left : (i : ℕ) (ks : Kids) → AreUnplaced (cells_in ks) → AreLeftAll (as_items ItemsKind.Set) i ks
set_left i no_kids closed = omega arith
set_left i (kid (at slot stored plot) ks) closed = absurd closed.0
set_left i (kid _ ks) closed = (refl, tt, set_left (suc i) ks closed.1)

-- Of a set's items but the one on the way none is in a slot.

among_unplaced : (i : ℕ) (ks : Kids) → AllMarkedAmong true ks → AreLeftAll (as_items ItemsKind.Set) i ks → AreUnplaced (cells_in ks)
among_unplaced i no_kids marks left = tt
among_unplaced i (kid (at slot stored plot) ks) marks left =
    let apart : true ≡ false = sym marks.0.0 ∙ left.0 in
    absurd (cc)
among_unplaced i (kid _ ks) marks left = (tt, among_unplaced (suc i) ks marks.1 left.2)

pub others_unplaced : (i first : ℕ) (Below : Kid → Type 0) (ks : Kids) → StoredBut i Below ks → AreLeftAll (as_items ItemsKind.Set) first ks
    → AreUnplaced (cells_in (put_nth i gone ks))
others_unplaced i first Below no_kids but left = absurd but
others_unplaced zero first Below (kid k ks) but left = (tt, among_unplaced (suc first) ks but.1 left.2)
others_unplaced (suc i) first Below (kid (at slot stored plot) ks) but left =
    let apart : true ≡ false = sym but.0.0 ∙ left.0 in
    absurd (cc)
others_unplaced (suc i) first Below (kid _ ks) but left = (tt, others_unplaced i (suc first) Below ks but.1 left.2)

pub set_tracker : (tracker : Tracker) → is_set_tracker tracker ≡ true → tracker ≡ as_items ItemsKind.Set
set_tracker (as_items ItemsKind.Set) of_set = refl
set_tracker _ of_set = absurd (cc)

beside_unplaced : (i j : ℕ) (ks : Kids) (way : Place) → i ≢ j → AreUnplaced (cells_in (put_nth i gone ks))
    → IsPlaced (kid_nth j ks) way → ⊥
beside_unplaced i j no_kids way unlike closed lies = not_placed gone way tt lies
beside_unplaced zero zero (kid k ks) way unlike closed lies = unlike refl
beside_unplaced zero (suc j) (kid k ks) way unlike closed lies = none_below j ks closed.1 lies
beside_unplaced (suc i) zero (kid k ks) way unlike closed lies = not_placed k way closed.0 lies
beside_unplaced (suc i) (suc j) (kid k ks) way unlike closed lies =
    beside_unplaced i j ks way (λ e. unlike (ap suc e)) closed.1 lies

-- of all places beneath the set only this one is, where none of its children is in a slot
pub only_placed : (i j : ℕ) (ks : Kids) (way : Place) → AreUnplaced (cells_in (put_nth i gone ks)) → (slot : ℕ) (stored : Bool) (plot : Plot)
    → kid_nth i ks ≡ at slot stored plot → IsClosed (body_in plot) → IsPlaced (kid_nth j ks) way → j ∷ way ≡ i ∷ []
only_placed i j ks way closed slot stored plot is shut lies = go (same_or_other i j) way lies
  where
    go : (i ≡ j) ⊎ (i ≢ j) → (way : Place) → IsPlaced (kid_nth j ks) way → j ∷ way ≡ i ∷ []
    go (inl e) [] lies = ap (λ (m : ℕ). m ∷ []) (sym e)
    go (inl e) (m ∷ way) lies =
        absurd (closed_below is shut m way (subst (λ (x : ℕ). IsPlaced (kid_nth x ks) (m ∷ way)) (sym e) lies))
    go (inr unlike) way lies = absurd (beside_unplaced i j ks way unlike closed lies)
