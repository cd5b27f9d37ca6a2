-- A tree of strict mode beside one of deferred mode: the same way to the cursor, and off it whole places beside such as make their values.
use Rattle.std.proofs.Common.{◌≡◌, ◌≢◌, ◌<◌, ◌≤◌, ◌∷◌, ◌++◌, ◌⊎◌, inl, inr}
use Rattle.fr_model.proofs.Common.{ℕ, zero, suc, true, [], refl, sym, ap, subst, arith, Table, def_of, Place, Tracker, as_fields, as_elements, as_content, as_items, as_entries, ContentKind, ItemsKind, EntriesKind, Tree, hole, entered, whole, begun, Trees, no_trees, branch, tree_nth, change_nth, child_tree, tree_at, change_at, and_last, count_trees, child_as, shape_in, shape_below, IsFullAs, MayPoint, up}
use Rattle.fr_model.proofs.Basis.{count_change}

-- numbers

pub same_or : (j i : ℕ) → (j ≡ i) ⊎ (j ≢ i)
same_or zero zero = inl refl
same_or zero (suc i) = inr (λ e. omega (arith, e))
same_or (suc j) zero = inr (λ e. omega (arith, e))
same_or (suc j) (suc i) = go (same_or j i)
  where
    go : (j ≡ i) ⊎ (j ≢ i) → (suc j ≡ suc i) ⊎ (suc j ≢ suc i)
    go (inl e) = inl (ap suc e)
    go (inr apart) = inr (λ e. apart (omega (arith, e)))

-- one of the trees

pub nth_changed : (i : ℕ) (change : Tree → Tree) (ts : Trees) → i < count_trees ts
    → tree_nth i (change_nth i change ts) ≡ change (tree_nth i ts)
nth_changed i change no_trees below = absurd (omega (arith, below))
nth_changed zero change (branch t ts) below = refl
nth_changed (suc i) change (branch t ts) below = nth_changed i change ts (omega (arith, below))

pub nth_other : (j i : ℕ) (change : Tree → Tree) (ts : Trees) → j ≢ i → tree_nth j (change_nth i change ts) ≡ tree_nth j ts
nth_other j i change no_trees apart = refl
nth_other zero zero change (branch t ts) apart = absurd (apart refl)
nth_other zero (suc i) change (branch t ts) apart = refl
nth_other (suc j) zero change (branch t ts) apart = refl
nth_other (suc j) (suc i) change (branch t ts) apart = nth_other j i change ts (λ e. apart (ap suc e))

pub nth_before : (j : ℕ) (ts : Trees) (last : Tree) → j < count_trees ts → tree_nth j (and_last ts last) ≡ tree_nth j ts
nth_before j no_trees last below = absurd (omega (arith, below))
nth_before zero (branch t ts) last below = refl
nth_before (suc j) (branch t ts) last below = nth_before j ts last (omega (arith, below))

pub nth_last : (ts : Trees) (last : Tree) → tree_nth (count_trees ts) (and_last ts last) ≡ last
nth_last no_trees last = refl
nth_last (branch t ts) last = nth_last ts last

pub nth_past : (j : ℕ) (ts : Trees) → count_trees ts ≤ j → tree_nth j ts ≡ hole
nth_past j no_trees past = refl
nth_past zero (branch t ts) past = absurd (omega (arith, past))
nth_past (suc j) (branch t ts) past = nth_past j ts (omega (arith, past))

-- what is not past the end
pub nth_there : (j : ℕ) (ts : Trees) → tree_nth j ts ≢ hole → j < count_trees ts
nth_there j no_trees there = absurd (there refl)
nth_there zero (branch t ts) there = omega arith
nth_there (suc j) (branch t ts) there = let below = nth_there j ts there in omega (arith, below)

-- Nodes

-- begun neither as a conversion nor as a dynamic value; a pointer to a slice behind that the table has a slice
abbrev pub IsStraight : Table → ℕ → Tracker → Type 0
IsStraight table s (as_content (ContentKind.Source conversion)) = ⊥
IsStraight table s (as_content ContentKind.Some) = Unit {0}
IsStraight table s (as_content ContentKind.Ok) = Unit {0}
IsStraight table s (as_content ContentKind.Err) = Unit {0}
IsStraight table s (as_content ContentKind.Pointer) = Unit {0}
IsStraight table s (as_fields selected) = Unit {0}
IsStraight table s as_elements = Unit {0}
IsStraight table s (as_items ItemsKind.List) = Unit {0}
IsStraight table s (as_items ItemsKind.Slice) = MayPoint table s true
IsStraight table s (as_items ItemsKind.ClosedSlice) = MayPoint table s true
IsStraight table s (as_items ItemsKind.Set) = Unit {0}
IsStraight table s (as_items ItemsKind.Array) = ⊥
IsStraight table s (as_entries (EntriesKind.Map base)) = Unit {0}
IsStraight table s (as_entries (EntriesKind.Object keys)) = ⊥

abbrev pub IsRightAs : Table → ℕ → Tracker → ℕ → Type 0
IsRightAs table s tracker count = IsFullAs (def_of table s) tracker count × IsStraight table s tracker

-- at a place of shape s on the way stands no hole, and what is begun there is so rightly, with all its children
abbrev pub IsRight : Table → ℕ → Tree → Type 0
IsRight table s hole = ⊥
IsRight table s entered = Unit {0}
IsRight table s (whole v) = Unit {0}
IsRight table s (begun tracker ts) = IsRightAs table s tracker (count_trees ts)

-- A way in one tree

-- something holds of each shape on the way, and what stands there is right
abbrev pub Way : Table → (ℕ → Type 0) → ℕ → Place → Tree → Type 0
Way table Holds s [] t = Holds s × IsRight table s t
Way table Holds s (i ∷ here) t = Holds s × IsRight table s t × Way table Holds (shape_below table s i t) here (child_tree i t)

pub way_right : (table : Table) (Holds : ℕ → Type 0) (s : ℕ) (here : Place) (t : Tree) → Way table Holds s here t → IsRight table s t
way_right table Holds s [] t way = way.1
way_right table Holds s (i ∷ here) t way = way.1

-- at its end
pub way_end : (table : Table) (Holds : ℕ → Type 0) (s : ℕ) (here : Place) (t : Tree) → Way table Holds s here t
    → Holds (shape_in table s here t) × IsRight table (shape_in table s here t) (tree_at here t)
way_end table Holds s [] t way = way
way_end table Holds s (i ∷ here) t way = way_end table Holds (shape_below table s i t) here (child_tree i t) way.2

pub no_hole : (table : Table) (s : ℕ) (t : Tree) → IsRight table s t → t ≢ hole
no_hole table s t right e = subst (IsRight table s) e right

pub way_put : (table : Table) (Holds : ℕ → Type 0) (s : ℕ) (here way : Place) (t m : Tree) → Way table Holds s here t
    → Way table Holds (shape_in table s here t) way m → Way table Holds s (here ++ way) (change_at here (λ old. m) t)
way_put table Holds s [] way t m old new = new
way_put table Holds s (i ∷ here) way hole m old new = absurd old.1
way_put table Holds s (i ∷ here) way entered m old new = absurd (way_right table Holds s here hole old.2)
way_put table Holds s (i ∷ here) way (whole v) m old new = absurd (way_right table Holds s here hole old.2)
way_put table Holds s (i ∷ here) way (begun tracker ts) m old new =
    let there = no_hole table _ _ (way_right table Holds (child_as table s tracker i) here (tree_nth i ts) old.2) in
    let rest = way_put table Holds (child_as table s tracker i) here way (tree_nth i ts) m old.2 new in (
      old.0,
      subst (λ (n : ℕ). IsRightAs table s tracker n) (sym (count_change i _ ts)) old.1,
      subst (λ (u : Tree). Way table Holds (child_as table s tracker i) (here ++ way) u)
          (sym (nth_changed i (λ child. change_at here (λ old. m) child) ts (nth_there i ts there))) rest,
    )

pub way_up : (table : Table) (Holds : ℕ → Type 0) (s : ℕ) (here : Place) (t : Tree) → Way table Holds s here t → Way table Holds s (up here) t
way_up table Holds s [] t way = way
way_up table Holds s (i ∷ []) t way = (way.0, way.1)
way_up table Holds s (i ∷ j ∷ here) t way =
    (way.0, way.1, way_up table Holds (shape_below table s i t) (j ∷ here) (child_tree i t) way.2)
