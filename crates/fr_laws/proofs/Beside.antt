-- A tree of which one child of a place is changed, as another child of that place sees it.
use Rattle.std.proofs.Common.{◌≡◌, ◌≢◌, ◌∷◌, ◌++◌}
use Rattle.fr_model.proofs.Common.{ℕ, zero, suc, [], Option, refl, ap, Field, Table, def_of, Place, up, field_as, field_along, shape_in, is_begun_dynamic, is_set, Tree, hole, begun, Trees, no_trees, branch, tree_nth, change_nth, change_child, tree_at, change_at, child_as, IsTouched}

-- among children

pub nth_kept : {A : Type 0} (see : Tree → A) (change : Tree → Tree) → ((t : Tree) → see (change t) ≡ see t) → (k : ℕ) (ts : Trees)
    → see (tree_nth k (change_nth k change ts)) ≡ see (tree_nth k ts)
nth_kept see change keeps k no_trees = refl
nth_kept see change keeps zero (branch t ts) = keeps t
nth_kept see change keeps (suc k) (branch t ts) = nth_kept see change keeps k ts

nth_other : (i j : ℕ) (change : Tree → Tree) → i ≢ j → (ts : Trees) → tree_nth i (change_nth j change ts) ≡ tree_nth i ts
nth_other i j change apart no_trees = refl
nth_other zero zero change apart (branch t ts) = absurd (apart refl)
nth_other zero (suc j) change apart (branch t ts) = refl
nth_other (suc i) zero change apart (branch t ts) = refl
nth_other (suc i) (suc j) change apart (branch t ts) = nth_other i j change (λ e. apart (ap suc e)) ts

nths_apart : (i j : ℕ) (f g : Tree → Tree) → i ≢ j → (ts : Trees)
    → change_nth i f (change_nth j g ts) ≡ change_nth j g (change_nth i f ts)
nths_apart i j f g apart no_trees = refl
nths_apart zero zero f g apart (branch t ts) = absurd (apart refl)
nths_apart zero (suc j) f g apart (branch t ts) = refl
nths_apart (suc i) zero f g apart (branch t ts) = refl
nths_apart (suc i) (suc j) f g apart (branch t ts) = ap (branch t) (nths_apart i j f g (λ e. apart (ap suc e)) ts)

nth_twice : (f g f' g' : Tree → Tree) → ((t : Tree) → f (g t) ≡ g' (f' t)) → (k : ℕ) (ts : Trees)
    → change_nth k f (change_nth k g ts) ≡ change_nth k g' (change_nth k f' ts)
nth_twice f g f' g' same k no_trees = refl
nth_twice f g f' g' same zero (branch t ts) = ap (λ (u : Tree). branch u ts) (same t)
nth_twice f g f' g' same (suc k) (branch t ts) = ap (branch t) (nth_twice f g f' g' same k ts)

nth_after : (f g h : Tree → Tree) → ((t : Tree) → f (g t) ≡ h t) → (k : ℕ) (ts : Trees)
    → change_nth k f (change_nth k g ts) ≡ change_nth k h ts
nth_after f g h same k no_trees = refl
nth_after f g h same zero (branch t ts) = ap (λ (u : Tree). branch u ts) (same t)
nth_after f g h same (suc k) (branch t ts) = ap (branch t) (nth_after f g h same k ts)

-- only what stands at the child matters
nth_there : (f g : Tree → Tree) (k : ℕ) (ts : Trees) → f (tree_nth k ts) ≡ g (tree_nth k ts) → change_nth k f ts ≡ change_nth k g ts
nth_there f g k no_trees same = refl
nth_there f g zero (branch t ts) same = ap (λ (u : Tree). branch u ts) same
nth_there f g (suc k) (branch t ts) same = ap (branch t) (nth_there f g k ts same)

nth_as_it_is : (f : Tree → Tree) (k : ℕ) (ts : Trees) → f (tree_nth k ts) ≡ tree_nth k ts → change_nth k f ts ≡ ts
nth_as_it_is f k no_trees same = refl
nth_as_it_is f zero (branch t ts) same = ap (λ (u : Tree). branch u ts) same
nth_as_it_is f (suc k) (branch t ts) same = ap (branch t) (nth_as_it_is f k ts same)

-- beneath another child

module _ (i j : ℕ) (apart : i ≢ j) (way : Place) (change : Tree → Tree) where
  pub tree_beside : (here : Place) (t : Tree) → tree_at (here ++ i ∷ way) (change_at (here ++ j ∷ []) change t) ≡ tree_at (here ++ i ∷ way) t
  tree_beside [] (begun tracker ts) = ap (tree_at way) (nth_other i j change apart ts)
  tree_beside [] _ = refl
  tree_beside (k ∷ here) (begun tracker ts) = nth_kept _ _ (tree_beside here) k ts
  tree_beside (k ∷ here) _ = refl

  pub shape_beside : (table : Table) (s : ℕ) (here : Place) (t : Tree)
      → shape_in table s (here ++ i ∷ way) (change_at (here ++ j ∷ []) change t) ≡ shape_in table s (here ++ i ∷ way) t
  shape_beside table s [] (begun tracker ts) = ap (shape_in table (child_as table s tracker i) way) (nth_other i j change apart ts)
  shape_beside table s [] _ = refl
  shape_beside table s (k ∷ here) (begun tracker ts) = nth_kept _ _ (shape_beside table (child_as table s tracker k) here) k ts
  shape_beside table s (k ∷ here) _ = refl

  pub field_beside : (table : Table) (s : ℕ) (field : Option Field) (here : Place) (t : Tree)
      → field_along table s field (here ++ i ∷ way) (change_at (here ++ j ∷ []) change t) ≡ field_along table s field (here ++ i ∷ way) t
  field_beside table s field [] (begun tracker ts) =
      ap (field_along table (child_as table s tracker i) (field_as (def_of table s) tracker i) way) (nth_other i j change apart ts)
  field_beside table s field [] _ = refl
  field_beside table s field (k ∷ here) (begun tracker ts) =
      nth_kept _ _ (field_beside table (child_as table s tracker k) (field_as (def_of table s) tracker k) here) k ts
  field_beside table s field (k ∷ here) _ = refl

  pub changes_beside : (other : Tree → Tree) (here : Place) (t : Tree)
      → change_at (here ++ i ∷ way) other (change_at (here ++ j ∷ []) change t)
      ≡ change_at (here ++ j ∷ []) change (change_at (here ++ i ∷ way) other t)
  changes_beside other [] (begun tracker ts) = ap (begun tracker) (nths_apart i j (λ child. change_at way other child) change apart ts)
  changes_beside other [] _ = refl
  changes_beside other (k ∷ here) (begun tracker ts) = ap (begun tracker) (nth_twice _ _ _ _ (changes_beside other here) k ts)
  changes_beside other (k ∷ here) _ = refl

-- the place above

-- what one sees of a place whatever becomes of its children
abbrev pub IsSeenAbove : {A : Type 0} → (see : Tree → A) → Type 0
IsSeenAbove see = (k : ℕ) (change : Tree → Tree) (t : Tree) → see (change_child k change t) ≡ see t

pub above_kept : {A : Type 0} (see : Tree → A) → IsSeenAbove see → (here : Place) (k : ℕ) (way : Place) (change : Tree → Tree) (t : Tree)
    → see (tree_at here (change_at (here ++ k ∷ way) change t)) ≡ see (tree_at here t)
above_kept see seen [] k way change t = seen k (λ child. change_at way change child) t
above_kept see seen (l ∷ here) k way change (begun tracker ts) = nth_kept _ _ (above_kept see seen here k way change) l ts
above_kept see seen (l ∷ here) k way change _ = refl

pub set_above : IsSeenAbove is_set
set_above k change (begun tracker ts) = refl
set_above k change _ = refl

pub dynamic_above : IsSeenAbove is_begun_dynamic
dynamic_above k change (begun tracker ts) = refl
dynamic_above k change _ = refl

pub shape_above : (table : Table) (s : ℕ) (here : Place) (k : ℕ) (way : Place) (change : Tree → Tree) (t : Tree)
    → shape_in table s here (change_at (here ++ k ∷ way) change t) ≡ shape_in table s here t
shape_above table s [] k way change t = refl
shape_above table s (l ∷ here) k way change (begun tracker ts) =
    nth_kept _ _ (shape_above table (child_as table s tracker l) here k way change) l ts
shape_above table s (l ∷ here) k way change _ = refl

pub shape_there : (table : Table) (s : ℕ) (here : Place) (change : Tree → Tree) (t : Tree)
    → shape_in table s here (change_at here change t) ≡ shape_in table s here t
shape_there table s [] change t = refl
shape_there table s (l ∷ here) change (begun tracker ts) = nth_kept _ _ (shape_there table (child_as table s tracker l) here change) l ts
shape_there table s (l ∷ here) change _ = refl

-- at one place

pub changed_at_child : (here : Place) (k : ℕ) (way : Place) (change : Tree → Tree) (t : Tree)
    → change_at (here ++ k ∷ way) change t ≡ change_at (here ++ k ∷ []) (λ child. change_at way change child) t
changed_at_child [] k way change t = refl
changed_at_child (l ∷ here) k way change (begun tracker ts) =
    ap (begun tracker) (nth_there _ _ l ts (changed_at_child here k way change (tree_nth l ts)))
changed_at_child (l ∷ here) k way change _ = refl

pub changed_twice : (here : Place) (f g : Tree → Tree) (t : Tree) → change_at here f (change_at here g t) ≡ change_at here (λ u. f (g u)) t
changed_twice [] f g t = refl
changed_twice (l ∷ here) f g (begun tracker ts) = ap (begun tracker) (nth_after _ _ _ (changed_twice here f g) l ts)
changed_twice (l ∷ here) f g _ = refl

pub changed_there : (here : Place) (f g : Tree → Tree) (t : Tree) → f (tree_at here t) ≡ g (tree_at here t)
    → change_at here f t ≡ change_at here g t
changed_there [] f g t same = same
changed_there (l ∷ here) f g (begun tracker ts) same =
    ap (begun tracker) (nth_there _ _ l ts (changed_there here f g (tree_nth l ts) same))
changed_there (l ∷ here) f g _ same = refl

pub left_as_it_is : (here : Place) (f : Tree → Tree) (t : Tree) → f (tree_at here t) ≡ tree_at here t → change_at here f t ≡ t
left_as_it_is [] f t same = same
left_as_it_is (l ∷ here) f (begun tracker ts) same =
    ap (begun tracker) (nth_as_it_is _ l ts (left_as_it_is here f (tree_nth l ts) same))
left_as_it_is (l ∷ here) f _ same = refl

-- a change of a child of what the place has become
pub changed_child : (here : Place) (k : ℕ) (f : Tree → Tree) (t : Tree) → change_at (here ++ k ∷ []) f t ≡ change_at here (change_child k f) t
changed_child [] k f t = refl
changed_child (l ∷ here) k f (begun tracker ts) = ap (begun tracker) (nth_there _ _ l ts (changed_child here k f (tree_nth l ts)))
changed_child (l ∷ here) k f _ = refl

-- nothing stands beneath a hole
hole_below : (here : Place) → IsTouched (tree_at here hole) → ⊥
hole_below [] touched = absurd touched
hole_below (k ∷ here) touched = hole_below here touched

nth_touched : (here : Place) (f g : Tree → Tree) → ((t : Tree) → IsTouched (tree_at here t) → tree_at here (f t) ≡ g (tree_at here t))
    → (k : ℕ) (ts : Trees) → IsTouched (tree_at here (tree_nth k ts))
    → tree_at here (tree_nth k (change_nth k f ts)) ≡ g (tree_at here (tree_nth k ts))
nth_touched here f g is k no_trees touched = absurd (hole_below here touched)
nth_touched here f g is zero (branch t ts) touched = is t touched
nth_touched here f g is (suc k) (branch t ts) touched = nth_touched here f g is k ts touched

-- what is changed is there, where no hole stood
pub tree_changed : (here : Place) (f : Tree → Tree) (t : Tree) → IsTouched (tree_at here t) → tree_at here (change_at here f t) ≡ f (tree_at here t)
tree_changed [] f t touched = refl
tree_changed (k ∷ here) f (begun tracker ts) touched =
    nth_touched here (λ child. change_at here f child) f (λ child. tree_changed here f child) k ts touched
tree_changed (k ∷ here) f _ touched = absurd (hole_below here touched)

-- the cursor goes up

pub up_from_child : (here : Place) (k : ℕ) → up (here ++ k ∷ []) ≡ here
up_from_child [] k = refl
up_from_child (l ∷ []) k = refl
up_from_child (l ∷ m ∷ here) k = ap (λ (place : Place). l ∷ place) (up_from_child (m ∷ here) k)

pub up_beneath : (here : Place) (k m : ℕ) (way : Place) → up (here ++ k ∷ m ∷ way) ≡ here ++ k ∷ up (m ∷ way)
up_beneath [] k m way = refl
up_beneath (l ∷ []) k m way = refl
up_beneath (l ∷ n ∷ here) k m way = ap (λ (place : Place). l ∷ place) (up_beneath (n ∷ here) k m way)

pub beneath_is_apart : (here : Place) (k : ℕ) (way : Place) → here ++ k ∷ way ≢ here
beneath_is_apart [] k way e = cc
beneath_is_apart (l ∷ here) k way e = beneath_is_apart here k way cc
