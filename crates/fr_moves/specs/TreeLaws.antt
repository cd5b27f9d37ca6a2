-- Changes at one place of a tree, and how often a token stands there.
use Rattle.std.proofs.Common.{◌≡◌, ℕ, zero, suc, ◌+◌, false, [], ◌∷◌, ◌++◌, refl, sym, ◌∙◌, ap, arith, Option}
use Rattle.fr_moves.specs.Common.{Leads, Mode, OffBut, Place, Table, Tree, Trees, Val, begun, branch, change_at, change_child, child_as, holes, is_root, is_set, no_trees, shape_in, tree_at, tree_nth, tree_occurs, up, whole, Field, Tracker, def_of, is_begun_conversion}
use Rattle.fr_model.specs.Collections.{and_item, number_in, with_ended_item, without_nth}
use Rattle.fr_model.specs.Tree.{change_nth, trees_occur, field_along, field_as}
use Rattle.fr_store.specs.StackMoves.{tracker_in}

nth_same : (i : ℕ) (f : Tree → Tree) → ((t : Tree) → f t ≡ t) → (ts : Trees) → change_nth i f ts ≡ ts
nth_same i f same no_trees = refl
nth_same zero f same (branch t ts) = ap (λ (x : Tree). branch x ts) (same t)
nth_same (suc i) f same (branch t ts) = ap (branch t) (nth_same i f same ts)

pub unchanged : (place : Place) (t : Tree) → change_at place (λ old. old) t ≡ t
unchanged [] t = refl
unchanged (i ∷ place) (begun tracker ts) =
    ap (begun tracker) (nth_same i (λ child. change_at place (λ old. old) child) (unchanged place) ts)
unchanged (i ∷ place) _ = refl

nth_alike : (i : ℕ) (f g : Tree → Tree) (ts : Trees) → f (tree_nth i ts) ≡ g (tree_nth i ts)
    → change_nth i f ts ≡ change_nth i g ts
nth_alike i f g no_trees same = refl
nth_alike zero f g (branch t ts) same = ap (λ (x : Tree). branch x ts) same
nth_alike (suc i) f g (branch t ts) same = ap (branch t) (nth_alike i f g ts same)

-- two changes by which the same comes to stand there
pub alike_here : (place : Place) (f g : Tree → Tree) (t : Tree) → f (tree_at place t) ≡ g (tree_at place t)
    → change_at place f t ≡ change_at place g t
alike_here [] f g t same = same
alike_here (i ∷ place) f g (begun tracker ts) same =
    ap (begun tracker) (nth_alike i (λ child. change_at place f child) (λ child. change_at place g child) ts
    (alike_here place f g (tree_nth i ts) same))
alike_here (i ∷ place) f g _ same = refl

-- what stands at a place put there again
pub put_again : (place : Place) (t here : Tree) → tree_at place t ≡ here → change_at place (λ old. here) t ≡ t
put_again place t here is = alike_here place (λ old. here) (λ old. old) t (sym is) ∙ unchanged place t

-- a change of a child of what stands there
pub changed_below : (place : Place) (i : ℕ) (f : Tree → Tree) (t : Tree)
    → change_at (place ++ i ∷ []) f t ≡ change_at place (change_child i f) t
changed_below [] i f t = refl
changed_below (j ∷ place) i f (begun tracker ts) =
    ap (begun tracker)
    (nth_alike j (λ child. change_at (place ++ i ∷ []) f child) (λ child. change_at place (change_child i f) child) ts
    (changed_below place i f (tree_nth j ts)))
changed_below (j ∷ place) i f _ = refl

nth_both : (i : ℕ) (f g h : Tree → Tree) → ((t : Tree) → f (g t) ≡ h t) → (ts : Trees)
    → change_nth i f (change_nth i g ts) ≡ change_nth i h ts
nth_both i f g h same no_trees = refl
nth_both zero f g h same (branch t ts) = ap (λ (x : Tree). branch x ts) (same t)
nth_both (suc i) f g h same (branch t ts) = ap (branch t) (nth_both i f g h same ts)

-- one change after another
pub changed_twice : (place : Place) (f g : Tree → Tree) (t : Tree)
    → change_at place f (change_at place g t) ≡ change_at place (λ x. f (g x)) t
changed_twice [] f g t = refl
changed_twice (i ∷ place) f g (begun tracker ts) =
    ap (begun tracker) (nth_both i (λ child. change_at place f child) (λ child. change_at place g child)
    (λ child. change_at place (λ x. f (g x)) child) (changed_twice place f g) ts)
changed_twice (i ∷ place) f g _ = refl

pub nth_changed : (mode : Mode) (i : ℕ) (Below : Tree → Type 0) (change : Tree → Tree) (ts : Trees) → OffBut mode i Below ts
    → tree_nth i (change_nth i change ts) ≡ change (tree_nth i ts)
nth_changed mode i Below change no_trees leads = absurd leads
nth_changed mode zero Below change (branch t ts) leads = refl
nth_changed mode (suc i) Below change (branch t ts) leads = nth_changed mode i Below change ts leads.1

pub nth_leads : (mode : Mode) (i : ℕ) (Below : Tree → Type 0) (ts : Trees) → OffBut mode i Below ts → Below (tree_nth i ts)
nth_leads mode i Below no_trees off = absurd off
nth_leads mode zero Below (branch t ts) off = off.0
nth_leads mode (suc i) Below (branch t ts) off = nth_leads mode i Below ts off.1

-- what stands there then
pub changed_at : (mode : Mode) (place : Place) (change : Tree → Tree) (t : Tree) → Leads mode place t
    → tree_at place (change_at place change t) ≡ change (tree_at place t)
changed_at mode [] change t leads = refl
changed_at mode (i ∷ place) change (begun tracker ts) leads =
    ap (tree_at place) (nth_changed mode i (λ child. Leads mode place child) (λ child. change_at place change child) ts leads)
    ∙ changed_at mode place change (tree_nth i ts) (nth_leads mode i (λ child. Leads mode place child) ts leads)
changed_at mode (i ∷ place) change _ leads = absurd leads

-- a value that is put over whatever became of a child
pub put_over : (i : ℕ) (v : Val) (change : Tree → Tree) (t : Tree)
    → change_child i (λ old. whole v) (change_child i change t) ≡ change_child i (λ old. whole v) t
put_over i v change (begun tracker ts) = ap (begun tracker) (nth_both i (λ old. whole v) change (λ old. whole v) (λ x. refl) ts)
put_over i v change _ = refl

-- The end of a set's item.

without_changed : (i : ℕ) (f : Tree → Tree) (ts : Trees) → without_nth i (change_nth i f ts) ≡ without_nth i ts
without_changed i f no_trees = refl
without_changed zero f (branch t ts) = refl
without_changed (suc i) f (branch t ts) = ap (branch t) (without_changed i f ts)

ended_over : (i : ℕ) (v : Val) (f : Tree → Tree) (t : Tree) → with_ended_item i v (change_child i f t) ≡ with_ended_item i v t
ended_over i v f (begun tracker ts) = ap (λ (us : Trees). begun tracker (and_item us v)) (without_changed i f ts)
ended_over i v f _ = refl

-- whatever became of the item, the set takes the value with which it ends
pub item_over : (place : Place) (v : Val) (f : Tree → Tree) (t : Tree) → is_root place ≡ false
    → change_at (up place) (with_ended_item (number_in place) v) (change_at place f t)
    ≡ change_at (up place) (with_ended_item (number_in place) v) t
item_over [] v f t below = cc
item_over (i ∷ []) v f t below = ended_over i v f t
item_over (i ∷ j ∷ place) v f (begun tracker ts) below =
    ap (begun tracker) (nth_both i (λ child. change_at (up (j ∷ place)) (with_ended_item (number_in (j ∷ place)) v) child)
    (λ child. change_at (j ∷ place) f child)
    (λ child. change_at (up (j ∷ place)) (with_ended_item (number_in (j ∷ place)) v) child)
    (λ child. item_over (j ∷ place) v f child refl) ts)
item_over (i ∷ j ∷ place) v f _ below = refl

-- The shape of a place doesn't go by what stands there.

nth_kept : (i : ℕ) (So : Tree → Type 0) (f : Tree → Tree) (ts : Trees) → So (f (tree_nth i ts)) → So (tree_nth i ts)
    → So (tree_nth i (change_nth i f ts))
nth_kept i So f no_trees then was = was
nth_kept zero So f (branch t ts) then was = then
nth_kept (suc i) So f (branch t ts) then was = nth_kept i So f ts then was

pub shape_stays : (table : Table) (s : ℕ) (place : Place) (f : Tree → Tree) (t : Tree)
    → shape_in table s place (change_at place f t) ≡ shape_in table s place t
shape_stays table s [] f t = refl
shape_stays table s (i ∷ place) f (begun tracker ts) =
    nth_kept i (λ (child : Tree). shape_in table (child_as table s tracker i) place child
    ≡ shape_in table (child_as table s tracker i) place (tree_nth i ts)) (λ child. change_at place f child) ts
    (shape_stays table (child_as table s tracker i) place f (tree_nth i ts)) refl
shape_stays table s (i ∷ place) f _ = refl

-- nor does the field that it is
pub field_stays : (table : Table) (s : ℕ) (field : Option Field) (place : Place) (f : Tree → Tree) (t : Tree)
    → field_along table s field place (change_at place f t) ≡ field_along table s field place t
field_stays table s field [] f t = refl
field_stays table s field (i ∷ place) f (begun tracker ts) =
    nth_kept i (λ (child : Tree). field_along table (child_as table s tracker i) (field_as (def_of table s) tracker i) place child
    ≡ field_along table (child_as table s tracker i) (field_as (def_of table s) tracker i) place (tree_nth i ts))
    (λ child. change_at place f child) ts
    (field_stays table (child_as table s tracker i) (field_as (def_of table s) tracker i) place f (tree_nth i ts)) refl
field_stays table s field (i ∷ place) f _ = refl

-- what stands above is what it was, as far as its children don't tell
above_stays : {A : Type 0} (tells : Tree → A) → ((tracker : Tracker) (ts us : Trees) → tells (begun tracker ts) ≡ tells (begun tracker us))
    → (place : Place) (f : Tree → Tree) (t : Tree) → is_root place ≡ false
    → tells (tree_at (up place) (change_at place f t)) ≡ tells (tree_at (up place) t)
above_stays {A} tells formed [] f t below = cc
above_stays {A} tells formed (i ∷ j ∷ place) f (begun tracker ts) below =
    nth_kept i (λ (child : Tree). tells (tree_at (up (j ∷ place)) child) ≡ tells (tree_at (up (j ∷ place)) (tree_nth i ts)))
    (λ child. change_at (j ∷ place) f child) ts (above_stays tells formed (j ∷ place) f (tree_nth i ts) refl) refl
above_stays {A} tells formed (i ∷ j ∷ place) f _ below = refl
above_stays {A} tells formed (i ∷ []) f (begun tracker ts) below = formed tracker (change_nth i f ts) ts
above_stays {A} tells formed (i ∷ []) f _ below = refl

-- as what it is begun
pub tracker_stays : (place : Place) (f : Tree → Tree) (t : Tree) → is_root place ≡ false
    → tracker_in (tree_at (up place) (change_at place f t)) ≡ tracker_in (tree_at (up place) t)
tracker_stays = above_stays tracker_in (λ tracker ts us. refl)

-- a set
pub set_stays : (place : Place) (f : Tree → Tree) (t : Tree) → is_root place ≡ false
    → is_set (tree_at (up place) (change_at place f t)) ≡ is_set (tree_at (up place) t)
set_stays = above_stays is_set (λ tracker ts us. refl)

-- a conversion
pub source_stays : (place : Place) (f : Tree → Tree) (t : Tree) → is_root place ≡ false
    → is_begun_conversion (tree_at (up place) (change_at place f t)) ≡ is_begun_conversion (tree_at (up place) t)
source_stays = above_stays is_begun_conversion (λ tracker ts us. refl)

-- its shape
pub shape_above_stays : (table : Table) (s : ℕ) (place : Place) (f : Tree → Tree) (t : Tree)
    → shape_in table s (up place) (change_at place f t) ≡ shape_in table s (up place) t
shape_above_stays table s [] f t = refl
shape_above_stays table s (i ∷ []) f t = refl
shape_above_stays table s (i ∷ j ∷ place) f (begun tracker ts) =
    nth_kept i (λ (child : Tree). shape_in table (child_as table s tracker i) (up (j ∷ place)) child
    ≡ shape_in table (child_as table s tracker i) (up (j ∷ place)) (tree_nth i ts)) (λ child. change_at (j ∷ place) f child) ts
    (shape_above_stays table (child_as table s tracker i) (j ∷ place) f (tree_nth i ts)) refl
shape_above_stays table s (i ∷ j ∷ place) f _ = refl

-- and a value that is put there is put over whatever became of the child
pub put_above : (place : Place) (v : Val) (f : Tree → Tree) (t : Tree) → is_root place ≡ false
    → change_at (up place) (λ old. whole v) (change_at place f t) ≡ change_at (up place) (λ old. whole v) t
put_above [] v f t below = cc
put_above (i ∷ []) v f t below = refl
put_above (i ∷ j ∷ place) v f (begun tracker ts) below =
    ap (begun tracker) (nth_both i (λ child. change_at (up (j ∷ place)) (λ old. whole v) child) (λ child. change_at (j ∷ place) f child)
    (λ child. change_at (up (j ∷ place)) (λ old. whole v) child) (λ child. put_above (j ∷ place) v f child refl) ts)
put_above (i ∷ j ∷ place) v f _ below = refl

-- Tokens.

nth_occur : (mode : Mode) (i : ℕ) (Below : Tree → Type 0) (f : Tree → Tree) (ts : Trees) (n : ℕ) → OffBut mode i Below ts
    → trees_occur (change_nth i f ts) n + tree_occurs (tree_nth i ts) n ≡ trees_occur ts n + tree_occurs (f (tree_nth i ts)) n
nth_occur mode i Below f no_trees n off = absurd off
nth_occur mode zero Below f (branch t ts) n off = omega arith
nth_occur mode (suc i) Below f (branch t ts) n off = omega (arith, nth_occur mode i Below f ts n off.1)

-- the tree has what it had, but for what stood there and what stands there then
pub changed_occur : (mode : Mode) (place : Place) (f : Tree → Tree) (t : Tree) (n : ℕ) → Leads mode place t
    → tree_occurs (change_at place f t) n + tree_occurs (tree_at place t) n
    ≡ tree_occurs t n + tree_occurs (f (tree_at place t)) n
changed_occur mode [] f t n leads = omega arith
changed_occur mode (i ∷ place) f (begun tracker ts) n leads =
    omega (
      arith,
      nth_occur mode i (λ child. Leads mode place child) (λ child. change_at place f child) ts n leads,
      changed_occur mode place f (tree_nth i ts) n (nth_leads mode i (λ child. Leads mode place child) ts leads),
    )
changed_occur mode (i ∷ place) f _ n leads = absurd leads

pub holes_occur : (count n : ℕ) → trees_occur (holes count) n ≡ 0
holes_occur zero n = refl
holes_occur (suc count) n = omega (arith, holes_occur count n)
