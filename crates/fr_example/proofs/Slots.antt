-- The children of a struct that is filled with texts: whole where a field was given one, holes elsewhere.
use Rattle.std.proofs.Common.{◌≡◌, ℕ, zero, suc, ◌+◌, ◌<◌, ◌≤◌, Option, Some, None, refl, sym, ◌∙◌, ap, arith}
use Rattle.fr_shape.specs.Val.{Val}
use Rattle.fr_model.specs.Tree.{Tree, hole, whole, Trees, no_trees, branch, tree_nth, change_nth, holes}

abbrev pub slot_of : Option Val → Tree
slot_of (Some v) = whole v
slot_of None = hole

-- so many children, number i first
abbrev pub slots : (ℕ → Option Val) → (count i : ℕ) → Trees
slots value zero i = no_trees
slots value (suc count) i = branch (slot_of (value i)) (slots value count (suc i))

pub slots_holes : (count i : ℕ) → holes count ≡ slots (λ k. None) count i
slots_holes zero i = refl
slots_holes (suc count) i = ap (λ (ts : Trees). branch hole ts) (slots_holes count (suc i))

pub slots_same : (f g : ℕ → Option Val) (count i : ℕ) → ((k : ℕ) → i ≤ k → f k ≡ g k) → slots f count i ≡ slots g count i
slots_same f g zero i same = refl
slots_same f g (suc count) i same =
    ap (λ (o : Option Val). branch (slot_of o) (slots f count (suc i))) (same i (omega arith))
    ∙ ap (λ (ts : Trees). branch (slot_of (g i)) ts)
    (slots_same f g count (suc i) (λ k above. same k (omega arith)))

-- a value that is put at child j shows there, and nowhere else
pub put_slot : (f g : ℕ → Option Val) (v : Val) (count i k j : ℕ) → j ≡ i + k → g j ≡ Some v
    → ((m : ℕ) → ¬ (m ≡ j) → f m ≡ g m)
    → change_nth k (λ old. whole v) (slots f count i) ≡ slots g count i
put_slot f g v zero i k j e here others = refl
put_slot f g v (suc count) i zero j e here others =
    let at : i ≡ j = omega arith in
    ap (λ (o : Option Val). branch (slot_of o) (slots f count (suc i))) (sym (ap g at ∙ here))
    ∙ ap (λ (ts : Trees). branch (slot_of (g i)) ts)
    (slots_same f g count (suc i) (λ m above. others m (λ same. omega arith)))
put_slot f g v (suc count) i (suc k) j e here others =
    ap (λ (o : Option Val). branch (slot_of o) (change_nth k (λ old. whole v) (slots f count (suc i))))
    (others i (λ same. omega arith))
    ∙ ap (λ (ts : Trees). branch (slot_of (g i)) ts)
    (put_slot f g v count (suc i) k j (omega arith) here others)

-- what was put at a child before doesn't matter
pub put_again : (k : ℕ) (v : Val) (change : Tree → Tree) (ts : Trees)
    → change_nth k (λ old. whole v) (change_nth k change ts) ≡ change_nth k (λ old. whole v) ts
put_again k v change no_trees = refl
put_again zero v change (branch t ts) = refl
put_again (suc k) v change (branch t ts) = ap (λ (us : Trees). branch t us) (put_again k v change ts)

-- it is there
pub put_there : (k : ℕ) (v : Val) (f : ℕ → Option Val) (count i : ℕ) (change : Tree → Tree) → k < count
    → tree_nth k (change_nth k (λ old. whole v) (change_nth k change (slots f count i))) ≡ whole v
put_there k v f zero i change below = absurd (omega arith)
put_there zero v f (suc count) i change below = refl
put_there (suc k) v f (suc count) i change below = put_there k v f count (suc i) change (omega arith)
