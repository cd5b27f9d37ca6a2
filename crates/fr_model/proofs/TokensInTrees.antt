-- How often a token stands in a tree that is changed at one place.
use Rattle.std.proofs.Common.{◌≡◌, ◌+◌, ◌<◌, if◌then◌else◌, ◌∷◌}
use Rattle.fr_model.proofs.Common.{ℕ, zero, suc, Bool, true, false, [], refl, ◌∙◌, arith, Option, Some, None, Def, is_empty_struct, Table, def_of, Vals, product, no_vals, first, occurs, vals_occur, Place, child_count, Tracker, tracker_of, fresh, Tree, hole, entered, whole, begun, Trees, no_trees, branch, tree_nth, change_nth, tree_at, change_child, change_at, count_trees, holes, wholes, tree_occurs, trees_occur, Mode, opened_as, opened_value, parts_as, enter, enter_child, Leads}
use Rattle.std.specs.Prelude.{IfSome}
use Rattle.fr_model.specs.PartLaws.{parts_hold}
use Rattle.fr_model.proofs.Agreement.{leads_within, leads_child}

-- a child is entered

pub holes_hold : (n t : ℕ) → trees_occur (holes n) t ≡ 0
holes_hold zero t = refl
holes_hold (suc n) t = let rest = holes_hold n t in omega arith

pub wholes_hold : (vs : Vals) (t : ℕ) → trees_occur (wholes vs) t ≡ vals_occur vs t
wholes_hold no_vals t = refl
wholes_hold (first v vs) t = let rest = wholes_hold vs t in omega arith

pub opened_holds : (tracker : Tracker) (count : ℕ) (tree : Tree) (t : ℕ) → tree_occurs (opened_as tracker count tree) t ≡ tree_occurs tree t
opened_holds tracker count hole t = refl
opened_holds tracker count entered t = holes_hold count t
opened_holds tracker count (begun made trees) t = refl
opened_holds tracker count (whole v) t = go (parts_as tracker v) (parts_hold tracker v t)
  where
    go : (parts : Option Vals) → IfSome parts (λ vs. vals_occur vs t ≡ occurs v t) → tree_occurs (opened_value tracker v parts) t ≡ occurs v t
    go (Some vs) same = wholes_hold vs t ∙ same
    go None same = refl

-- a fresh place holds no token
-- what holds of a place that is entered, and of the empty product where there are no fields, holds of a fresh place
pub fresh_is : (Is : Tree → Type 0) (def : Def) → (is_empty_struct def ≡ true → Is (whole (product no_vals)))
    → (is_empty_struct def ≡ false → Is entered) → Is (fresh def)
fresh_is Is def empty other = go _ refl
  where
    go : (b : Bool) → is_empty_struct def ≡ b → Is (if b then whole (product no_vals) else entered)
    go true e = empty e
    go false e = other e

pub fresh_holds : (def : Def) (t : ℕ) → tree_occurs (fresh def) t ≡ 0
fresh_holds def t = fresh_is (λ (u : Tree). tree_occurs u t ≡ 0) def (λ e. refl) (λ e. refl)

enter_holds : (def : Def) (tree : Tree) (t : ℕ) → tree_occurs (enter def tree) t ≡ tree_occurs tree t
enter_holds def hole t = fresh_holds def t
enter_holds def _ t = refl

enter_nth_holds : (def : Def) (i : ℕ) (trees : Trees) (t : ℕ) → trees_occur (change_nth i (enter def) trees) t ≡ trees_occur trees t
enter_nth_holds def i no_trees t = refl
enter_nth_holds def zero (branch tree trees) t = let here = enter_holds def tree t in omega arith
enter_nth_holds def (suc i) (branch tree trees) t = let rest = enter_nth_holds def i trees t in omega arith

enter_in_holds : (def : Def) (i : ℕ) (tree : Tree) (t : ℕ) → tree_occurs (change_child i (enter def) tree) t ≡ tree_occurs tree t
enter_in_holds def i (begun tracker trees) t = enter_nth_holds def i trees t
enter_in_holds def i _ t = refl

pub enter_child_holds : (table : Table) (s i : ℕ) (tree : Tree) (t : ℕ) → tree_occurs (enter_child table s i tree) t ≡ tree_occurs tree t
enter_child_holds table s i tree t =
    enter_in_holds _ i (opened_as (tracker_of (def_of table s)) (child_count table s) tree) t ∙ opened_holds _ _ tree t

-- a change at the cursor

pub nth_holds : (i : ℕ) (change : Tree → Tree) (trees : Trees) (t : ℕ) → i < count_trees trees
    → trees_occur (change_nth i change trees) t + tree_occurs (tree_nth i trees) t
    ≡ trees_occur trees t + tree_occurs (change (tree_nth i trees)) t
nth_holds i change no_trees t within = absurd (omega arith)
nth_holds zero change (branch tree trees) t within = omega arith
nth_holds (suc i) change (branch tree trees) t within = let rest = nth_holds i change trees t (omega arith) in omega arith

-- what stood there goes, and what stands there now comes
pub change_holds : (mode : Mode) (here : Place) (tree : Tree) (change : Tree → Tree) (t : ℕ) → Leads mode here tree
    → tree_occurs (change_at here change tree) t + tree_occurs (tree_at here tree) t
    ≡ tree_occurs tree t + tree_occurs (change (tree_at here tree)) t
change_holds mode [] tree change t leads = omega arith
change_holds mode (i ∷ here) (begun tracker trees) change t leads =
    let below = change_holds mode here _ change t (leads_child mode i (λ child. Leads mode here child) trees leads) in
    let beside = nth_holds i (λ child. change_at here change child) trees t
    (leads_within mode i (λ child. Leads mode here child) trees leads) in
    omega arith
change_holds mode (i ∷ here) _ change t leads = absurd leads
