-- What stands at the cursor of a builder that is in order suits its shape.
use Rattle.std.proofs.Common.{◌≡◌, ℕ, zero, suc, ◌+◌, ◌<◌, [], ◌∷◌, subst, arith}
use Rattle.fr_moves.specs.Common.{Leads, Mode, OffBut, Place, Site, Suits, Table, Tracker, Tree, Trees, begun, branch, child_as, count_trees, cursor_tree, no_trees, shape_at, shape_in, tree_at, tree_nth}
use Rattle.fr_model.specs.Tree.{shapes_from}
use Rattle.fr_model.specs.Well.{SuitAll}
use Rattle.fr_moves.specs.StateLaws.{IsSiteInOrder}

within : (mode : Mode) (i : ℕ) (Below : Tree → Type 0) (ts : Trees) → OffBut mode i Below ts → i < count_trees ts
within mode i Below no_trees off = absurd off
within mode zero Below (branch t ts) off = omega arith
within mode (suc i) Below (branch t ts) off = let rest = within mode i Below ts off.1 in omega (arith, rest)

open_child : (mode : Mode) (i : ℕ) (Below : Tree → Type 0) (ts : Trees) → OffBut mode i Below ts → Below (tree_nth i ts)
open_child mode i Below no_trees off = absurd off
open_child mode zero Below (branch t ts) off = off.0
open_child mode (suc i) Below (branch t ts) off = open_child mode i Below ts off.1

suits_nth : (table : Table) (s : ℕ) (tracker : Tracker) (first : ℕ) (ts : Trees) (i m : ℕ) → m ≡ first + i → i < count_trees ts
    → SuitAll table (shapes_from table s tracker (count_trees ts) first) ts → Suits table (child_as table s tracker m) (tree_nth i ts)
suits_nth table s tracker first no_trees i m e h all = absurd (omega arith)
suits_nth table s tracker first (branch t ts) zero m e h all =
    let same : first ≡ m = omega arith in
    subst (λ (n : ℕ). Suits table (child_as table s tracker n) t) same all.0
suits_nth table s tracker first (branch t ts) (suc i) m e h all =
    suits_nth table s tracker (suc first) ts i m (omega arith) (omega arith) all.1

suits_along : (mode : Mode) (table : Table) (s : ℕ) (place : Place) (t : Tree) → Suits table s t → Leads mode place t
    → Suits table (shape_in table s place t) (tree_at place t)
suits_along mode table s [] t suits leads = suits
suits_along mode table s (i ∷ place) (begun tracker ts) suits leads =
    suits_along mode table (child_as table s tracker i) place (tree_nth i ts)
    (suits_nth table s tracker 0 ts i i (omega arith) (within mode i (λ child. Leads mode place child) ts leads) suits.1)
    (open_child mode i (λ child. Leads mode place child) ts leads)
suits_along mode table s (i ∷ place) _ suits leads = absurd leads

pub suits_here : (site : Site) → IsSiteInOrder site → Suits site.shapes (shape_at site) (cursor_tree site.state)
suits_here site ordered =
    suits_along site.state.mode site.shapes site.root site.state.cursor site.state.tree ordered.suits ordered.leads
