-- Lists and arrays: how they come to be begun, what that means, and what it is refused for.
use Rattle.std.proofs.Common.{◌≡◌, ℕ, refl, ap, subst}
use Rattle.fr_moves.specs.Common.{Def, HasItems, IsFullAs, ItemsKind, PointsRightly, Suits, Table, Tracker, Tree, Trees, and_last, as_items, begun, child_as, count_below, count_trees, def_of, fresh, step_as, tracker_at}
use Rattle.fr_model.specs.Items.{with_item}
use Rattle.fr_frame.specs.Bodies.{TakesItems}
use Rattle.fr_store.specs.StackMoves.{with_item_of, HasTracker}
use Rattle.fr_store.specs.ShapeLaws.{points_rightly}

-- Items.

-- what holds of each that is begun holds of one that has them
pub by_items : (So : Tracker → ℕ → Tree → Type 0) → ((made : Tracker) (ts : Trees) → So made (count_trees ts) (begun made ts))
    → (tracker : Tracker) (count : ℕ) (tree : Tree) → HasItems tracker count tree → So tracker count tree
by_items So each tracker count (begun made ts) has =
    subst (λ (f : Tracker). So f count (begun made ts)) has.0 (subst (λ (n : ℕ). So made n (begun made ts)) has.1 (each made ts))
by_items So each tracker count _ has = absurd has

pub has_tracker : (tracker : Tracker) (count : ℕ) (tree : Tree) → HasItems tracker count tree → HasTracker tracker tree
has_tracker = by_items (λ tracker count tree. HasTracker tracker tree) (λ made ts. refl)

pub has_count : (tracker : Tracker) (count : ℕ) (tree : Tree) → HasItems tracker count tree → count_below tree ≡ count
has_count = by_items (λ tracker count tree. count_below tree ≡ count) (λ made ts. refl)

-- the step to one of them
pub item_step : (def : Def) (i : ℕ) (tracker : Tracker) (count : ℕ) (tree : Tree) → HasItems tracker count tree
    → step_as (tracker_at def tree) i ≡ step_as tracker i
item_step def i = by_items (λ tracker count tree. step_as (tracker_at def tree) i ≡ step_as tracker i) (λ made ts. refl)

-- as many as there are may be there
pub any_count : (def : Def) (tracker : Tracker) (n m : ℕ) → TakesItems tracker → IsFullAs def tracker n → IsFullAs def tracker m
any_count def (as_items ItemsKind.List) n m takes full = full
any_count def (as_items ItemsKind.Slice) n m takes full = full
any_count def (as_items ItemsKind.Set) n m takes full = full
any_count def (as_items ItemsKind.Array) n m takes full = full
any_count def _ n m takes full = absurd takes

-- so many children it may have, each of its shape
pub room_for_all : (table : Table) (s : ℕ) (tracker : Tracker) (count : ℕ) (tree : Tree) → HasItems tracker count tree → Suits table s tree
    → IsFullAs (def_of table s) tracker count × PointsRightly table s tracker
room_for_all table s =
    by_items (λ tracker count tree. Suits table s tree → IsFullAs (def_of table s) tracker count × PointsRightly table s tracker)
    (λ made ts suits. (suits.0.0, points_rightly table s made ts suits.2))

-- one more of them, of this definition
pub item_so : (table : Table) (s : ℕ) (def : Def) (tracker : Tracker) (count : ℕ) (tree : Tree) → HasItems tracker count tree
    → def ≡ def_of table (child_as table s tracker count) → with_item_of def tree ≡ with_item table s tree
item_so table s def =
    by_items
    (λ tracker count tree. def ≡ def_of table (child_as table s tracker count) → with_item_of def tree ≡ with_item table s tree)
    (λ made ts is. ap (λ (d : Def). begun made (and_last ts (fresh d))) is)
