-- Items and entries: what takes a new item, and which child is the last.
use Rattle.std.proofs.Common.{◌≡◌, ℕ, suc, None, ap, subst}
use Rattle.fr_work.specs.Common.{Def, HasItems, ItemsKind, Tracker, Tree, as_items, begun, count_below, item_refusal}
use Rattle.fr_model.specs.Items.{begun_item_refusal}
use Rattle.fr_frame.specs.Bodies.{TakesItems}
use Rattle.fr_model.specs.Collections.{last_of}

takes_items : (def : Def) (tracker : Tracker) → begun_item_refusal def tracker ≡ None → TakesItems tracker
takes_items def (as_items ItemsKind.List) may = tt
takes_items def (as_items ItemsKind.Slice) may = tt
takes_items def (as_items ItemsKind.Array) may = tt
takes_items def _ may = cc

pub grows : (def : Def) (tracker : Tracker) (count : ℕ) (tree : Tree) → HasItems tracker count tree → item_refusal def tree ≡ None
    → TakesItems tracker
grows def tracker count (begun made ts) has may = subst TakesItems has.0 (takes_items def made may)
grows def tracker count _ has may = absurd has

pub last_is : (tracker : Tracker) (i : ℕ) (tree : Tree) → HasItems tracker (suc i) tree → last_of (count_below tree) ≡ i
last_is tracker i (begun made ts) has = ap last_of has.1
last_is tracker i _ has = absurd has
