-- What is known of a begun place by its looks.
use Rattle.std.proofs.Common.{◌≡◌, ℕ, suc, List, [], ◌∷◌, length, refl, sym, ◌∙◌, ap, subst}
use Rattle.fr_frame.specs.Bodies.{own_tree, trees_of}
use Rattle.fr_frame.specs.Heap.{as_tracker, body_of}
use Rattle.fr_frame.specs.declared.places.PartialValue.{PartialValue}
use Rattle.fr_frame.specs.declared.places.Tracker.{Tracker as Started}
use Rattle.fr_model.specs.Tree.{count_trees}
use Rattle.fr_refusals.specs.Openings.{HasItems}
use Rattle.fr_values.specs.Cells.{Cell}

count_of : (cells : List Cell) → count_trees (trees_of cells) ≡ length cells
count_of [] = refl
count_of (c ∷ cells) = ap suc (count_of cells)

-- what is begun has as many items as it has children
pub begun_items : (partial : PartialValue) (made : Started) (children : List Cell) (count : ℕ) → partial ≡ PartialValue.Begun made children
    → count ≡ length children → HasItems (as_tracker made) count (own_tree (body_of partial))
begun_items partial made children count is counted =
    subst (λ (p : PartialValue). HasItems (as_tracker made) count (own_tree (body_of p))) (sym is)
    (refl, count_of children ∙ sym counted)
