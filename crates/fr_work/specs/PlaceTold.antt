-- What was put at the place on top says what stands there. Only the contracts inside this crate speak of it.
use Rattle.std.specs.Prelude.{◌≡◌, List, [], ◌∷◌, Some}
use Rattle.std.specs.Option.{option_map}
use Rattle.fr_model.specs.Tree.{Tree, Trees, hole, entered, whole, begun, no_trees, branch}
use Rattle.fr_values.specs.Cells.{Cell, absent, given, placed}
use Rattle.fr_frame.specs.Bodies.{Body, entered_body, whole_body, begun_body}
use Rattle.fr_frame.specs.Heap.{Heap, Node, heap_of}
use Rattle.fr_frame.specs.Kids.{Kid, gone, there, at, Kids, no_kids, kid, Plot, entered_plot, whole_plot, begun_plot, body_in, tree_in}
use Rattle.fr_frame.specs.Outlines.{outline}
use Rattle.fr_frame.specs.declared.places.Slot.{Slot}

-- what lies in a slot of its own is found there
abbrev pub IsFound : Heap → Kid → Type 0
IsFound heap gone = Unit {0}
IsFound heap (there v) = Unit {0}
IsFound heap (at slot stored plot) = option_map (λ (found : Node). found.body) (heap slot) ≡ Some (body_in plot)

abbrev pub AreFound : Heap → Kids → Type 0
AreFound heap no_kids = Unit {0}
AreFound heap (kid k ks) = IsFound heap k × AreFound heap ks

-- so it is of all children that lie there
abbrev pub HasFound : Heap → Plot → Type 0
HasFound heap entered_plot = Unit {0}
HasFound heap (whole_plot v) = Unit {0}
HasFound heap (begun_plot tracker kids) = AreFound heap kids

-- What was put at a place, with children in these slots, says what stands there; of a list it says how many items there are.
pub record Says (slots : List Slot) (body : Body) (tree : Tree) : Type 0 where
  pub plot : Plot
  pub told : outline body ≡ outline (body_in plot)
  pub stands : tree_in plot ≡ tree
  pub found : HasFound (heap_of slots) plot

-- A tree that tells by itself whether each child is there: one that lies in a slot of its own is told as entered.

abbrev pub seen_child : Cell → Tree
seen_child absent = hole
seen_child (given v) = whole v
seen_child (placed n) = entered

abbrev pub seen_children : List Cell → Trees
seen_children [] = no_trees
seen_children (c ∷ cs) = branch (seen_child c) (seen_children cs)

abbrev pub seen_tree : Body → Tree
seen_tree entered_body = entered
seen_tree (whole_body v) = whole v
seen_tree (begun_body tracker cells) = begun tracker (seen_children cells)
