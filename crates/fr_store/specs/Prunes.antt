-- What releasing all that is stored beneath a place does, as contracts see it.
use Rattle.std.specs.Prelude.{◌≡◌, ◌≢◌, ℕ, suc, ◌+◌, ◌<◌, ◌≤◌, true, List, [], map, Option, Some, None, nat_eq}
use Rattle.fr_store.specs.Below.{Body, Cell, Heap, HoldsIn, Kid, Kids, Node, Plan, Plot, absent, at, begun_body, begun_plot, body_in, entered_body, entered_plot, gone, kid, kid_of, no_kids, placed, plot_occurs, there, whole_body, whole_plot, with_body}
use Rattle.fr_values.specs.Cells.{given}
use Rattle.fr_frame.specs.Heap.{depth_limit}
use Rattle.fr_store.specs.Ways.{counts_if, uses_in, uses_among, AllMarkedIn}

-- What lies beneath a place.

abbrev pub kids_in_plot : Plot → Kids
kids_in_plot entered_plot = no_kids
kids_in_plot (whole_plot v) = no_kids
kids_in_plot (begun_plot tracker kids) = kids

abbrev pub kids_below : Kid → Kids
kids_below gone = no_kids
kids_below (there v) = no_kids
kids_below (at slot stored plot) = kids_in_plot plot

-- the children of the place in this slot
abbrev pub beneath : Heap → ℕ → Kids
beneath heap n = kids_below (kid_of heap n)

-- The place in this slot is held with all that lies beneath it, at some depth and by some node of a plan. All beneath that is in
-- slots is stored, and no slot serves twice in it.
pub record IsRooted (heap : Heap) (n : ℕ) : Type 0 where
  pub plan : Plan
  pub found : Node
  pub plot : Plot
  pub here : heap n ≡ Some found
  pub body : found.body ≡ body_in plot
  pub limit : found.depth < depth_limit
  pub holds : HoldsIn plan heap found.node n (suc found.depth) plot
  pub once : (m : ℕ) → counts_if (nat_eq n m) + uses_in plot m ≤ 1
  pub stored : AllMarkedIn true plot

-- how often a token stands in children that are in slots
abbrev pub slotted_occurs : Kid → ℕ → ℕ
slotted_occurs gone t = 0
slotted_occurs (there v) t = 0
slotted_occurs (at slot stored plot) t = plot_occurs plot t

abbrev pub slotted_occur : Kids → ℕ → ℕ
slotted_occur no_kids t = 0
slotted_occur (kid k ks) t = slotted_occurs k t + slotted_occur ks t

-- The place without them.

abbrev pub emptied : Cell → Cell
emptied absent = absent
emptied (given v) = given v
emptied (placed n) = absent

-- the place as it is, but that each child that was in a slot isn't there
abbrev pub pruned : Body → Body
pruned entered_body = entered_body
pruned (whole_body v) = whole_body v
pruned (begun_body tracker cells) = begun_body tracker (map emptied cells)

-- the slots that served in these children are free, the place in slot n is changed so, and all else is as it was
pub record IsPruned (before after : Heap) (n : ℕ) (change : Body → Body) (kids : Kids) : Type 0 where
  pub here : after n ≡ with_body before n change n
  pub free : (m : ℕ) → 0 < uses_among kids m → after m ≡ None
  pub rest : (m : ℕ) → m ≢ n → uses_among kids m ≡ 0 → after m ≡ before m

-- Children that a place has.

abbrev pub cells_in_body : Body → List Cell
cells_in_body entered_body = []
cells_in_body (whole_body v) = []
cells_in_body (begun_body tracker cells) = cells

-- the children of the place that was found
abbrev pub cells_found : Option Node → List Cell
cells_found (Some node) = cells_in_body node.body
cells_found None = []
