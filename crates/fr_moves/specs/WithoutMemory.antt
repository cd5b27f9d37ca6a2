-- Which places complete without memory.
use Rattle.std.specs.Prelude.{Bool, true, false, ◌||◌, if◌then◌else◌}
use Rattle.fr_model.specs.Tree.{Tree, hole, entered, whole, begun, Trees, no_trees, branch}
use Rattle.fr_frame.specs.Bodies.{boxes, gathers}

abbrev pub has_no_hole : Trees → Bool
has_no_hole no_trees = true
has_no_hole (branch hole ts) = false
has_no_hole (branch t ts) = has_no_hole ts

-- Where its fields pass their validators, completing the place takes no memory: it is whole, or begun with no hole among its
-- children, and neither around one child nor as a pointer to a slice, as the one child, and the list of the items, would be put
-- behind a pointer of its own; nor as a set, a map or a dynamic value, which is put together anew.
abbrev pub takes_no_memory : Tree → Bool
takes_no_memory hole = false
takes_no_memory entered = false
takes_no_memory (whole v) = true
takes_no_memory (begun tracker ts) = if boxes tracker || gathers tracker then false else has_no_hole ts
