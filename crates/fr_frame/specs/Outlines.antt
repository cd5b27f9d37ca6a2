-- What a place tells by itself: of a list how many children it has, and not what they are.
use Rattle.std.specs.Prelude.{Bool, true, false, length, replicate, if◌then◌else◌}
use Rattle.fr_model.specs.Trackers.{Tracker, as_items, ItemsKind}
use Rattle.fr_frame.specs.Bodies.{Body, entered_body, whole_body, begun_body}
use Rattle.fr_values.specs.Cells.{absent}
use Rattle.fr_frame.specs.Heap.{Node}

-- a place that is begun so has items: it is a list or a pointer to a slice
abbrev pub has_items : Tracker → Bool
has_items (as_items ItemsKind.List) = true
has_items (as_items ItemsKind.Slice) = true
has_items (as_items ItemsKind.ClosedSlice) = true
has_items _ = false

-- what was put at a place, but of a list none of its children is told
abbrev pub outline : Body → Body
outline entered_body = entered_body
outline (whole_body v) = whole_body v
outline (begun_body tracker cells) = begun_body tracker (if has_items tracker then replicate (length cells) absent else cells)

-- the place is begun as a list or as a pointer to a slice
abbrev pub is_list_body : Body → Bool
is_list_body entered_body = false
is_list_body (whole_body v) = false
is_list_body (begun_body tracker cells) = has_items tracker

abbrev pub is_begun_body : Body → Bool
is_begun_body entered_body = false
is_begun_body (whole_body v) = false
is_begun_body (begun_body tracker cells) = true

abbrev pub outlined : Node → Node
outlined at = record at { body = outline at.body }
