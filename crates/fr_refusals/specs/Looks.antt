-- A place by itself: what is seen of it without its children.
use Rattle.std.specs.Prelude.{◌≡◌, Bool, true, false, List, [], ◌∷◌}
use Rattle.fr_model.specs.Tree.{Tree, hole, entered, whole, begun, holes, count_trees}
use Rattle.fr_frame.specs.Bodies.{Body, entered_body, whole_body, begun_body}
use Rattle.fr_values.specs.Cells.{Cell, absent, given, placed}

-- the same place with none of its children told, but how many there are
abbrev pub bare : Tree → Tree
bare hole = hole
bare entered = entered
bare (whole v) = whole v
bare (begun tracker children) = begun tracker (holes (count_trees children))

-- two places that are alike but for their children
abbrev pub LooksLike : (one other : Tree) → Type 0
LooksLike one other = bare one ≡ bare other

-- the child isn't there
abbrev pub is_absent : Cell → Bool
is_absent absent = true
is_absent (given v) = false
is_absent (placed n) = false

-- the last of these children isn't there
abbrev pub ends_absent : List Cell → Bool
ends_absent [] = false
ends_absent (c ∷ []) = is_absent c
ends_absent (c ∷ d ∷ cells) = ends_absent (d ∷ cells)

-- the place is begun, and the last of its children isn't there
abbrev pub lacks_last : Body → Bool
lacks_last entered_body = false
lacks_last (whole_body v) = false
lacks_last (begun_body tracker cells) = ends_absent cells
