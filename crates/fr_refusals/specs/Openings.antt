-- Which places come to be begun as their definition tells, and which take items.
use Rattle.std.specs.Prelude.{◌≡◌, ℕ, Bool, true, false}
use Rattle.fr_shape.specs.declared.shape.Def.{Def}
use Rattle.fr_frame.specs.Bodies.{MayOpen, whole_body}
use Rattle.fr_model.specs.Places.{count_children}
use Rattle.fr_model.specs.Trackers.{Tracker, is_conversion}
use Rattle.fr_model.specs.Tree.{tracker_of, Tree, hole, entered, whole, begun, count_trees}

-- the place is begun
abbrev pub is_begun : Tree → Bool
is_begun hole = false
is_begun entered = false
is_begun (whole v) = false
is_begun (begun tracker children) = true

-- A place of this definition may come to be begun so, with so many children, as its definition tells; of a whole one the value has to
-- have the children, and to hold nothing twice. One that is begun stays as it is, but for a conversion, which starts anew.
abbrev pub MayOpenAs : Def → Tracker → (count : ℕ) → Tree → Type 0
MayOpenAs def tracker count hole = Unit {0}
MayOpenAs def tracker count entered = (tracker ≡ tracker_of def) × (count ≡ count_children def)
MayOpenAs def tracker count (whole v) = (tracker ≡ tracker_of def) × MayOpen tracker (whole_body v)
MayOpenAs def tracker count (begun made children) =
    is_conversion made ≡ true → (tracker ≡ tracker_of def) × (count ≡ count_children def)

-- the place is begun so, with so many items
abbrev pub HasItems : Tracker → (count : ℕ) → Tree → Type 0
HasItems tracker count hole = ⊥
HasItems tracker count entered = ⊥
HasItems tracker count (whole v) = ⊥
HasItems tracker count (begun made items) = (made ≡ tracker) × (count_trees items ≡ count)
