-- What the moves of a builder do, as contracts see it.
use Rattle.std.specs.Prelude.{◌≡◌, ℕ, ◌<◌, Bool, true, false, ◌||◌, length, List, [], ◌∷◌, ◌++◌, Option, Some, None}
use Rattle.fr_store.specs.Below.{ChildWay, Def, EntriesKind, FrameOwner, IfInUse, ItemsKind, Node, NodeId, Place, Plan, Slot, Taker, TakesItems, Tracker, Tree, Trees, Val, and_last, as_content, as_elements, as_entries, as_fields, as_items, begun, change_at, change_child, change_nth, child_node, child_tree, count_below, count_trees, enter, entered, entry_found, fresh, heap_of, hole, is_begun_conversion, is_begun_dynamic, is_begun_object, is_dynamic_tracker, is_map, is_root, is_set, is_set_tracker, keys_apart, keys_here, keys_of_tracker, number_in, number_or_last, tree_at, tree_occurs, up, whole, with_ended_item}
use Rattle.fr_store.specs.Numbers.{IsLast}
use Rattle.fr_store.specs.Stands.{IsOpen, cursor_shown, kid_shown, tree_shown}
use Rattle.fr_store.specs.Ways.{node_along}

-- the builder is open, works at this place, and what was built so far is this tree
pub record IsOpenAt (plan : Plan) (slots : List Slot) (stack : List ℕ) (place : Place) (tree : Tree) : Type 0 where
  pub open_still : IsOpen plan slots stack
  pub cursor : cursor_shown (heap_of slots) stack ≡ place
  pub built : tree_shown (heap_of slots) stack ≡ tree

-- the place at which it works
abbrev pub cursor_in : List Slot → List ℕ → Place
cursor_in slots stack = cursor_shown (heap_of slots) stack

-- what was built so far
abbrev pub tree_in_slots : List Slot → List ℕ → Tree
tree_in_slots slots stack = tree_shown (heap_of slots) stack

-- what stands at the place at which it works
abbrev pub tree_here : List Slot → List ℕ → Tree
tree_here slots stack = tree_at (cursor_in slots stack) (tree_in_slots slots stack)

-- what was built so far, changed so at the place at which it works
abbrev pub changed_here : (Tree → Tree) → List Slot → List ℕ → Tree
changed_here change slots stack = change_at (cursor_in slots stack) change (tree_in_slots slots stack)

-- how often a token stands there
abbrev pub tokens_here : List Slot → List ℕ → ℕ → ℕ
tokens_here slots stack t = tree_occurs (tree_here slots stack) t

-- how often it stands in all that was built so far
abbrev pub tokens_in : List Slot → List ℕ → ℕ → ℕ
tokens_in slots stack t = tree_occurs (tree_in_slots slots stack) t

-- so it is of the place in the last slot of the stack
abbrev pub AtTop : List Slot → List ℕ → (Node → Type 0) → Type 0
AtTop slots stack So = (n : ℕ) → IsLast stack n → IfInUse slots n So

-- the place of this owner is a child of one above
abbrev pub HasOwner : FrameOwner → Type 0
HasOwner FrameOwner.Root = ⊥
HasOwner (FrameOwner.Child parent i) = Unit {0}

-- the place is begun so, and has a child of this number
abbrev pub HasChild : Tracker → ℕ → Tree → Type 0
HasChild tracker i hole = ⊥
HasChild tracker i entered = ⊥
HasChild tracker i (whole v) = ⊥
HasChild tracker i (begun made ts) = (made ≡ tracker) × (i < count_trees ts)

-- the place is begun so
abbrev pub HasTracker : Tracker → Tree → Type 0
HasTracker tracker hole = ⊥
HasTracker tracker entered = ⊥
HasTracker tracker (whole v) = ⊥
HasTracker tracker (begun made ts) = made ≡ tracker

-- how many children the place has at which it works, as far as it is begun
abbrev pub count_here : List Slot → List ℕ → ℕ
count_here slots stack = count_below (tree_here slots stack)

-- a begun place with one more item of this definition behind its children, just entered; any other place stays as it was
abbrev pub with_item_of : Def → Tree → Tree
with_item_of def hole = hole
with_item_of def entered = entered
with_item_of def (whole v) = whole v
with_item_of def (begun tracker ts) = begun tracker (and_last ts (fresh def))

-- a begun map with one more entry behind the others: its key, of this definition, is just entered, and its value isn't there yet; any
-- other place stays as it was
abbrev pub with_key_of : Def → Tree → Tree
with_key_of def hole = hole
with_key_of def entered = entered
with_key_of def (whole v) = whole v
with_key_of def (begun tracker ts) = begun tracker (and_last (and_last ts (fresh def)) hole)

-- a place that is begun so is a set or a dynamic value: its children are completed as they are left, and are never stored
abbrev pub takes_at_end_as : Tracker → Bool
takes_at_end_as tracker = is_set_tracker tracker || is_dynamic_tracker tracker

-- so it is of what stands here
abbrev pub takes_at_end : Tree → Bool
takes_at_end tree = is_set tree || is_begun_dynamic tree

-- a place that is begun so is a pointer to a slice, open or closed
abbrev pub IsSlice : Tracker → Type 0
IsSlice (as_items ItemsKind.Slice) = Unit {0}
IsSlice (as_items ItemsKind.ClosedSlice) = Unit {0}
IsSlice (as_fields selected) = ⊥
IsSlice as_elements = ⊥
IsSlice (as_content kind) = ⊥
IsSlice (as_items ItemsKind.List) = ⊥
IsSlice (as_items ItemsKind.Set) = ⊥
IsSlice (as_entries kind) = ⊥
IsSlice (as_items ItemsKind.Array) = ⊥

-- the place is begun as one
abbrev pub IsBegunSlice : Tree → Type 0
IsBegunSlice hole = ⊥
IsBegunSlice entered = ⊥
IsBegunSlice (whole v) = ⊥
IsBegunSlice (begun tracker ts) = IsSlice tracker

-- a begun place, begun so instead, with the children that it has; any other place stays as it was
abbrev pub begun_as : Tracker → Tree → Tree
begun_as tracker hole = hole
begun_as tracker entered = entered
begun_as tracker (whole v) = whole v
begun_as tracker (begun made ts) = begun tracker ts

-- the plan's node of the place at which it works
abbrev pub node_here : Plan → List Slot → List ℕ → NodeId
node_here plan slots stack = node_along plan plan.root (cursor_in slots stack) (kid_shown (heap_of slots) stack)

-- Dynamic values.

abbrev pub with_entry_unless : Def → (key : List ℕ) → Tracker → Trees → (found : Option ℕ) → Tree
with_entry_unless def key tracker ts (Some i) = begun tracker (change_nth i (enter def) ts)
with_entry_unless def key tracker ts None = begun (as_entries (EntriesKind.Object (keys_of_tracker tracker ++ key ∷ []))) (and_last ts (fresh def))

-- an object whose entry of this key is entered, a value of this definition: the one that it has, or one more behind the others; any
-- other place stays as it was
abbrev pub with_entry_of : Def → (key : List ℕ) → Tree → Tree
with_entry_of def key hole = hole
with_entry_of def key entered = entered
with_entry_of def key (whole v) = whole v
with_entry_of def key (begun tracker ts) = with_entry_unless def key tracker ts (entry_found key (keys_of_tracker tracker))

-- The ways on.

-- as what a begun place is begun (any other place counts as a struct)
abbrev pub tracker_in : Tree → Tracker
tracker_in (begun tracker ts) = tracker
tracker_in _ = as_fields None

-- A place may be entered in this way: at a child that it has, which of a map isn't there; at a new item, where it takes more of them; at a
-- new key, if it is a map; at the value under a key, if it is an object with as many children as keys, none of which comes twice.
abbrev pub MayEnter : ChildWay → Tree → Type 0
MayEnter (ChildWay.Child i) tree = HasChild (tracker_in tree) i tree × (is_map tree ≡ true → child_tree i tree ≡ hole)
MayEnter ChildWay.Item tree = HasTracker (tracker_in tree) tree × TakesItems (tracker_in tree)
MayEnter ChildWay.Key tree = is_map tree ≡ true
MayEnter (ChildWay.Entry key) tree =
    (is_begun_object tree ≡ true) × (keys_apart (keys_here tree) ≡ true) × (length (keys_here tree) ≡ count_below tree)

-- the number of the child that is entered
abbrev pub child_number : ChildWay → Tree → ℕ
child_number (ChildWay.Child i) tree = i
child_number ChildWay.Item tree = count_below tree
child_number ChildWay.Key tree = count_below tree
child_number (ChildWay.Entry key) tree = number_or_last (entry_found key.now (keys_here tree)) (count_below tree)

-- the place with that child, of this definition, entered
abbrev pub entered_by : ChildWay → Def → Tree → Tree
entered_by (ChildWay.Child i) def = change_child i (enter def)
entered_by ChildWay.Item def = with_item_of def
entered_by ChildWay.Key def = with_key_of def
entered_by (ChildWay.Entry key) def = with_entry_of def key.now

-- the plan's node of that child
abbrev pub node_by : Plan → List Slot → List ℕ → ChildWay → NodeId
node_by plan slots stack way =
    child_node plan (node_here plan slots stack) (tracker_in (tree_here slots stack)) (child_number way (tree_here slots stack))

-- Handing a value over.

-- the value of the place on top may go there: up from a place below the root, but from the source of a conversion, whose value is
-- converted as it goes up; and to a set from one of its items
abbrev pub MayHandOver : Taker → List Slot → List ℕ → Type 0
MayHandOver Taker.Above slots stack =
    (is_root (cursor_in slots stack) ≡ false)
    × (is_begun_conversion (tree_at (up (cursor_in slots stack)) (tree_in_slots slots stack)) ≡ false)
MayHandOver Taker.Set slots stack =
    (is_root (cursor_in slots stack) ≡ false) × (is_set (tree_at (up (cursor_in slots stack)) (tree_in_slots slots stack)) ≡ true)
MayHandOver Taker.Itself slots stack = Unit {0}

-- the place in this slot is on top, and where its value goes up it is taken off
abbrev pub IsLeftBy : Taker → (stack : List ℕ) → ℕ → (next : List ℕ) → Type 0
IsLeftBy Taker.Above stack n next = stack ≡ next ++ n ∷ []
IsLeftBy Taker.Set stack n next = stack ≡ next ++ n ∷ []
IsLeftBy Taker.Itself stack n next = IsLast stack n × (next ≡ stack)

-- where the builder works then
abbrev pub place_then : Taker → Place → Place
place_then Taker.Above place = up place
place_then Taker.Set place = up place
place_then Taker.Itself place = place

-- what was built then: the value takes the place of all that stood there, or the set above takes it
abbrev pub tree_then : Taker → Place → Val → Tree → Tree
tree_then Taker.Above place v tree = change_at place (λ old. whole v) tree
tree_then Taker.Set place v tree = change_at (up place) (with_ended_item (number_in place) v) tree
tree_then Taker.Itself place v tree = change_at place (λ old. whole v) tree
