-- What calls on slots as they are owe, where a list doesn't have its items in it.
use Rattle.std.specs.Prelude.{◌≡◌, ℕ, ◌≤◌, List, [], ◌∷◌, ◌++◌, length, true, slice_get, Some, None, IsSomeAnd}
use Rattle.std.specs.declared.alloc.Global.{Global}
use Rattle.std.specs.declared.boxed.Box.{Box}
use Rattle.fr_arena.specs.Ropes.{Rope}
use Rattle.fr_shape.specs.View.{view}
use Rattle.fr_shape.specs.declared.value.Value.{Value}
use Rattle.fr_frame.specs.declared.places.FrameOwner.{FrameOwner}
use Rattle.fr_frame.specs.declared.places.PartialValue.{PartialValue}
use Rattle.fr_frame.specs.declared.places.Place.{Place}
use Rattle.fr_frame.specs.declared.places.Slot.{Slot}
use Rattle.fr_frame.specs.declared.places.SlotId.{SlotId}
use Rattle.fr_frame.specs.Outlines.{is_list_body}
use Rattle.fr_frame.specs.Bodies.{Body, whole_body}
use Rattle.fr_values.specs.Cells.{absent, placed}
use Rattle.fr_frame.specs.Heap.{Node, node_in}
use Rattle.fr_frame.specs.ListItems.{HeldItems, item_in, slot_seen, IsListedIn}

-- the place in slot m is item i of this list, whose items are in slots of their own
pub record IsListed (slots : List Slot) (m : ℕ) (list : SlotId) (i : ℕ) : Type 0 where
  pub slot : Slot
  pub here : slice_get slots m ≡ Some slot
  pub at : Node
  pub node : node_in slot ≡ Some at
  pub owner : at.owner ≡ FrameOwner.Child list i
  pub above : Place
  pub items : Box (Rope SlotId) Global
  pub there : slice_get slots list.0 ≡ Some (Slot.List above items)
  pub listed : IsListedIn above.partial items.value.items m i

-- contracts see the same in the slot
pub record IsSeenAs (before after : Slot) : Type 0 where
  pub node : node_in after ≡ node_in before
  pub item : item_in after ≡ item_in before
  pub seen : (held : HeldItems) (n : ℕ) → slot_seen held n after ≡ slot_seen held n before

-- what was put at a whole place completed, as this item of this list, which is in the slot
pub record IsKeptItem (list : SlotId) (i : ℕ) (body : Body) (after : Slot) : Type 0 where
  pub value : Value
  pub whole : body ≡ whole_body (view value)
  pub now : after ≡ Slot.Item (record { value = value; list = list; number = i })

-- a begun partial value with one more child, which isn't there
abbrev pub with_room : PartialValue → PartialValue
with_room PartialValue.Entered = PartialValue.Entered
with_room (PartialValue.Whole v) = PartialValue.Whole v
with_room (PartialValue.Begun tracker children) = PartialValue.Begun tracker (children ++ absent ∷ [])

abbrev pub partial_with_placed : (slot : ℕ) → PartialValue → PartialValue
partial_with_placed slot PartialValue.Entered = PartialValue.Entered
partial_with_placed slot (PartialValue.Whole v) = PartialValue.Whole v
partial_with_placed slot (PartialValue.Begun tracker children) = PartialValue.Begun tracker (children ++ placed slot ∷ [])

-- contracts see in the slot a place with one more child, which is in slot m
pub record IsSeenWith (m : ℕ) (held : HeldItems) (n : ℕ) (before after : Slot) : Type 0 where
  pub at : Place
  pub was : slot_seen held n before ≡ Slot.Used at
  pub now : slot_seen held n after ≡ Slot.Used (record at { partial = partial_with_placed m at.partial })

-- a slot whose place has one more child behind the others, which is in slot m
pub record IsAddedIn (m : ℕ) (before after : Slot) : Type 0 where
  pub item_before : item_in before ≡ None
  pub item_after : item_in after ≡ None
  pub seen : (held : HeldItems) (n : ℕ) → held m ≡ None → IsSeenWith m held n before after

-- a partial value has a child for each of these items
abbrev pub HasRoomIn : List SlotId → PartialValue → Type 0
HasRoomIn items PartialValue.Entered = ⊥
HasRoomIn items (PartialValue.Whole v) = ⊥
HasRoomIn items (PartialValue.Begun tracker children) = length items ≤ length children

-- a list or a pointer to a slice is in the slot
abbrev pub IsListIn : Slot → Type 0
IsListIn slot = IsSomeAnd (node_in slot) (λ (at : Node). is_list_body at.body ≡ true)
