-- The items of a list lie in slots of their own. One that has completed stays there with its value until the list completes, and
-- contracts see it as a child of the list that is there.
use Rattle.std.specs.Prelude.{◌≡◌, ◌⊎◌, ℕ, zero, suc, ◌-◌, ◌<◌, ◌≤◌, Bool, true, false, ◌&&◌, List, [], ◌∷◌, ◌++◌, length, slice_get, slice_set, Option, Some, None, IsSomeAnd, nat_eq, if◌then◌else◌}
use Rattle.std.specs.Option.{option_and_then}
use Rattle.fr_shape.specs.Val.{Val}
use Rattle.fr_shape.specs.View.{view}
use Rattle.fr_frame.specs.declared.places.ItemsKind.{ItemsKind}
use Rattle.fr_frame.specs.declared.places.Tracker.{Tracker}
use Rattle.fr_frame.specs.declared.places.Item.{Item}
use Rattle.fr_frame.specs.declared.places.PartialValue.{PartialValue}
use Rattle.fr_frame.specs.declared.places.Place.{Place}
use Rattle.fr_frame.specs.declared.places.Slot.{Slot}
use Rattle.fr_frame.specs.declared.places.SlotId.{SlotId}
use Rattle.fr_frame.specs.Bodies.{Body, entered_body, whole_body, begun_body}
use Rattle.fr_values.specs.Cells.{Cell, given, placed}

-- a place that is begun so has items that keep their slots: it is a list or a pointer to a slice
abbrev pub keeps_items : Tracker → Bool
keeps_items (Tracker.Items ItemsKind.List) = true
keeps_items (Tracker.Items ItemsKind.Slice) = true
keeps_items (Tracker.Items ItemsKind.ClosedSlice) = true
keeps_items _ = false

-- What slots hold of items that have completed: under each number, what lies in that slot.

abbrev pub HeldItems : Type 0
HeldItems = ℕ → Option Item

abbrev pub item_in : Slot → Option Item
item_in (Slot.Free next) = None
item_in Slot.Reserved = None
item_in (Slot.Used place) = None
item_in (Slot.List place items) = None
item_in (Slot.Item item) = Some item

abbrev pub held_items : List Slot → HeldItems
held_items slots n = option_and_then item_in (slice_get slots n)

-- the value of item i of the list in slot n, where this is what is held of it
abbrev pub value_held : (n i : ℕ) → Option Item → Option Val
value_held n i (Some item) = if nat_eq item.list.0 n && nat_eq item.number i then Some (view item.value) else None
value_held n i None = None

-- the item's slot, unless it has completed: then its value
abbrev pub item_or : (slot : ℕ) → Option Val → Cell
item_or slot (Some v) = given v
item_or slot None = placed slot

abbrev pub item_cell : HeldItems → (n i : ℕ) → SlotId → Cell
item_cell held n i slot = item_or slot.0 (value_held n i (held slot.0))

-- The children of the list in slot n from number i on: so many more that are as they are, and then its items, which are in these
-- slots.
abbrev pub with_items : HeldItems → (n i : ℕ) → (before : ℕ) → List Cell → (items : List SlotId) → List Cell
with_items held n i before [] items = []
with_items held n i (suc before) (c ∷ cells) items = c ∷ with_items held n (suc i) before cells items
with_items held n i zero (c ∷ cells) (slot ∷ items) = item_cell held n i slot ∷ with_items held n (suc i) zero cells items
with_items held n i zero (c ∷ cells) [] = c ∷ cells

-- the children of the list in slot n, the last of which are its items
abbrev pub children_with : HeldItems → (n : ℕ) → List Cell → (items : List SlotId) → List Cell
children_with held n cells items = with_items held n 0 (length cells - length items) cells items

abbrev pub partial_with : HeldItems → (n : ℕ) → (items : List SlotId) → PartialValue → PartialValue
partial_with held n items PartialValue.Entered = PartialValue.Entered
partial_with held n items (PartialValue.Whole v) = PartialValue.Whole v
partial_with held n items (PartialValue.Begun tracker children) =
    PartialValue.Begun tracker (if keeps_items tracker then children_with held n children items else children)

abbrev pub place_with : HeldItems → (n : ℕ) → Place → (items : List SlotId) → Place
place_with held n place items = record place { partial = partial_with held n items place.partial }

-- What contracts see of slots. A list is seen with its items: one that has completed is a child with its value, any other a child in
-- its slot. So where a clause speaks of the children of a place, or of the tokens that were put there, those of its items are among
-- them. The slot of an item that has completed is seen as one that no place is in, and free slots without the order in which they come.

abbrev pub slot_seen : HeldItems → (n : ℕ) → Slot → Slot
slot_seen held n (Slot.Free next) = Slot.Free None
slot_seen held n Slot.Reserved = Slot.Reserved
slot_seen held n (Slot.Used place) = Slot.Used place
slot_seen held n (Slot.List place items) = Slot.Used (place_with held n place items.value.items)
slot_seen held n (Slot.Item item) = Slot.Free None

abbrev pub seen_from : HeldItems → (n : ℕ) → List Slot → List Slot
seen_from held n [] = []
seen_from held n (slot ∷ slots) = slot_seen held n slot ∷ seen_from held (suc n) slots

abbrev pub slots_seen : List Slot → List Slot
slots_seen slots = seen_from (held_items slots) 0 slots

-- What becomes of slots where a list's items go into it.

-- the slot is in use
abbrev pub is_used : Slot → Bool
is_used (Slot.Free next) = false
is_used Slot.Reserved = false
is_used (Slot.Used place) = true
is_used (Slot.List place items) = true
is_used (Slot.Item item) = false

-- a list with items in slots of their own is in the slot
abbrev pub is_list : Slot → Bool
is_list (Slot.Free next) = false
is_list Slot.Reserved = false
is_list (Slot.Used place) = false
is_list (Slot.List place items) = true
is_list (Slot.Item item) = false

abbrev pub IsUsedAt : List Slot → ℕ → Type 0
IsUsedAt slots n = IsSomeAnd (slice_get slots n) (λ (slot : Slot). is_used slot ≡ true)

-- item i of the list in slot n was in slot m, which is now free
pub record IsItemFreed (before after : List Slot) (m n i : ℕ) : Type 0 where
  pub item : Item
  pub held : slice_get before m ≡ Some (Slot.Item item)
  pub of_list : item.list.0 ≡ n
  pub number : item.number ≡ i
  pub next : Option SlotId
  pub now : after ≡ slice_set before m (Slot.Free next)

abbrev pub FreesItem : (n : ℕ) → (before after : Option Slot) → Type 0
FreesItem n before after =
    (before ≡ after) ⊎ ((item : Item) × (next : Option SlotId)
    × (before ≡ Some (Slot.Item item)) × (item.list.0 ≡ n) × (after ≡ Some (Slot.Free next)))

-- slots are as they were, but for some with items of the list in slot n, which are free
pub record FreesItems (n : ℕ) (before after : List Slot) : Type 0 where
  pub as_many : length after ≡ length before
  pub each : (m : ℕ) → FreesItem n (slice_get before m) (slice_get after m)

-- a place is in the slot, which is no list with items
abbrev pub IsPlain : Slot → Type 0
IsPlain (Slot.Free next) = ⊥
IsPlain Slot.Reserved = ⊥
IsPlain (Slot.Used place) = Unit {0}
IsPlain (Slot.List place items) = ⊥
IsPlain (Slot.Item item) = ⊥

abbrev pub IsPlainAt : List Slot → ℕ → Type 0
IsPlainAt slots n = IsSomeAnd (slice_get slots n) IsPlain

abbrev pub IsListAt : List Slot → ℕ → Type 0
IsListAt slots n = IsSomeAnd (slice_get slots n) (λ (slot : Slot). is_list slot ≡ true)

-- Items that come and complete.

-- a begun place with one more child behind the others, which is in this slot; any other place stays as it is
abbrev pub with_placed : (slot : ℕ) → Body → Body
with_placed slot entered_body = entered_body
with_placed slot (whole_body v) = whole_body v
with_placed slot (begun_body tracker cells) = begun_body tracker (cells ++ placed slot ∷ [])

-- a list whose items are in these slots has slot m for its item i
pub record IsListedIn (partial : PartialValue) (items : List SlotId) (m i : ℕ) : Type 0 where
  pub tracker : Tracker
  pub cells : List Cell
  pub is : partial ≡ PartialValue.Begun tracker cells
  pub keeps : keeps_items tracker ≡ true
  pub behind : length cells - length items ≤ i
  pub inside : i < length cells
  pub item : SlotId
  pub listed : slice_get items (i - (length cells - length items)) ≡ Some item
  pub slot : item.0 ≡ m

-- the slot is kept for a place that is about to come
abbrev pub IsReserved : List Slot → ℕ → Type 0
IsReserved slots n = slice_get slots n ≡ Some Slot.Reserved

-- slots that were kept so still are
abbrev pub KeepsReserved : (before after : List Slot) → Type 0
KeepsReserved before after = (n : ℕ) → IsReserved before n → IsReserved after n
