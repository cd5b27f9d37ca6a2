-- What contracts see of slots: under each number, what is known of the place in that slot.
use Rattle.std.specs.Prelude.{ℕ, suc, ◌+◌, Bool, false, List, [], ◌∷◌, slice_get, Option, Some, None, IsSomeAnd, nat_eq, if◌then◌else◌}
use Rattle.std.specs.Option.{option_map, option_and_then}
use Rattle.fr_shape.specs.declared.shape.Def.{Def}
use Rattle.fr_shape.specs.Val.{Val}
use Rattle.fr_shape.specs.View.{view}
use Rattle.fr_model.specs.Trackers.{Tracker as TreeTracker, as_fields, as_elements, as_content, ContentKind, Conversion, Through, as_items, ItemsKind, as_entries, EntriesKind}
use Rattle.fr_plan.specs.declared.nodes.NodeId.{NodeId}
use Rattle.fr_frame.specs.declared.places.Tracker.{Tracker}
use Rattle.fr_frame.specs.declared.places.Through.{Through as DeclaredThrough}
use Rattle.fr_frame.specs.declared.places.Conversion.{Conversion as DeclaredConversion}
use Rattle.fr_frame.specs.declared.places.ContentKind.{ContentKind as DeclaredContentKind}
use Rattle.fr_frame.specs.declared.places.ItemsKind.{ItemsKind as DeclaredItemsKind}
use Rattle.fr_frame.specs.declared.places.EntriesKind.{EntriesKind as DeclaredEntriesKind}
use Rattle.fr_frame.specs.declared.places.FrameOwner.{FrameOwner}
use Rattle.fr_frame.specs.declared.places.PartialValue.{PartialValue}
use Rattle.fr_frame.specs.declared.places.Place.{Place}
use Rattle.fr_frame.specs.declared.places.Slot.{Slot}
use Rattle.fr_values.specs.Cells.{Cell, given, slot_of_cell}
use Rattle.fr_frame.specs.Bodies.{Body, entered_body, whole_body, begun_body, body_occurs, cell_at, count_cells, entry_in, with_cell, with_ended, taken_over, linked, unlinked, IsSetBody}

-- the place in a slot: the plan's node that it is built by, the place that it belongs to, whether it is stored, how deep it
-- lies, and what was put at it
pub record Node : Type 0 where
  pub node : NodeId
  pub owner : FrameOwner
  pub stored : Bool
  pub depth : ℕ
  pub body : Body

abbrev pub Heap : Type 0
Heap = ℕ → Option Node

abbrev pub as_through : DeclaredThrough → Through
as_through DeclaredThrough.Wrapper = Through.Wrapper
as_through DeclaredThrough.Proxy = Through.Proxy

abbrev pub as_conversion : DeclaredConversion → Conversion
as_conversion conversion = record {
  through = as_through conversion.through;
  hook = conversion.hook.0;
  source = conversion.source.0;
}

abbrev pub as_content_kind : DeclaredContentKind → ContentKind
as_content_kind DeclaredContentKind.Some = ContentKind.Some
as_content_kind DeclaredContentKind.Ok = ContentKind.Ok
as_content_kind DeclaredContentKind.Err = ContentKind.Err
as_content_kind DeclaredContentKind.Pointer = ContentKind.Pointer
as_content_kind (DeclaredContentKind.Source conversion) = ContentKind.Source (as_conversion conversion)

abbrev pub as_items_kind : DeclaredItemsKind → ItemsKind
as_items_kind DeclaredItemsKind.List = ItemsKind.List
as_items_kind DeclaredItemsKind.Slice = ItemsKind.Slice
as_items_kind DeclaredItemsKind.ClosedSlice = ItemsKind.ClosedSlice
as_items_kind DeclaredItemsKind.Set = ItemsKind.Set
as_items_kind DeclaredItemsKind.Array = ItemsKind.Array

abbrev pub as_entries_kind : DeclaredEntriesKind → EntriesKind
as_entries_kind (DeclaredEntriesKind.Map base) = EntriesKind.Map base
as_entries_kind (DeclaredEntriesKind.Object keys) = EntriesKind.Object keys

abbrev pub as_tracker : Tracker → TreeTracker
as_tracker (Tracker.Fields selected) = as_fields selected
as_tracker Tracker.Elements = as_elements
as_tracker (Tracker.Content kind) = as_content (as_content_kind kind)
as_tracker (Tracker.Items kind) = as_items (as_items_kind kind)
as_tracker (Tracker.Entries kind) = as_entries (as_entries_kind kind)

-- whose fields the children of a place are that is begun so, a struct's or those of the variant that is selected, if they are fields
abbrev pub fields_of_tracker : TreeTracker → Option (Option ℕ)
fields_of_tracker (as_fields selected) = Some selected
fields_of_tracker as_elements = None
fields_of_tracker (as_content kind) = None
fields_of_tracker (as_items kind) = None
fields_of_tracker (as_entries kind) = None

abbrev pub body_of : PartialValue → Body
body_of PartialValue.Entered = entered_body
body_of (PartialValue.Whole v) = whole_body (view v)
body_of (PartialValue.Begun tracker children) = begun_body (as_tracker tracker) children

abbrev pub node_of : Place → Node
node_of place = record {
  node = place.node;
  owner = place.owner;
  stored = place.stored;
  depth = place.depth;
  body = body_of place.partial;
}

abbrev pub node_in : Slot → Option Node
node_in (Slot.Free next) = None
node_in Slot.Reserved = None
node_in (Slot.Used place) = Some (node_of place)
node_in (Slot.List place items) = Some (node_of place)
node_in (Slot.Item item) = None

-- what is known of the places in these slots
abbrev pub heap_of : List Slot → Heap
heap_of slots n = option_and_then node_in (slice_get slots n)

-- how often a token stands in all of them
abbrev pub slot_occurs : Slot → ℕ → ℕ
slot_occurs (Slot.Free next) t = 0
slot_occurs Slot.Reserved t = 0
slot_occurs (Slot.Used place) t = body_occurs (body_of place.partial) t
slot_occurs (Slot.List place items) t = body_occurs (body_of place.partial) t
slot_occurs (Slot.Item item) t = 0

abbrev pub slots_occur : List Slot → ℕ → ℕ
slots_occur [] t = 0
slots_occur (slot ∷ slots) t = slot_occurs slot t + slots_occur slots t

-- no place lies deeper
unfoldable pub depth_limit : ℕ
depth_limit = 4294967295

-- Changed heaps.

-- the heap with something else under one number
abbrev pub with_slot : Heap → ℕ → Option Node → Heap
with_slot heap n found m = if nat_eq m n then found else heap m

-- one place with something else put at it
abbrev pub with_body : Heap → ℕ → (Body → Body) → Heap
with_body heap n change = with_slot heap n (option_map (λ (at : Node). record at { body = change at.body }) (heap n))

-- the slot of child i of the place in this slot, where that has the child in one
abbrev pub child_slot : Heap → ℕ → ℕ → Option ℕ
child_slot heap n i = option_and_then slot_of_cell (option_and_then (λ (at : Node). cell_at at.body i) (heap n))

-- what the owner of a place holds at its number
abbrev pub held_by : Heap → FrameOwner → Option Cell
held_by heap FrameOwner.Root = None
held_by heap (FrameOwner.Child parent i) = option_and_then (λ (at : Node). cell_at at.body i) (heap parent.0)

abbrev pub depth_above : Option Node → ℕ
depth_above (Some at) = suc at.depth
depth_above None = 0

-- how deep a place lies that belongs there
abbrev pub depth_below : Heap → FrameOwner → ℕ
depth_below heap FrameOwner.Root = 0
depth_below heap (FrameOwner.Child parent i) = depth_above (heap parent.0)

-- the owner of the place in slot n, where it has that child, now has it there
abbrev pub links : FrameOwner → ℕ → Heap → Heap
links FrameOwner.Root n heap = heap
links (FrameOwner.Child parent i) n heap = with_body heap parent.0 (linked n i)

-- the owner of the place that was in slot n, where it had it there, has it no more
abbrev pub unlinks : FrameOwner → ℕ → Heap → Heap
unlinks FrameOwner.Root n heap = heap
unlinks (FrameOwner.Child parent i) n heap = with_body heap parent.0 (unlinked n i)

-- a place that is just entered, of a node whose shape has this definition
abbrev pub entered_node : Def → Heap → NodeId → FrameOwner → Node
entered_node def heap node owner = record {
  node = node;
  owner = owner;
  stored = false;
  depth = depth_below heap owner;
  body = taken_over def (held_by heap owner);
}

-- it is entered into slot n, and its owner's child is there
abbrev pub with_entered : Def → Heap → NodeId → FrameOwner → ℕ → Heap
with_entered def heap node owner n = with_slot (links owner n heap) n (Some (entered_node def heap node owner))

-- slot n is free again, and its owner's child isn't there
abbrev pub without : Heap → ℕ → FrameOwner → Heap
without heap n owner = unlinks owner n (with_slot heap n None)

-- the owner's child of its number is there with this value
abbrev pub gives : FrameOwner → Val → Heap → Heap
gives FrameOwner.Root v heap = heap
gives (FrameOwner.Child parent i) v heap = with_body heap parent.0 (λ (old : Body). with_cell old i (given v))

-- where the place belongs, there is a place that is begun as a set
abbrev pub IsItemOf : FrameOwner → Heap → Type 0
IsItemOf FrameOwner.Root heap = ⊥
IsItemOf (FrameOwner.Child parent i) heap = IsSomeAnd (heap parent.0) (λ (at : Node). IsSetBody at.body)

-- the set to which the place belonged, which ended with this value, has no child for it, and the value behind its items unless it is
-- there already
abbrev pub ends : FrameOwner → Val → Heap → Heap
ends FrameOwner.Root v heap = heap
ends (FrameOwner.Child parent i) v heap = with_body heap parent.0 (with_ended i v)

-- where an item belongs that comes behind all children of the place in slot n
abbrev pub item_owner : (n : ℕ) → Body → FrameOwner
item_owner n body = FrameOwner.Child (record { 0 = n }) (count_cells body)

-- where the value belongs that the object in slot n has under this key
abbrev pub entry_owner : (n : ℕ) → (key : List ℕ) → Body → FrameOwner
entry_owner n key body = FrameOwner.Child (record { 0 = n }) (entry_in key body)

-- Marks.

abbrev pub stored_in : Option Node → Bool
stored_in (Some at) = at.stored
stored_in None = false

-- a place is in this slot, and stored
abbrev pub marked : Heap → ℕ → Bool
marked heap n = stored_in (heap n)

-- the place in this slot is now marked so
abbrev pub with_mark : Heap → ℕ → Bool → Heap
with_mark heap n stored = with_slot heap n (option_map (λ (at : Node). record at { stored = stored }) (heap n))
