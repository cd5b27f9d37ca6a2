-- Slots by themselves, where a list's items lie in slots of their own: what becomes of one slot.
use Rattle.std.specs.Prelude.{◌≡◌, ℕ, Bool, true, false, ◌&&◌, List, slice_get, IsSomeAnd, if◌then◌else◌}
use Rattle.std.specs.declared.alloc.Global.{Global}
use Rattle.std.specs.declared.boxed.Box.{Box}
use Rattle.fr_arena.specs.Ropes.{Rope}
use Rattle.fr_frame.specs.declared.places.Tracker.{Tracker}
use Rattle.fr_frame.specs.declared.places.PartialValue.{PartialValue}
use Rattle.fr_frame.specs.declared.places.Place.{Place}
use Rattle.fr_frame.specs.declared.places.Slot.{Slot}
use Rattle.fr_frame.specs.declared.places.SlotId.{SlotId}
use Rattle.fr_frame.specs.Bodies.{Body, entered_body, whole_body, begun_body, reformed}
use Rattle.fr_frame.specs.Heap.{as_tracker, body_of}
use Rattle.fr_frame.specs.ListItems.{HeldItems, children_with, keeps_items}
use Rattle.fr_frame.specs.Outlines.{has_items, is_list_body}

-- the place in the slot, where one is there, is marked so
abbrev pub with_stored : (stored : Bool) → Slot → Slot
with_stored stored (Slot.Free next) = Slot.Free next
with_stored stored Slot.Reserved = Slot.Reserved
with_stored stored (Slot.Used place) = Slot.Used (record place { stored = stored })
with_stored stored (Slot.List place items) = Slot.List (record place { stored = stored }) items
with_stored stored (Slot.Item item) = Slot.Item item

-- what was put at the place in slot n, where a list has its items, which are in these slots
abbrev pub body_with : HeldItems → (n : ℕ) → (items : List SlotId) → Body → Body
body_with held n items entered_body = entered_body
body_with held n items (whole_body v) = whole_body v
body_with held n items (begun_body tracker cells) = begun_body tracker (if has_items tracker then children_with held n cells items else cells)

-- a list in its slot, with its items in others, is begun so instead, where they may stay
pub record IsReformed (tracker : Tracker) (before after : Slot) : Type 0 where
  pub place : Place
  pub items : Box (Rope SlotId) Global
  pub was : before ≡ Slot.List place items
  pub list : is_list_body (body_of place.partial) ≡ true
  pub keeps : keeps_items tracker ≡ true
  pub partial : PartialValue
  pub body : body_of partial ≡ reformed (as_tracker tracker) (body_of place.partial)
  pub now : after ≡ Slot.List (record place { partial = partial }) items

-- a list in its slot, with its items in others, may leave them there where it is begun so instead
abbrev pub stays_list : (tracker : Tracker) → Slot → Bool
stays_list tracker (Slot.Free next) = false
stays_list tracker Slot.Reserved = false
stays_list tracker (Slot.Used place) = false
stays_list tracker (Slot.List place items) = keeps_items tracker && is_list_body (body_of place.partial)
stays_list tracker (Slot.Item item) = false

-- the slot is free
abbrev pub IsFree : Slot → Type 0
IsFree (Slot.Free next) = Unit {0}
IsFree Slot.Reserved = ⊥
IsFree (Slot.Used place) = ⊥
IsFree (Slot.List place items) = ⊥
IsFree (Slot.Item item) = ⊥

abbrev pub IsFreeAt : List Slot → ℕ → Type 0
IsFreeAt slots n = IsSomeAnd (slice_get slots n) IsFree
