-- What slots' own functions rely on, of single slots as contracts see them.
use Rattle.std.proofs.Common.{◌≡◌, ◌⊎◌, ℕ, zero, suc, ◌+◌, ◌-◌, ◌<◌, ◌≤◌, true, List, [], ◌∷◌, ◌++◌, length, Option, Some, None, IsSomeAnd, is_some, replicate, get_or, slice_get, set, option_map, if◌then◌else◌, inl, inr, refl, sym, ◌∙◌, ap, ap₂, subst}
use Rattle.fr_frame.specs.Common.{Box, Cell, Global, Heap, HeldItems, IsInUse, IsPlain, IsPlainAt, IsReserved, IsUsedAt, Item, Node, PartialValue, Place, Rope, Shows, Slot, SlotId, absent, as_items, begun_body, body_of, heap_of, held_items, is_used, item_in, keeps_items, node_in, node_of, option_and_then, outlined, partial_with, place_with, slot_occurs, slot_seen, slots_occur, slots_seen, with_items, with_slot}
use Rattle.fr_model.specs.Trackers.{ItemsKind as TreeItems}
use Rattle.fr_frame.specs.declared.places.ItemsKind.{ItemsKind}
use Rattle.fr_frame.specs.declared.places.Tracker.{Tracker}
use Rattle.fr_frame.specs.Outlines.{outline}
use Rattle.fr_frame.proofs.HeapLaws.{heap_append, occur_append, occur_set, past_end, shows_set, with_same}
use Rattle.fr_values.specs.SliceLaws.{holds_inside, holds_read}
use Rattle.fr_frame.proofs.SeenSlots.{heap_seen, seen_append, seen_get, seen_length, seen_set}

-- The outline of a place is what it is with its items.

cells_long : (held : HeldItems) (n i before : ℕ) (cells : List Cell) (items : List SlotId)
    → length (with_items held n i before cells items) ≡ length cells
cells_long held n i before [] items = refl
cells_long held n i (suc before) (c ∷ cells) items = ap (λ (k : ℕ). suc k) (cells_long held n (suc i) before cells items)
cells_long held n i zero (c ∷ cells) [] = refl
cells_long held n i zero (c ∷ cells) (slot ∷ items) = ap (λ (k : ℕ). suc k) (cells_long held n (suc i) zero cells items)

begun_same : (tracker : Tracker) (cells now : List Cell) → length now ≡ length cells
    → outline (body_of (PartialValue.Begun tracker (if keeps_items tracker then now else cells))) ≡ outline (body_of (PartialValue.Begun tracker cells))
begun_same (Tracker.Items ItemsKind.List) cells now long = ap (λ (k : ℕ). begun_body (as_items TreeItems.List) (replicate k absent)) long
begun_same (Tracker.Items ItemsKind.Slice) cells now long = ap (λ (k : ℕ). begun_body (as_items TreeItems.Slice) (replicate k absent)) long
begun_same (Tracker.Items ItemsKind.ClosedSlice) cells now long =
    ap (λ (k : ℕ). begun_body (as_items TreeItems.ClosedSlice) (replicate k absent)) long
begun_same (Tracker.Items ItemsKind.Set) cells now long = refl
begun_same (Tracker.Items ItemsKind.Array) cells now long = refl
begun_same _ cells now long = refl

partial_outline : (held : HeldItems) (n : ℕ) (items : List SlotId) (partial : PartialValue)
    → outline (body_of (partial_with held n items partial)) ≡ outline (body_of partial)
partial_outline held n items (PartialValue.Begun tracker children) =
    begun_same tracker children (with_items held n 0 (length children - length items) children items)
    (cells_long held n 0 (length children - length items) children items)
partial_outline held n items _ = refl

pub place_outline : (held : HeldItems) (n : ℕ) (place : Place) (items : List SlotId)
    → outlined (node_of place) ≡ outlined (node_of (place_with held n place items))
place_outline held n place items =
    ap (λ body. record (node_of place) { body = body }) (sym (partial_outline held n items place.partial))

-- What lies in a slot.

pub plain_used : (slot : Slot) → IsPlain slot → (place : Place) × (slot ≡ Slot.Used place)
plain_used (Slot.Used place) h = (place, refl)
plain_used _ h = absurd h

-- a slot in which no place is
abbrev pub IsNoPlace : Slot → Type 0
IsNoPlace slot = ((next : Option SlotId) × (slot ≡ Slot.Free next)) ⊎ ((slot ≡ Slot.Reserved) ⊎ ((item : Item) × (slot ≡ Slot.Item item)))

pub no_place : (slot : Slot) → IsNoPlace slot → (held : HeldItems) (n : ℕ) → node_in (slot_seen held n slot) ≡ None
no_place slot (inl (next, e)) held n = ap (λ (s : Slot). node_in (slot_seen held n s)) e
no_place slot (inr (inl e)) held n = ap (λ (s : Slot). node_in (slot_seen held n s)) e
no_place slot (inr (inr (item, e))) held n = ap (λ (s : Slot). node_in (slot_seen held n s)) e

-- a slot in which this place is
pub with_place : (slot : Slot) (place : Place)
    → (slot ≡ Slot.Used place) ⊎ ((items : Box (Rope SlotId) Global) × (slot ≡ Slot.List place items))
    → (held : HeldItems) (n : ℕ) → Some (outlined (node_of place)) ≡ option_map outlined (node_in (slot_seen held n slot))
with_place slot place (inl e) held n = ap (λ (s : Slot). option_map outlined (node_in (slot_seen held n s))) (sym e)
with_place slot place (inr (items, e)) held n =
    ap (λ (at : Node). Some at) (place_outline held n place items.value.items)
    ∙ ap (λ (s : Slot). option_map outlined (node_in (slot_seen held n s))) (sym e)

-- A list of slots and how contracts see it.

module _ (raw seen : List Slot) (is : slots_seen raw ≡ seen) (n : ℕ) where
  pub get_seen : (slot : Slot) → slice_get raw n ≡ Some slot → slice_get seen n ≡ Some (slot_seen (held_items raw) n slot)
  get_seen slot e = ap (λ (slots : List Slot). slice_get slots n) (sym is) ∙ seen_get raw n
      ∙ ap (option_map (slot_seen (held_items raw) n)) e

  pub node_seen : (slot : Slot) → slice_get raw n ≡ Some slot → heap_of seen n ≡ node_in (slot_seen (held_items raw) n slot)
  node_seen slot e = ap (option_and_then node_in) (get_seen slot e)

  pub past_seen : length raw ≤ n → heap_of seen n ≡ None
  past_seen past =
      past_end seen n (subst (λ (k : ℕ). k ≤ n) (sym (seen_length raw) ∙ ap (λ (slots : List Slot). length slots) is) past)

  -- a slot that is kept is none that is seen as something else
  pub reserved_in : IsReserved seen n → slice_get raw n ≡ Some Slot.Reserved
  reserved_in e = go (slice_get raw n) (sym (seen_get raw n) ∙ ap (λ (slots : List Slot). slice_get slots n) is ∙ e)
    where
      go : (found : Option Slot) → option_map (slot_seen (held_items raw) n) found ≡ Some Slot.Reserved → found ≡ Some Slot.Reserved
      go (Some Slot.Reserved) e = refl
      go None e = cc
      go (Some (Slot.Free next)) e = cc
      go (Some (Slot.Used place)) e = cc
      go (Some (Slot.List place items)) e = cc
      go (Some (Slot.Item item)) e = cc

  -- a place is in the slot
  pub used_in : IsInUse seen n → IsUsedAt raw n
  used_in h = go (slice_get raw n) (ap is_some (sym (heap_seen raw n) ∙ ap (λ (slots : List Slot). heap_of slots n) is) ∙ h)
    where
      go : (found : Option Slot)
          → is_some (option_and_then (λ (slot : Slot). node_in (slot_seen (held_items raw) n slot)) found) ≡ true
          → IsSomeAnd found (λ (slot : Slot). is_used slot ≡ true)
      go None h = cc
      go (Some (Slot.Free next)) h = cc
      go (Some Slot.Reserved) h = cc
      go (Some (Slot.Used place)) h = refl
      go (Some (Slot.List place items)) h = refl
      go (Some (Slot.Item item)) h = cc

  -- one slot is given something else, and neither is an item
  module _ (was now : Slot) (e : slice_get raw n ≡ Some was) (none : item_in was ≡ item_in now) where
    pub set_seen : slots_seen (set raw n now) ≡ set seen n (slot_seen (held_items raw) n now)
    set_seen = seen_set raw n was now e none ∙ ap (λ (slots : List Slot). set slots n (slot_seen (held_items raw) n now)) is

    pub set_shows : Shows (slots_seen (set raw n now)) (with_slot (heap_of seen) n (node_in (slot_seen (held_items raw) n now)))
    set_shows m =
        ap (λ (slots : List Slot). heap_of slots m) set_seen
        ∙ shows_set seen n (slot_seen (held_items raw) n was) (slot_seen (held_items raw) n now) (get_seen was e) m

    pub set_occur : (t : ℕ) → slots_occur (slots_seen (set raw n now)) t + slot_occurs (slot_seen (held_items raw) n was) t
        ≡ slots_occur seen t + slot_occurs (slot_seen (held_items raw) n now) t
    set_occur t =
        ap (λ (slots : List Slot). slots_occur slots t + slot_occurs (slot_seen (held_items raw) n was) t) set_seen
        ∙ occur_set seen n (slot_seen (held_items raw) n was) (slot_seen (held_items raw) n now) t (get_seen was e)

    -- where no place was and none is, the heap is as it was
    pub set_same : node_in (slot_seen (held_items raw) n now) ≡ node_in (slot_seen (held_items raw) n was)
        → Shows (slots_seen (set raw n now)) (heap_of seen)
    set_same free m =
        set_shows m ∙ ap (λ (found : Option Node). with_slot (heap_of seen) n found m) (free ∙ sym (node_seen was e))
        ∙ ap (λ (heap : Heap). heap m) (with_same (heap_of seen) n)

-- A slot behind the others.
module _ (raw seen : List Slot) (is : slots_seen raw ≡ seen) where
  append_seen : slots_seen (raw ++ Slot.Reserved ∷ []) ≡ seen ++ Slot.Reserved ∷ []
  append_seen = seen_append raw Slot.Reserved refl ∙ ap (λ (slots : List Slot). slots ++ Slot.Reserved ∷ []) is

  pub append_shows : Shows (slots_seen (raw ++ Slot.Reserved ∷ [])) (heap_of seen)
  append_shows m = ap (λ (slots : List Slot). heap_of slots m) append_seen ∙ heap_append seen m

  pub append_occur : (t : ℕ) → slots_occur (slots_seen (raw ++ Slot.Reserved ∷ [])) t ≡ slots_occur seen t
  append_occur t = ap (λ (slots : List Slot). slots_occur slots t) append_seen ∙ occur_append seen t

  pub append_reserved : (after : List Slot) (n : ℕ) → after ≡ raw ++ Slot.Reserved ∷ [] → n ≡ length raw
      → IsReserved (slots_seen after) n
  append_reserved after n appended end =
      ap₂ (λ (slots : List Slot) (k : ℕ). slice_get (slots_seen slots) k) appended end
      ∙ get_seen (raw ++ Slot.Reserved ∷ []) (slots_seen (raw ++ Slot.Reserved ∷ [])) refl (length raw) Slot.Reserved (last raw)
    where
      last : (slots : List Slot) → slice_get (slots ++ Slot.Reserved ∷ []) (length slots) ≡ Some Slot.Reserved
      last [] = refl
      last (slot ∷ slots) = last slots

-- A slot in use whose items have gone into its place.
module _ (raw seen : List Slot) (is : slots_seen raw ≡ seen) (drained : List Slot) (n : ℕ) (used : IsInUse seen n)
    (plain : IsUsedAt raw n → IsPlainAt drained n) where
  pub drained_inside : n < length drained
  drained_inside = holds_inside drained n IsPlain (plain (used_in raw seen is n used))

  pub drained_slot : (at : ℕ) (slot : Slot) → at ≡ n → slot ≡ get_or drained at slot → IsPlain slot
  drained_slot at slot e found = holds_read drained n at slot IsPlain e found (plain (used_in raw seen is n used))
