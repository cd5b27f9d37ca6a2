-- One slot that is changed where a list's items lie in slots of their own, and what contracts see of that.
use Rattle.std.proofs.Common.{◌≡◌, ℕ, zero, suc, ◌+◌, ◌-◌, ◌<◌, ◌≤◌, Bool, true, false, List, [], ◌∷◌, length, Option, Some, None, IsSomeAnd, is_some, get_or, slice_get, set, refl, sym, ◌∙◌, ap, ap₂, subst, arith, if◌then◌else◌}
use Rattle.std.proofs.lemmas.Option.{slice_get_past}
use Rattle.fr_frame.specs.Common.{Body, Box, Cell, Global, HeldItems, IsInUse, Node, PartialValue, Place, Rope, SameTokens, Shows, Slot, SlotId, Val, as_tracker, begun_body, body_occurs, body_of, body_with, cell_at, children_with, count_cells, entered_body, heap_of, held_items, is_list_body, is_used, item_cell, item_in, item_or, keeps_items, node_in, option_and_then, partial_with, place_with, reformed, slot_of_cell, slot_seen, slots_occur, slots_seen, value_held, with_body, with_items, with_mark}
use Rattle.fr_model.specs.Trackers.{Tracker as TreeTracker}
use Rattle.fr_frame.specs.declared.places.ItemsKind.{ItemsKind}
use Rattle.fr_frame.specs.declared.places.Tracker.{Tracker}
use Rattle.fr_frame.specs.Heap.{child_slot}
use Rattle.fr_frame.specs.Outlines.{has_items}
use Rattle.fr_frame.specs.RawSlots.{with_stored, IsReformed}
use Rattle.fr_frame.proofs.HeapLaws.{inside, occur_set}
use Rattle.fr_values.specs.SliceLaws.{read}
use Rattle.fr_frame.proofs.ChangedPlaces.{marks, occur_change, shows}
use Rattle.fr_frame.proofs.SeenSlots.{seen_length, seen_set}
use Rattle.fr_frame.proofs.SingleSlots.{get_seen, no_place, node_seen, set_seen, used_in, IsNoPlace}

-- What was put at a place.

pub keeps_same : (tracker : Tracker) → keeps_items tracker ≡ has_items (as_tracker tracker)
keeps_same (Tracker.Items ItemsKind.List) = refl
keeps_same (Tracker.Items ItemsKind.Slice) = refl
keeps_same (Tracker.Items ItemsKind.ClosedSlice) = refl
keeps_same (Tracker.Items ItemsKind.Set) = refl
keeps_same (Tracker.Items ItemsKind.Array) = refl
keeps_same _ = refl

pub body_of_with : (held : HeldItems) (n : ℕ) (items : List SlotId) (partial : PartialValue)
    → body_of (partial_with held n items partial) ≡ body_with held n items (body_of partial)
body_of_with held n items (PartialValue.Begun tracker children) =
    ap (λ (kept : Bool). begun_body (as_tracker tracker) (if kept then children_with held n children items else children)) (keeps_same tracker)
body_of_with held n items _ = refl

reformed_with : (held : HeldItems) (n : ℕ) (items : List SlotId) (tracker : TreeTracker) (body : Body) → has_items tracker ≡ true
    → is_list_body body ≡ true → body_with held n items (reformed tracker body) ≡ reformed tracker (body_with held n items body)
reformed_with held n items tracker (begun_body before cells) kept list =
    ap (λ (has : Bool). begun_body tracker (if has then children_with held n cells items else cells)) (kept ∙ sym list)
reformed_with held n items tracker _ kept list = refl

reformed_occurs : (tracker : TreeTracker) (body : Body) (t : ℕ) → body_occurs (reformed tracker body) t ≡ body_occurs body t
reformed_occurs tracker entered_body t = refl
reformed_occurs tracker _ t = refl

-- Children.

below : (held : HeldItems) (n i before : ℕ) (cells : List Cell) (items : List SlotId) (k : ℕ) → k < before
    → slice_get (with_items held n i before cells items) k ≡ slice_get cells k
below held n i before [] items k h = refl
below held n i zero (c ∷ cells) items k h = absurd (omega arith)
below held n i (suc before) (c ∷ cells) items zero h = refl
below held n i (suc before) (c ∷ cells) items (suc k) h = below held n (suc i) before cells items k (omega arith)

behind : (held : HeldItems) (n i before : ℕ) (cells : List Cell) (items : List SlotId) (k : ℕ) → length cells ≤ k
    → slice_get (with_items held n i before cells items) k ≡ None
behind held n i before [] items k h = refl
behind held n i zero (c ∷ cells) items zero h = absurd (omega arith)
behind held n i zero (c ∷ cells) [] (suc k) h = slice_get_past cells k (omega arith)
behind held n i zero (c ∷ cells) (slot ∷ items) (suc k) h = behind held n (suc i) zero cells items k (omega arith)
behind held n i (suc before) (c ∷ cells) items zero h = absurd (omega arith)
behind held n i (suc before) (c ∷ cells) items (suc k) h = behind held n (suc i) before cells items k (omega arith)

-- item j is the child of this number
pub among : (held : HeldItems) (n i before : ℕ) (cells : List Cell) (items : List SlotId) (j k m : ℕ) (slot : SlotId) → k ≡ before + j
    → k < length cells → m ≡ i + k → slice_get items j ≡ Some slot
    → slice_get (with_items held n i before cells items) k ≡ Some (item_cell held n m slot)
among held n i before [] items j k m slot at h number e = absurd (omega arith)
among held n i (suc before) (c ∷ cells) items j zero m slot at h number e = absurd (omega arith)
among held n i (suc before) (c ∷ cells) items j (suc k) m slot at h number e =
    among held n (suc i) before cells items j k m slot (omega arith) (omega arith) (omega arith) e
among held n i zero (c ∷ cells) [] j k m slot at h number e = cc
among held n i zero (c ∷ cells) (s ∷ items) zero zero m slot at h number e =
    let here : i ≡ m = omega arith in
    let same : s ≡ slot = cc in
    ap (λ (x : ℕ). Some (item_cell held n x s)) here ∙ ap (λ (x : SlotId). Some (item_cell held n m x)) same
among held n i zero (c ∷ cells) (s ∷ items) (suc j) zero m slot at h number e = absurd (omega arith)
among held n i zero (c ∷ cells) (s ∷ items) zero (suc k) m slot at h number e = absurd (omega arith)
among held n i zero (c ∷ cells) (s ∷ items) (suc j) (suc k) m slot at h number e =
    among held n (suc i) zero cells items j k m slot (omega arith) (omega arith) (omega arith) e

-- The child of a place that is no item of it, and one that is.

pub cell_no_list : (held : HeldItems) (n : ℕ) (items : List SlotId) (body : Body) (k : ℕ) → is_list_body body ≡ false
    → cell_at (body_with held n items body) k ≡ cell_at body k
cell_no_list held n items (begun_body tracker cells) k plain =
    ap (λ (has : Bool). slice_get (if has then children_with held n cells items else cells) k) plain
cell_no_list held n items _ k plain = refl

pub cell_before : (held : HeldItems) (n : ℕ) (items : List SlotId) (body : Body) (k : ℕ) → k < count_cells body - length items
    → cell_at (body_with held n items body) k ≡ cell_at body k
cell_before held n items (begun_body tracker cells) k h = go (has_items tracker)
  where
    go : (has : Bool) → slice_get (if has then children_with held n cells items else cells) k ≡ slice_get cells k
    go true = below held n 0 (length cells - length items) cells items k h
    go false = refl
cell_before held n items _ k h = refl

pub cell_past : (held : HeldItems) (n : ℕ) (items : List SlotId) (body : Body) (k : ℕ) → count_cells body ≤ k
    → cell_at (body_with held n items body) k ≡ None
cell_past held n items (begun_body tracker cells) k h = go (has_items tracker)
  where
    go : (has : Bool) → slice_get (if has then children_with held n cells items else cells) k ≡ None
    go true = behind held n 0 (length cells - length items) cells items k h
    go false = slice_get_past cells k h
cell_past held n items _ k h = refl

cell_item : (held : HeldItems) (n : ℕ) (items : List SlotId) (body : Body) (k : ℕ) (slot : SlotId) → is_list_body body ≡ true
    → count_cells body - length items ≤ k → k < count_cells body → slice_get items (k - (count_cells body - length items)) ≡ Some slot
    → cell_at (body_with held n items body) k ≡ Some (item_cell held n k slot)
cell_item held n items (begun_body tracker cells) k slot list from to e =
    ap (λ (has : Bool). slice_get (if has then children_with held n cells items else cells) k) list
    ∙ among held n 0 (length cells - length items) cells items (k - (length cells - length items)) k k slot (omega arith) to
    (omega arith) e
cell_item held n items _ k slot list from to e = cc

-- One slot of many.

-- a place in use, seen before and after it is marked
record Marked (held : HeldItems) (n : ℕ) (stored : Bool) (slot : Slot) : Type 0 where
  place : Place
  was : slot_seen held n slot ≡ Slot.Used place
  now : slot_seen held n (with_stored stored slot) ≡ Slot.Used (record place { stored = stored })
  none : item_in slot ≡ item_in (with_stored stored slot)

marked_as : (held : HeldItems) (n : ℕ) (stored : Bool) (slot : Slot) → is_used slot ≡ true → Marked held n stored slot
marked_as held n stored (Slot.Used place) used = record { place = place; was = refl; now = refl; none = refl }
marked_as held n stored (Slot.List place items) used = record {
  place = place_with held n place items.value.items;
  was = refl;
  now = refl;
  none = refl;
}
marked_as held n stored _ used = cc

-- a list whose tracker keeps items is begun with another tracker that keeps them
module _ (raw : List Slot) (n : ℕ) (tracker : Tracker) (was now : Slot) (there : slice_get raw n ≡ Some was)
    (made : IsReformed tracker was now) where
  abbrev before : Place
  before = place_with (held_items raw) n made.place made.items.value.items

  abbrev partial : PartialValue
  partial = partial_with (held_items raw) n made.items.value.items made.partial

  was_there : slice_get (slots_seen raw) n ≡ Some (Slot.Used before)
  was_there =
      get_seen raw (slots_seen raw) refl n was there ∙ ap (λ (slot : Slot). Some (slot_seen (held_items raw) n slot)) made.was

  seen_now : slots_seen (set raw n now) ≡ set (slots_seen raw) n (Slot.Used (record before { partial = partial }))
  seen_now =
      ap (λ (slot : Slot). slots_seen (set raw n slot)) made.now
      ∙ seen_set raw n (Slot.List made.place made.items) (Slot.List (record made.place { partial = made.partial }) made.items)
      (there ∙ ap (λ (slot : Slot). Some slot) made.was) refl

  body_is : body_of partial ≡ reformed (as_tracker tracker) (body_of before.partial)
  body_is =
      body_of_with (held_items raw) n made.items.value.items made.partial
      ∙ ap (body_with (held_items raw) n made.items.value.items) made.body
      ∙ reformed_with (held_items raw) n made.items.value.items (as_tracker tracker) (body_of made.place.partial)
      (sym (keeps_same tracker) ∙ made.keeps) made.list
      ∙ ap (reformed (as_tracker tracker)) (sym (body_of_with (held_items raw) n made.items.value.items made.place.partial))

  reform_seen : Shows (slots_seen (set raw n now)) (with_body (heap_of (slots_seen raw)) n (reformed (as_tracker tracker)))
  reform_seen m =
      ap (λ (slots : List Slot). heap_of slots m) seen_now
      ∙ shows (slots_seen raw) n before was_there partial (reformed (as_tracker tracker)) body_is m

  reform_tokens : SameTokens (slots_seen raw) (slots_seen (set raw n now))
  reform_tokens t =
      let same : body_occurs (body_of partial) t ≡ body_occurs (body_of before.partial) t
      = ap (λ (b : Body). body_occurs b t) body_is ∙ reformed_occurs (as_tracker tracker) (body_of before.partial) t in
      let changed : slots_occur (set (slots_seen raw) n (Slot.Used (record before { partial = partial }))) t ≡ slots_occur (slots_seen raw) t
      = omega (arith, occur_change (slots_seen raw) n before was_there partial t, same) in
      ap (λ (slots : List Slot). slots_occur slots t) seen_now ∙ changed

pub used_inside : (raw seen : List Slot) (n : ℕ) → slots_seen raw ≡ seen → IsInUse seen n → n < length raw
used_inside raw seen n is used = subst (λ (k : ℕ). n < k) (sym (ap (λ (slots : List Slot). length slots) is) ∙ seen_length raw) (inside seen n used)

-- The slot of a child.

item_slot : (slot : ℕ) (value : Option Val) → is_some value ≡ false → slot_of_cell (item_or slot value) ≡ Some slot
item_slot slot (Some v) e = cc
item_slot slot None e = refl

no_item_slot : (slot : ℕ) (value : Option Val) → is_some value ≡ true → slot_of_cell (item_or slot value) ≡ None
no_item_slot slot (Some v) e = refl
no_item_slot slot None e = cc

module _ (held : HeldItems) (n : ℕ) (items : List SlotId) (body : Body) (k : ℕ) (slot : SlotId) (list : is_list_body body ≡ true)
    (from : count_cells body - length items ≤ k) (to : k < count_cells body)
    (there : slice_get items (k - (count_cells body - length items)) ≡ Some slot) where
  pub slot_taken : is_some (value_held n k (held slot.0)) ≡ true
      → option_and_then slot_of_cell (cell_at (body_with held n items body) k) ≡ None
  slot_taken completed =
      ap (option_and_then slot_of_cell) (cell_item held n items body k slot list from to there)
      ∙ no_item_slot slot.0 (value_held n k (held slot.0)) completed

  pub slot_kept : is_some (value_held n k (held slot.0)) ≡ false
      → option_and_then slot_of_cell (cell_at (body_with held n items body) k) ≡ Some slot.0
  slot_kept completed =
      ap (option_and_then slot_of_cell) (cell_item held n items body k slot list from to there)
      ∙ item_slot slot.0 (value_held n k (held slot.0)) completed

-- the slot of child i of what is in one slot
module _ (raw seen : List Slot) (is : slots_seen raw ≡ seen) (n at i : ℕ) (slot : Slot) (number : at ≡ n) (inside : n < length raw)
    (found : slot ≡ get_or raw at slot) where
  abbrev slot_in : Option Node → Option ℕ
  slot_in node = option_and_then slot_of_cell (option_and_then (λ (x : Node). cell_at x.body i) node)

  pub child_seen : (s : Slot) → slot ≡ s → child_slot (heap_of seen) n i ≡ slot_in (node_in (slot_seen (held_items raw) n s))
  child_seen s same =
      ap slot_in (node_seen raw seen is n slot (read raw n at slot number inside found))
      ∙ ap (λ (x : Slot). slot_in (node_in (slot_seen (held_items raw) n x))) same

  pub child_of_list : (place : Place) (items : Box (Rope SlotId) Global) → slot ≡ Slot.List place items
      → child_slot (heap_of seen) n i
      ≡ option_and_then slot_of_cell (cell_at (body_with (held_items raw) n items.value.items (body_of place.partial)) i)
  child_of_list place items same =
      child_seen (Slot.List place items) same
      ∙ ap (λ (body : Body). option_and_then slot_of_cell (cell_at body i))
      (body_of_with (held_items raw) n items.value.items place.partial)

  pub child_of_none : IsNoPlace slot → child_slot (heap_of seen) n i ≡ None
  child_of_none none = child_seen slot refl ∙ ap slot_in (no_place slot none (held_items raw) n)

-- Where it is read at an index, and changed.
module _ (raw seen : List Slot) (is : slots_seen raw ≡ seen) (n at : ℕ) (slot now : Slot) (number : at ≡ n) (used : IsInUse seen n)
    (is_there : slot ≡ get_or raw at slot) where
  slot_there : slice_get raw n ≡ Some slot
  slot_there = read raw n at slot number (used_inside raw seen n is used) is_there

  pub slot_used : is_used slot ≡ true
  slot_used = subst (λ (o : Option Slot). IsSomeAnd o (λ (s : Slot). is_used s ≡ true)) slot_there (used_in raw seen is n used)

  module _ (stored : Bool) (marked : now ≡ with_stored stored slot) where
    seen_as : Marked (held_items raw) n stored slot
    seen_as = marked_as (held_items raw) n stored slot slot_used

    was_seen : slice_get seen n ≡ Some (Slot.Used seen_as.place)
    was_seen = get_seen raw seen is n slot slot_there ∙ ap (λ (s : Slot). Some s) seen_as.was

    now_seen : slots_seen (set raw at now) ≡ set seen n (Slot.Used (record seen_as.place { stored = stored }))
    now_seen =
        ap₂ (λ (k : ℕ) (s : Slot). slots_seen (set raw k s)) number marked
        ∙ set_seen raw seen is n slot (with_stored stored slot) slot_there seen_as.none ∙ ap (set seen n) seen_as.now

    pub mark_shows : Shows (slots_seen (set raw at now)) (with_mark (heap_of seen) n stored)
    mark_shows m = ap (λ (slots : List Slot). heap_of slots m) now_seen ∙ marks seen n seen_as.place was_seen stored m

    pub mark_tokens : SameTokens seen (slots_seen (set raw at now))
    mark_tokens t =
        omega (
          arith,
          ap (λ (slots : List Slot). slots_occur slots t) now_seen,
          occur_set seen n (Slot.Used seen_as.place) (Slot.Used (record seen_as.place { stored = stored })) t was_seen,
        )

  module _ (tracker : Tracker) (made : IsReformed tracker slot now) where
    pub reform_shows : Shows (slots_seen (set raw at now)) (with_body (heap_of seen) n (reformed (as_tracker tracker)))
    reform_shows m =
        ap (λ (k : ℕ). heap_of (slots_seen (set raw k now)) m) number ∙ reform_seen raw n tracker slot now slot_there made m
        ∙ ap (λ (slots : List Slot). with_body (heap_of slots) n (reformed (as_tracker tracker)) m) is

    pub reform_same : SameTokens seen (slots_seen (set raw at now))
    reform_same t =
        ap (λ (k : ℕ). slots_occur (slots_seen (set raw k now)) t) number ∙ reform_tokens raw n tracker slot now slot_there made t
        ∙ ap (λ (slots : List Slot). slots_occur slots t) is
