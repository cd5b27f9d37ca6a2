-- An item that comes to a list: the list has room for it in its partial value, and its slot behind those of the others.
use Rattle.std.proofs.Common.{◌≡◌, ℕ, zero, suc, ◌+◌, ◌-◌, ◌≤◌, Bool, true, false, List, [], ◌∷◌, ◌++◌, length, length-append, Option, Some, None, IsSomeAnd, get_or, slice_get, set, refl, sym, ◌∙◌, ap, ap₂, subst, arith, if◌then◌else◌}
use Rattle.std.proofs.lemmas.Result.{on_ok_weaker, IfErr-weaker}
use Rattle.fr_frame.specs.Common.{Box, Cell, Err, Global, HasRoomIn, HeldItems, IfInUse, IsReserved, IsSeenAs, Item, KeepsReserved, Node, Ok, OnErr, OnOk, PartialValue, Place, Result, Rope, SameTokens, Shows, Slot, SlotId, absent, body_occurs, body_of, cells_occur, children_with, heap_of, held_items, is_list_body, item_in, item_or, keeps_items, node_in, option_and_then, partial_with, place_with, placed, slot_seen, slots_occur, slots_seen, value_held, with_body, with_items, with_placed}
use Rattle.fr_frame.specs.declared.places.ItemsKind.{ItemsKind}
use Rattle.fr_frame.specs.declared.places.Tracker.{Tracker}
use Rattle.fr_frame.specs.RawItems.{partial_with_placed, with_room, IsAddedIn, IsListIn, IsSeenWith}
use Rattle.fr_frame.proofs.DrainLaws.{none_to_come}
use Rattle.fr_frame.proofs.HandLaws.{in_use}
use Rattle.fr_values.specs.SliceLaws.{read}
use Rattle.fr_frame.proofs.ChangedPlaces.{keeps_reserved, occur_change, with_partial, shows}
use Rattle.fr_values.specs.SliceLaws.{set_as_was}
use Rattle.fr_frame.proofs.RawLaws.{used_inside}
use Rattle.fr_frame.proofs.SeenSlots.{seen_set}
use Rattle.fr_frame.proofs.SingleSlots.{get_seen, node_seen, reserved_in, set_seen}

-- Children.

-- one child more, which is an item that hasn't completed
with_more : (held : HeldItems) (n i before : ℕ) (cells : List Cell) (items : List SlotId) (item : SlotId)
    → length cells ≡ before + length items
    → held item.0 ≡ None
    → with_items held n i before (cells ++ absent ∷ []) (items ++ item ∷ []) ≡ with_items held n i before cells items ++ placed item.0 ∷ []
with_more held n i zero [] [] item long none = ap (λ (o : Option Item). item_or item.0 (value_held n i o) ∷ []) none
with_more held n i zero [] (s ∷ items) item long none = absurd (omega (arith, long))
with_more held n i (suc before) [] items item long none = absurd (omega (arith, long))
with_more held n i zero (c ∷ cells) [] item long none = absurd (omega (arith, long))
with_more held n i zero (c ∷ cells) (s ∷ items) item long none =
    ap (λ (l : List Cell). item_or s.0 (value_held n i (held s.0)) ∷ l)
    (with_more held n (suc i) zero cells items item (omega (arith, long)) none)
with_more held n i (suc before) (c ∷ cells) items item long none =
    ap (λ (l : List Cell). c ∷ l) (with_more held n (suc i) before cells items item (omega (arith, long)) none)

children_more : (held : HeldItems) (n : ℕ) (cells : List Cell) (items : List SlotId) (item : SlotId) → length items ≤ length cells
    → held item.0 ≡ None
    → children_with held n (cells ++ absent ∷ []) (items ++ item ∷ []) ≡ children_with held n cells items ++ placed item.0 ∷ []
children_more held n cells items item room none =
    ap (λ (before : ℕ). with_items held n 0 before (cells ++ absent ∷ []) (items ++ item ∷ [])) before_same
    ∙ with_more held n 0 (length cells - length items) cells items item (omega (arith, room)) none
  where
    before_same : length (cells ++ absent ∷ []) - length (items ++ item ∷ []) ≡ length cells - length items
    before_same = omega (arith, length-append cells (absent ∷ []), length-append items (item ∷ []))

partial_more : (held : HeldItems) (n : ℕ) (partial : PartialValue) (items : List SlotId) (item : SlotId)
    → is_list_body (body_of partial) ≡ true
    → HasRoomIn items partial → held item.0 ≡ None
    → partial_with held n (items ++ item ∷ []) (with_room partial) ≡ partial_with_placed item.0 (partial_with held n items partial)
partial_more held n PartialValue.Entered items item list room none = cc
partial_more held n (PartialValue.Whole v) items item list room none = cc
partial_more held n (PartialValue.Begun tracker cells) items item list room none = go tracker list
  where
    go : (f : Tracker) → is_list_body (body_of (PartialValue.Begun f cells)) ≡ true
        → partial_with held n (items ++ item ∷ []) (with_room (PartialValue.Begun f cells))
        ≡ partial_with_placed item.0 (partial_with held n items (PartialValue.Begun f cells))
    go (Tracker.Items ItemsKind.List) e = ap (PartialValue.Begun (Tracker.Items ItemsKind.List)) (children_more held n cells items item room none)
    go (Tracker.Items ItemsKind.Slice) e = ap (PartialValue.Begun (Tracker.Items ItemsKind.Slice)) (children_more held n cells items item room none)
    go (Tracker.Items ItemsKind.ClosedSlice) e = ap (PartialValue.Begun (Tracker.Items ItemsKind.ClosedSlice)) (children_more held n cells items item room none)
    go (Tracker.Items ItemsKind.Set) e = cc
    go (Tracker.Items ItemsKind.Array) e = cc
    go _ e = cc

-- Calls that may be refused.

pub ok_three : {T E : Type 0} (result : Result T E) (A B C D : Type 0) → (A → B → C → D) → OnOk result A → OnOk result B
    → OnOk result C → OnOk result D
ok_three (Ok v) A B C D so a b c = so a b c
ok_three (Err e) A B C D so a b c = a

-- Slots.

partial_none : (held : HeldItems) (n : ℕ) (partial : PartialValue) → partial_with held n [] partial ≡ partial
partial_none held n PartialValue.Entered = refl
partial_none held n (PartialValue.Whole v) = refl
partial_none held n (PartialValue.Begun tracker cells) = by (keeps_items tracker)
  where
    by : (keeps : Bool) → PartialValue.Begun tracker (if keeps then children_with held n cells [] else cells) ≡ PartialValue.Begun tracker cells
    by true = ap (PartialValue.Begun tracker) (none_to_come held n 0 (length cells - 0) cells)
    by false = refl

pub seen_made : (place : Place) (items : Box (Rope SlotId) Global) → items.value.items ≡ []
    → IsSeenAs (Slot.Used place) (Slot.List place items)
seen_made place items empty = record {
  node = refl;
  item = refl;
  seen = λ held n. ap (λ (l : List SlotId). Slot.Used (place_with held n place l)) empty
      ∙ ap (λ (p : PartialValue). Slot.Used (record place { partial = p })) (partial_none held n place.partial);
}

-- the list in a slot that has one item more
pub added_in : (before : Slot) (place : Place) (items now : Box (Rope SlotId) Global) (partial : PartialValue) (item : SlotId)
    → IsListIn before → IsSeenAs before (Slot.List place items)
    → partial ≡ with_room place.partial → now.value.items ≡ items.value.items ++ item ∷ [] → HasRoomIn items.value.items place.partial
    → IsAddedIn item.0 before (Slot.List (with_partial place partial) now)
added_in before place items now partial item used same is are room = record {
  item_before = sym same.item;
  item_after = refl;
  seen = λ held n none. record {
    at = place_with held n place items.value.items;
    was = sym (same.seen held n);
    now =
        ap₂ (λ (l : List SlotId) (p : PartialValue). Slot.Used (record place { partial = partial_with held n l p })) are is
        ∙ ap (λ (p : PartialValue). Slot.Used (record place { partial = p }))
        (partial_more held n place.partial items.value.items item list room none);
  };
}
  where
    list : is_list_body (body_of place.partial) ≡ true
    list = subst (λ (o : Option Node). IsSomeAnd o (λ (at : Node). is_list_body at.body ≡ true)) (sym same.node) used

list_of_partial : (held : HeldItems) (n : ℕ) (items : List SlotId) (partial : PartialValue)
    → is_list_body (body_of (partial_with held n items partial)) ≡ is_list_body (body_of partial)
list_of_partial held n items PartialValue.Entered = refl
list_of_partial held n items _ = refl

-- All slots.

pub seen_kept : (raw : List Slot) (n : ℕ) (was now : Slot) → slice_get raw n ≡ Some was → IsSeenAs was now
    → slots_seen (set raw n now) ≡ slots_seen raw
seen_kept raw n was now here same =
    seen_set raw n was now here (sym same.item) ∙ ap (set (slots_seen raw) n) (same.seen (held_items raw) n)
    ∙ set_as_was (slots_seen raw) n (slot_seen (held_items raw) n was) (get_seen raw (slots_seen raw) refl n was here)

body_placed : (item : ℕ) (partial : PartialValue) → body_of (partial_with_placed item partial) ≡ with_placed item (body_of partial)
body_placed item PartialValue.Entered = refl
body_placed item _ = refl

cells_more : (item : ℕ) (cells : List Cell) (t : ℕ) → cells_occur (cells ++ placed item ∷ []) t ≡ cells_occur cells t
cells_more item [] t = refl
cells_more item (c ∷ cells) t = omega (arith, cells_more item cells t)

placed_occurs : (item : ℕ) (partial : PartialValue) (t : ℕ) → body_occurs (body_of (partial_with_placed item partial)) t ≡ body_occurs (body_of partial) t
placed_occurs item (PartialValue.Begun tracker cells) t = cells_more item cells t
placed_occurs item _ t = refl

-- The list's slot, as it is read.
module _ (raw slots : List Slot) (view_is : slots_seen raw ≡ slots) (n at : ℕ) (was : Slot) (number : at ≡ n)
    (list : IfInUse slots n (λ (above : Node). is_list_body above.body ≡ true)) (found : was ≡ get_or raw at was) where
  here : slice_get raw n ≡ Some was
  here =
      read raw n at was number
      (used_inside raw slots n view_is (in_use slots n (λ (above : Node). is_list_body above.body ≡ true) list)) found

  pub list_in : IsListIn was
  list_in =
      go was
      (subst (λ (o : Option Node). IsSomeAnd o (λ (above : Node). is_list_body above.body ≡ true)) (node_seen raw slots view_is n was here) list)
    where
      go : (slot : Slot) → IsSomeAnd (node_in (slot_seen (held_items raw) n slot)) (λ (above : Node). is_list_body above.body ≡ true)
          → IsListIn slot
      go (Slot.Used place) h = h
      go (Slot.List place items) h = sym (list_of_partial (held_items raw) n items.value.items place.partial) ∙ h
      go _ h = absurd h

  module _ (now : Slot) (item : ℕ) (reserved : IsReserved slots item) where
    -- the list has no item more
    refused_as : IsSeenAs was now → slots_seen (set raw at now) ≡ slots
    refused_as same = ap (λ (k : ℕ). slots_seen (set raw k now)) number ∙ seen_kept raw n was now here same ∙ view_is

    -- it has one more
    module _ (added : IsAddedIn item was now) where
      abbrev with_it : IsSeenWith item (held_items raw) n was now
      with_it = added.seen (held_items raw) n (ap (option_and_then item_in) (reserved_in raw slots view_is item reserved))

      there : slice_get slots n ≡ Some (Slot.Used with_it.at)
      there = get_seen raw slots view_is n was here ∙ ap (λ (s : Slot). Some s) with_it.was

      abbrev grown : PartialValue
      grown = partial_with_placed item with_it.at.partial

      added_as : slots_seen (set raw at now) ≡ set slots n (Slot.Used (with_partial with_it.at grown))
      added_as =
          ap (λ (k : ℕ). slots_seen (set raw k now)) number
          ∙ set_seen raw slots view_is n was now here (added.item_before ∙ sym added.item_after) ∙ ap (set slots n) with_it.now

    module _ {T E : Type 0} (result : Result T E) (ok : OnOk result (IsAddedIn item was now)) (err : OnErr result (IsSeenAs was now)) where
      pub added_shows : OnOk result (Shows (slots_seen (set raw at now)) (with_body (heap_of slots) n (with_placed item)))
      added_shows =
          on_ok_weaker result (λ added m. ap (λ (l : List Slot). heap_of l m) (added_as added)
          ∙ shows slots n (with_it added).at (there added) (grown added) (with_placed item) (body_placed item (with_it added).at.partial) m)
          ok

      pub refused_shows : OnErr result (Shows (slots_seen (set raw at now)) (heap_of slots))
      refused_shows = IfErr-weaker result _ _ (λ e same m. ap (λ (l : List Slot). heap_of l m) (refused_as same)) err

      pub added_tokens : SameTokens slots (slots_seen (set raw at now))
      added_tokens t = either result ok err
        where
          either : (r : Result T E) → OnOk r (IsAddedIn item was now) → OnErr r (IsSeenAs was now)
              → slots_occur (slots_seen (set raw at now)) t ≡ slots_occur slots t
          either (Ok v) added e =
              omega (
                arith,
                ap (λ (l : List Slot). slots_occur l t) (added_as added),
                occur_change slots n (with_it added).at (there added) (grown added) t,
                placed_occurs item (with_it added).at.partial t,
              )
          either (Err e) a same = ap (λ (l : List Slot). slots_occur l t) (refused_as same)

      pub added_reserved : KeepsReserved slots (slots_seen (set raw at now))
      added_reserved m e = either result ok err
        where
          either : (r : Result T E) → OnOk r (IsAddedIn item was now) → OnErr r (IsSeenAs was now)
              → IsReserved (slots_seen (set raw at now)) m
          either (Ok v) added h =
              ap (λ (l : List Slot). slice_get l m) (added_as added)
              ∙ keeps_reserved slots n (with_it added).at (Slot.Used (with_partial (with_it added).at (grown added))) (there added) m e
          either (Err h) a same = ap (λ (l : List Slot). slice_get l m) (refused_as same) ∙ e
