-- Slots as contracts see them: what one change of a slot does to that.
use Rattle.std.proofs.Common.{◌≡◌, ℕ, zero, suc, ◌+◌, ◌-◌, List, [], ◌∷◌, ◌++◌, length, Option, Some, None, slice_get, set, option_map, if◌then◌else◌, refl, sym, ◌∙◌, ap, ap₂, subst, add-zero, zero-add, arith}
use Rattle.fr_frame.specs.Common.{Cell, HeldItems, PartialValue, Slot, SlotId, Val, children_with, heap_of, held_items, item_in, item_or, keeps_items, node_in, option_and_then, partial_with, slot_seen, slots_seen, value_held, with_items}
use Rattle.fr_frame.specs.ListItems.{seen_from}
use Rattle.fr_values.specs.SliceLaws.{same_lists}

-- what two hold of the items of the list in slot n is the same
abbrev pub HoldSame : (a b : HeldItems) → (n : ℕ) → Type 0
HoldSame a b n = (m i : ℕ) → value_held n i (a m) ≡ value_held n i (b m)

-- child k is the same where what is held of the item of its number is
pub items_at : (a b : HeldItems) (n i before : ℕ) (cells : List Cell) (items : List SlotId) (k j : ℕ) → j ≡ i + k
    → ((m : ℕ) → value_held n j (a m) ≡ value_held n j (b m))
    → slice_get (with_items a n i before cells items) k ≡ slice_get (with_items b n i before cells items) k
items_at a b n i before [] items k j at same = refl
items_at a b n i (suc before) (c ∷ cells) items zero j at same = refl
items_at a b n i (suc before) (c ∷ cells) items (suc k) j at same =
    items_at a b n (suc i) before cells items k j (omega (arith, at)) same
items_at a b n i zero (c ∷ cells) [] k j at same = refl
items_at a b n i zero (c ∷ cells) (slot ∷ items) zero j at same =
    let here : j ≡ i = omega (arith, at) in
    ap (λ (o : Option Val). Some (item_or slot.0 o))
    (subst (λ (number : ℕ). value_held n number (a slot.0) ≡ value_held n number (b slot.0)) here (same slot.0))
items_at a b n i zero (c ∷ cells) (slot ∷ items) (suc k) j at same =
    items_at a b n (suc i) zero cells items k j (omega (arith, at)) same

partial_same : (a b : HeldItems) (n : ℕ) (items : List SlotId) (partial : PartialValue) → HoldSame a b n
    → partial_with a n items partial ≡ partial_with b n items partial
partial_same a b n items (PartialValue.Begun tracker children) same =
    ap (λ (l : List Cell). PartialValue.Begun tracker (if keeps_items tracker then l else children))
    (same_lists (children_with a n children items) (children_with b n children items)
    (λ k. items_at a b n 0 (length children - length items) children items k k (omega arith) (λ m. same m k)))
partial_same a b n items _ same = refl

pub slot_seen_same : (a b : HeldItems) (n : ℕ) (slot : Slot) → HoldSame a b n → slot_seen a n slot ≡ slot_seen b n slot
slot_seen_same a b n (Slot.List place items) same =
    ap (λ (partial : PartialValue). Slot.Used (record place { partial = partial })) (partial_same a b n items.value.items place.partial same)
slot_seen_same a b n _ same = refl

-- From a slot on.

from_same : (a b : HeldItems) → ((m : ℕ) → a m ≡ b m) → (k : ℕ) (raw : List Slot) → seen_from a k raw ≡ seen_from b k raw
from_same a b same k [] = refl
from_same a b same k (slot ∷ raw) =
    ap₂ (λ (x : Slot) (l : List Slot). x ∷ l) (slot_seen_same a b k slot (λ m i. ap (value_held k i) (same m)))
    (from_same a b same (suc k) raw)

from_length : (held : HeldItems) (k : ℕ) (raw : List Slot) → length (seen_from held k raw) ≡ length raw
from_length held k [] = refl
from_length held k (slot ∷ raw) = ap (λ (n : ℕ). suc n) (from_length held (suc k) raw)

further : (k n : ℕ) → suc k + n ≡ k + suc n
further k n = omega arith

from_get : (held : HeldItems) (k : ℕ) (raw : List Slot) (n m : ℕ) → m ≡ k + n
    → slice_get (seen_from held k raw) n ≡ option_map (slot_seen held m) (slice_get raw n)
from_get held k [] n m e = refl
from_get held k (slot ∷ raw) zero m e =
    let here : k ≡ m = omega (arith, e) in
    ap (λ (j : ℕ). Some (slot_seen held j slot)) here
from_get held k (slot ∷ raw) (suc n) m e = from_get held (suc k) raw n m (omega (arith, e))

pub from_set : (held : HeldItems) (k : ℕ) (raw : List Slot) (n : ℕ) (now : Slot)
    → seen_from held k (set raw n now) ≡ set (seen_from held k raw) n (slot_seen held (k + n) now)
from_set held k [] n now = refl
from_set held k (slot ∷ raw) zero now = ap (λ (m : ℕ). slot_seen held m now ∷ seen_from held (suc k) raw) (sym (add-zero k))
from_set held k (slot ∷ raw) (suc n) now =
    ap (λ (l : List Slot). slot_seen held k slot ∷ l) (from_set held (suc k) raw n now
    ∙ ap (λ (m : ℕ). set (seen_from held (suc k) raw) n (slot_seen held m now)) (further k n))

from_append : (held : HeldItems) (k : ℕ) (raw : List Slot) (slot : Slot) (m : ℕ) → m ≡ k + length raw
    → seen_from held k (raw ++ slot ∷ []) ≡ seen_from held k raw ++ slot_seen held m slot ∷ []
from_append held k [] slot m e =
    let here : k ≡ m = omega (arith, e) in
    ap (λ (j : ℕ). slot_seen held j slot ∷ []) here
from_append held k (first ∷ raw) slot m e =
    ap (λ (l : List Slot). slot_seen held k first ∷ l) (from_append held (suc k) raw slot m (omega (arith, e)))

pub seen_length : (raw : List Slot) → length (slots_seen raw) ≡ length raw
seen_length raw = from_length (held_items raw) 0 raw

pub seen_by : (held : HeldItems) (raw : List Slot) (n : ℕ) → slice_get (seen_from held 0 raw) n
    ≡ option_map (slot_seen held n) (slice_get raw n)
seen_by held raw n = from_get held 0 raw n n (omega arith)

pub seen_get : (raw : List Slot) (n : ℕ) → slice_get (slots_seen raw) n ≡ option_map (slot_seen (held_items raw) n) (slice_get raw n)
seen_get raw n = seen_by (held_items raw) raw n

pub heap_seen : (raw : List Slot) (n : ℕ)
    → heap_of (slots_seen raw) n ≡ option_and_then (λ (slot : Slot). node_in (slot_seen (held_items raw) n slot)) (slice_get raw n)
heap_seen raw n = ap (option_and_then node_in) (seen_get raw n) ∙ go (slice_get raw n)
  where
    go : (found : Option Slot) → option_and_then node_in (option_map (slot_seen (held_items raw) n) found)
        ≡ option_and_then (λ (slot : Slot). node_in (slot_seen (held_items raw) n slot)) found
    go (Some slot) = refl
    go None = refl

-- slots that are seen as the same, one by one
pub seen_as_same : (a b : List Slot)
    → ((n : ℕ) → option_map (slot_seen (held_items a) n) (slice_get a n) ≡ option_map (slot_seen (held_items b) n) (slice_get b n))
    → slots_seen a ≡ slots_seen b
seen_as_same a b same = same_lists (slots_seen a) (slots_seen b) (λ n. seen_get a n ∙ same n ∙ sym (seen_get b n))

-- a slot gets something that is no item where there was none, or the same item
pub items_set : (raw : List Slot) (n : ℕ) (was now : Slot) → slice_get raw n ≡ Some was → item_in was ≡ item_in now
    → (m : ℕ) → held_items (set raw n now) m ≡ held_items raw m
items_set [] n was now e same m = cc
items_set (slot ∷ raw) zero was now e same zero = let here : slot ≡ was = cc in sym same ∙ ap item_in (sym here)
items_set (slot ∷ raw) zero was now e same (suc m) = refl
items_set (slot ∷ raw) (suc n) was now e same zero = refl
items_set (slot ∷ raw) (suc n) was now e same (suc m) = items_set raw n was now e same m

pub seen_set : (raw : List Slot) (n : ℕ) (was now : Slot) → slice_get raw n ≡ Some was → item_in was ≡ item_in now
    → slots_seen (set raw n now) ≡ set (slots_seen raw) n (slot_seen (held_items raw) n now)
seen_set raw n was now e same =
    from_same (held_items (set raw n now)) (held_items raw) (items_set raw n was now e same) 0 (set raw n now)
    ∙ from_set (held_items raw) 0 raw n now ∙ ap (λ (m : ℕ). set (slots_seen raw) n (slot_seen (held_items raw) m now)) (zero-add n)

items_append : (raw : List Slot) (slot : Slot) → item_in slot ≡ None → (m : ℕ) → held_items (raw ++ slot ∷ []) m ≡ held_items raw m
items_append [] slot none zero = none
items_append [] slot none (suc m) = refl
items_append (first ∷ raw) slot none zero = refl
items_append (first ∷ raw) slot none (suc m) = items_append raw slot none m

pub seen_append : (raw : List Slot) (slot : Slot) → item_in slot ≡ None
    → slots_seen (raw ++ slot ∷ []) ≡ slots_seen raw ++ slot_seen (held_items raw) (length raw) slot ∷ []
seen_append raw slot none =
    from_same (held_items (raw ++ slot ∷ [])) (held_items raw) (items_append raw slot none) 0 (raw ++ slot ∷ [])
    ∙ from_append (held_items raw) 0 raw slot (length raw) (omega arith)
