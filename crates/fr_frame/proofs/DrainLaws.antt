-- Lists whose items go into them, out of slots that are free then.
use Rattle.std.proofs.Common.{◌≡◌, ◌≢◌, ◌⊎◌, ℕ, zero, suc, ◌+◌, ◌<◌, ◌≤◌, Bool, true, false, ◌&&◌, List, [], ◌∷◌, length, Option, Some, None, IsSomeAnd, slice_get, set, get_or, is_some, nat_eq, option_map, length-set, inl, inr, refl, sym, ◌∙◌, ap, subst, arith, add-one, if◌then◌else◌}
use Rattle.fr_frame.specs.Common.{Box, Cell, FreesItem, FreesItems, Global, HeldItems, IsPlain, IsPlainAt, Item, PartialValue, Place, Rope, Slot, SlotId, Val, held_items, is_list, item_cell, item_in, item_or, option_and_then, partial_with, slot_seen, slots_seen, value_held, view, with_items}
use Rattle.std.proofs.lemmas.Bool.{eq-eqb, false≢true}
use Rattle.std.proofs.lemmas.Option.{get_or_from_slice_get, slice_get_read}
use Rattle.fr_frame.specs.ListItems.{IsItemFreed}
use Rattle.fr_frame.proofs.SeenSlots.{HoldSame, items_set, seen_as_same, slot_seen_same}
use Rattle.fr_values.specs.SliceLaws.{number_cases, other_number, set_gets, set_keeps}

-- Children that are filled in, from number `at` on.

pub filled_past : (held : HeldItems) (n i at : ℕ) (cells : List Cell) (items : List SlotId) → length cells ≤ at
    → with_items held n i at cells items ≡ cells
filled_past held n i at [] items h = refl
filled_past held n i zero (c ∷ cells) items h = absurd (omega arith)
filled_past held n i (suc at) (c ∷ cells) items h =
    ap (λ (l : List Cell). c ∷ l) (filled_past held n (suc i) at cells items (omega arith))

pub none_to_come : (held : HeldItems) (n i at : ℕ) (cells : List Cell) → with_items held n i at cells [] ≡ cells
none_to_come held n i at [] = refl
none_to_come held n i zero (c ∷ cells) = refl
none_to_come held n i (suc at) (c ∷ cells) = ap (λ (l : List Cell). c ∷ l) (none_to_come held n (suc i) at cells)

filled_from : (held : HeldItems) (n i at k : ℕ) (cells : List Cell) (slot : SlotId) (items : List SlotId) → k ≡ i + at → at < length cells
    → with_items held n i (suc at) (set cells at (item_cell held n k slot)) items ≡ with_items held n i at cells (slot ∷ items)
filled_from held n i at k [] slot items e h = absurd (omega arith)
filled_from held n i zero k (c ∷ cells) slot items e h =
    let same : k ≡ i = omega arith in
    ap (λ (j : ℕ). item_cell held n j slot ∷ with_items held n (suc i) zero cells items) same
filled_from held n i (suc at) k (c ∷ cells) slot items e h =
    ap (λ (l : List Cell). c ∷ l) (filled_from held n (suc i) at k cells slot items (omega arith) (omega arith))

filled_next : (held : HeldItems) (n at : ℕ) (cells now : List Cell) (slot : SlotId) (items : List SlotId) → at < length cells
    → now ≡ set cells at (item_cell held n at slot)
    → with_items held n 0 (at + 1) now items ≡ with_items held n 0 at cells (slot ∷ items)
filled_next held n at cells now slot items h is = rw (add-one, is) (filled_from held n 0 at at cells slot items (omega arith) h)

-- Slots.

-- an item of another list, or with another number
pub other_list : (n i : ℕ) (item : Item) → item.list.0 ≢ n → value_held n i (Some item) ≡ None
other_list n i item ne = rw (other_number item.list.0 n ne) refl

pub other_item : (n i : ℕ) (item : Item) → item.number ≢ i → value_held n i (Some item) ≡ None
other_item n i item ne = rw (other_number item.number i ne) (either (nat_eq item.list.0 n))
  where
    either : (of_list : Bool) → (if of_list && false then Some (view item.value) else None) ≡ None
    either true = refl
    either false = refl

pub item_held : (n i : ℕ) (item : Item) → item.list.0 ≡ n → item.number ≡ i → value_held n i (Some item) ≡ Some (view item.value)
item_held n i item list number =
    let of_list : nat_eq item.list.0 n ≡ true = eq-eqb item.list.0 n list in
    let numbered : nat_eq item.number i ≡ true = eq-eqb item.number i number in
    rw (of_list, numbered) refl

-- An item that is sought where it is: it is there, and its slot is free once it was taken out.

abbrev ItemThere : (slots : List Slot) (m n i : ℕ) → Type 0
ItemThere slots m n i = (item : Item) × (slice_get slots m ≡ Some (Slot.Item item)) × (item.list.0 ≡ n) × (item.number ≡ i)

item_there : (slots : List Slot) (m n i : ℕ) → is_some (value_held n i (held_items slots m)) ≡ true → ItemThere slots m n i
item_there slots m n i e = go (slice_get slots m) refl e
  where
    go : (o : Option Slot) → slice_get slots m ≡ o → is_some (value_held n i (option_and_then item_in o)) ≡ true → ItemThere slots m n i
    go (Some (Slot.Item item)) at h = elim (number_cases item.list.0 n) [
      | inl list ↦ elim (number_cases item.number i) [
        | inl number ↦ (item, at, list, number)
        | inr other ↦ absurd (false≢true (sym (ap is_some (other_item n i item other)) ∙ h))
      ]
      | inr other ↦ absurd (false≢true (sym (ap is_some (other_list n i item other)) ∙ h))
    ]
    go _ at h = absurd (false≢true h)

module _ (slots : List Slot) (n i m at : ℕ) (slot : Slot) (is : is_some (value_held n i (held_items slots m)) ≡ true) (same : at ≡ m) (read : slot ≡ get_or slots at slot) where
  there : ItemThere slots m n i
  there = item_there slots m n i is

  is_there : slot ≡ Slot.Item there.0
  is_there = read ∙ ap (λ (k : ℕ). get_or slots k slot) same ∙ get_or_from_slice_get slots m (Slot.Item there.0) slot there.1

  pub taken_is : (item : Item) × (slot ≡ Slot.Item item)
  taken_is = (there.0, is_there)

  pub taken_freed : (now : Slot) (next : Option SlotId) → now ≡ Slot.Free next → IsItemFreed slots (set slots at now) m n i
  taken_freed now next e = record {
    item = there.0;
    held = there.1;
    of_list = there.2;
    number = there.3;
    next = next;
    now = rw (e, same) refl;
  }

-- Slots out of which one item more was taken, or none.

frees_more : (n i m : ℕ) (a b c : List Slot) → FreesItems n a b → IsItemFreed b c m n i → FreesItems n a c
frees_more n i m a b c before next =
    record { as_many = ap length next.now ∙ length-set b m (Slot.Free next.next) ∙ before.as_many; each = each }
  where
    after : Slot
    after = Slot.Free next.next

    here : FreesItem n (slice_get a m) (slice_get b m) → FreesItem n (slice_get a m) (slice_get c m)
    here (inl same) =
        inr (next.item, next.next, same ∙ next.held, next.of_list, ap (λ (l : List Slot). slice_get l m) next.now ∙ set_gets b m (Slot.Item next.item) after next.held)
    here (inr freed) = let e : Some (Slot.Free freed.1) ≡ Some (Slot.Item next.item) = sym freed.4 ∙ next.held in cc

    each : (k : ℕ) → FreesItem n (slice_get a k) (slice_get c k)
    each k = elim (number_cases k m) [
      | inl same ↦ rw same (here (before.each m))
      | inr other ↦ subst (FreesItem n (slice_get a k))
          (sym (ap (λ (l : List Slot). slice_get l k) next.now ∙ set_keeps b m after k other)) (before.each k)
    ]

pub frees_on : (n i m : ℕ) (a b c : List Slot) → FreesItems n a b → (c ≡ b) ⊎ IsItemFreed b c m n i → FreesItems n a c
frees_on n i m a b c before (inl same) = subst (λ (slots : List Slot). FreesItems n a slots) (sym same) before
frees_on n i m a b c before (inr next) = frees_more n i m a b c before next

-- what is held of the items from number `i` on is as it was
abbrev pub HoldsFrom : (n i : ℕ) (a b : List Slot) → Type 0
HoldsFrom n i a b = (j m : ℕ) → i ≤ j → value_held n j (held_items b m) ≡ value_held n j (held_items a m)

holds_more : (n i m : ℕ) (a b c : List Slot) → HoldsFrom n i a b → IsItemFreed b c m n i → HoldsFrom n (i + 1) a c
holds_more n i m a b c before next j k h = here k ∙ before j k (omega arith)
  where
    held : Option Slot → Option Val
    held o = value_held n j (option_and_then item_in o)

    other : next.item.number ≢ j
    other e = absurd (omega (arith, next.number))

    here : (k : ℕ) → held (slice_get c k) ≡ held (slice_get b k)
    here k = elim (number_cases k m) [
      | inl same ↦ rw same (ap (λ (l : List Slot). held (slice_get l m)) next.now
          ∙ ap held (set_gets b m (Slot.Item next.item) (Slot.Free next.next) next.held) ∙ sym (other_item n j next.item other)
          ∙ sym (ap held next.held))
      | inr ne ↦ ap (λ (l : List Slot). held (slice_get l k)) next.now ∙ ap held (set_keeps b m (Slot.Free next.next) k ne)
    ]

pub holds_on : (n i m : ℕ) (a b c : List Slot) → HoldsFrom n i a b → (c ≡ b) ⊎ IsItemFreed b c m n i → HoldsFrom n (i + 1) a c
holds_on n i m a b c before (inl same) j k h =
    ap (λ (slots : List Slot). value_held n j (held_items slots k)) same ∙ before j k (omega arith)
holds_on n i m a b c before (inr next) j k h = holds_more n i m a b c before next j k h

-- the next item goes in
pub filled_on : (start now : List Slot) (n at : ℕ) (cells after : List Cell) (slot : SlotId) (items : List SlotId) → at < length cells
    → HoldsFrom n at start now → after ≡ set cells at (item_cell (held_items now) n at slot)
    → with_items (held_items start) n 0 (at + 1) after items ≡ with_items (held_items start) n 0 at cells (slot ∷ items)
filled_on start now n at cells after slot items h held is =
    let as_held : item_cell (held_items now) n at slot ≡ item_cell (held_items start) n at slot
    = ap (item_or slot.0) (held at slot.0 (omega arith)) in
    filled_next (held_items start) n at cells after slot items h (is ∙ ap (λ (c : Cell). set cells at c) as_held)

-- Slots whose items went into a list, as they are seen.

-- what is held of another list's items is as it was
others_hold : (n : ℕ) (a b : List Slot) (l : ℕ) → l ≢ n → ((m : ℕ) → m ≢ n → FreesItem n (slice_get a m) (slice_get b m))
    → held_items a n ≡ held_items b n → HoldSame (held_items a) (held_items b) l
others_hold n a b l ne each here m i = elim (number_cases m n) [
  | inl same ↦ rw same (ap (value_held l i) here)
  | inr other ↦ freed (each m other)
]
  where
    held : Option Slot → Option Val
    held o = value_held l i (option_and_then item_in o)

    freed : FreesItem n (slice_get a m) (slice_get b m) → held (slice_get a m) ≡ held (slice_get b m)
    freed (inl same) = ap held same
    freed (inr item) =
        ap held item.2 ∙ other_list l i item.0 (λ (e : item.0.list.0 ≡ l). ne (sym e ∙ item.3)) ∙ sym (ap held item.4)

-- all slots are seen as they were where the list's own is
drained_seen : (n : ℕ) (a b : List Slot) → ((m : ℕ) → m ≢ n → FreesItem n (slice_get a m) (slice_get b m))
    → held_items a n ≡ held_items b n
    → option_map (slot_seen (held_items a) n) (slice_get a n) ≡ option_map (slot_seen (held_items b) n) (slice_get b n)
    → slots_seen a ≡ slots_seen b
drained_seen n a b each here is = seen_as_same a b (λ m. elim (number_cases m n) [
  | inl same ↦ subst SeenSame (sym same) is
  | inr other ↦ freed m other (each m other)
])
  where
    SeenSame : ℕ → Type 0
    SeenSame m = option_map (slot_seen (held_items a) m) (slice_get a m) ≡ option_map (slot_seen (held_items b) m) (slice_get b m)

    seen : (m : ℕ) (o : Option Slot) → m ≢ n → option_map (slot_seen (held_items a) m) o ≡ option_map (slot_seen (held_items b) m) o
    seen m None ne = refl
    seen m (Some slot) ne = ap (λ (x : Slot). Some x)
        (slot_seen_same (held_items a) (held_items b) m slot (others_hold n a b m ne each here))

    freed : (m : ℕ) → m ≢ n → FreesItem n (slice_get a m) (slice_get b m) → SeenSame m
    freed m ne (inl same) = seen m (slice_get a m) ne ∙ ap (option_map (slot_seen (held_items b) m)) same
    freed m ne (inr item) =
        ap (option_map (slot_seen (held_items a) m)) item.2 ∙ sym (ap (option_map (slot_seen (held_items b) m)) item.4)

-- slots where a list's items went into it
pub record IsDrained (n : ℕ) (before after : List Slot) : Type 0 where
  pub seen : slots_seen after ≡ slots_seen before
  pub plain : IsPlainAt after n
  pub others : (m : ℕ) → m ≢ n → FreesItem n (slice_get before m) (slice_get after m)
  pub as_many : length after ≡ length before

-- A list's place, taken out of its slot, in which it is again with its items.
module _ (n : ℕ) (a b : List Slot) (place : Place) (items : Box (Rope SlotId) Global) (partial : PartialValue) (was : slice_get a n ≡ Some (Slot.List place items)) (frees : FreesItems n (set a n Slot.Reserved) b) (put : partial ≡ partial_with (held_items (set a n Slot.Reserved)) n items.value.items place.partial) where
  abbrev drained : List Slot
  drained = set b n (Slot.Used (record place { partial = partial }))

  reserved : slice_get (set a n Slot.Reserved) n ≡ Some Slot.Reserved
  reserved = set_gets a n (Slot.List place items) Slot.Reserved was

  still_reserved : slice_get b n ≡ Some Slot.Reserved
  still_reserved = go (frees.each n)
    where
      go : FreesItem n (slice_get (set a n Slot.Reserved) n) (slice_get b n) → slice_get b n ≡ Some Slot.Reserved
      go (inl same) = sym same ∙ reserved
      go (inr item) = let e : Some Slot.Reserved ≡ Some (Slot.Item item.0) = sym reserved ∙ item.2 in cc

  used : slice_get drained n ≡ Some (Slot.Used (record place { partial = partial }))
  used = set_gets b n Slot.Reserved (Slot.Used (record place { partial = partial })) still_reserved

  drain_others : (m : ℕ) → m ≢ n → FreesItem n (slice_get a m) (slice_get drained m)
  drain_others m ne =
      rw (set_keeps b n (Slot.Used (record place { partial = partial })) m ne, ← set_keeps a n Slot.Reserved m ne) (frees.each m)

  drain_seen : slots_seen drained ≡ slots_seen a
  drain_seen = sym (drained_seen n a drained drain_others none same)
    where
      none : held_items a n ≡ held_items drained n
      none = ap (option_and_then item_in) was ∙ sym (ap (option_and_then item_in) used)

      as_was : HoldSame (held_items a) (held_items (set a n Slot.Reserved)) n
      as_was m i = ap (value_held n i) (sym (items_set a n (Slot.List place items) Slot.Reserved was refl m))

      same : option_map (slot_seen (held_items a) n) (slice_get a n)
          ≡ option_map (slot_seen (held_items drained) n) (slice_get drained n)
      same =
          ap (option_map (slot_seen (held_items a) n)) was
          ∙ ap (λ (x : Slot). Some x) (slot_seen_same (held_items a) (held_items (set a n Slot.Reserved)) n (Slot.List place items) as_was)
          ∙ ap (λ (p : PartialValue). Some (Slot.Used (record place { partial = p }))) (sym put)
          ∙ sym (ap (option_map (slot_seen (held_items drained) n)) used)

  drained_so : IsDrained n a drained
  drained_so = record {
    seen = drain_seen;
    plain = subst (λ (o : Option Slot). IsSomeAnd o IsPlain) (sym used) tt;
    others = drain_others;
    as_many = length-set b n (Slot.Used (record place { partial = partial })) ∙ frees.as_many ∙ length-set a n Slot.Reserved;
  }

pub is_drained : (n : ℕ) (a b : List Slot) (at to : ℕ) (slot kept : Slot) (place : Place) (items : Box (Rope SlotId) Global) (partial : PartialValue)
    → at < length a → at ≡ n → slot ≡ get_or a at slot → slot ≡ Slot.List place items → kept ≡ Slot.Reserved
    → FreesItems n (set a at kept) b → partial ≡ partial_with (held_items (set a at kept)) n items.value.items place.partial → to ≡ n
    → IsDrained n a (set b to (Slot.Used (record place { partial = partial })))
is_drained n a b at to slot kept place items partial h at_is read is kept_is frees put to_is =
    rw to_is (drained_so n a b place items partial was (rw (at_is, kept_is) at frees) (rw (at_is, kept_is) at put))
  where
    was : slice_get a n ≡ Some (Slot.List place items)
    was =
        ap (slice_get a) (sym at_is) ∙ slice_get_read a (length a) at slot refl h read ∙ ap (λ (x : Slot). Some x) is

-- the list with its items
pub list_in : (slot : Slot) → is_list slot ≡ true → (place : Place) × (items : Box (Rope SlotId) Global) × (slot ≡ Slot.List place items)
list_in (Slot.List place items) e = (place, items, refl)
list_in _ e = cc
