-- Lists of slots as heaps: what a change of one slot does.
use Rattle.std.proofs.Common.{◌≡◌, ◌≢◌, ℕ, zero, suc, ◌+◌, ◌<◌, ◌≤◌, Bool, true, false, List, [], ◌∷◌, ◌++◌, length, Option, Some, None, slice_get, set, option_map, nat_eq, inl, inr, refl, sym, ◌∙◌, ap, arith, if◌then◌else◌}
use Rattle.fr_frame.specs.Common.{Body, Heap, IsInUse, Node, Shows, Slot, heap_of, node_in, option_and_then, slot_occurs, slots_occur, with_body, with_slot}
use Rattle.fr_values.specs.SliceLaws.{same_number, other_number, number_cases, set_gets, set_keeps}

-- Heaps.

pub with_here : (heap : Heap) (n : ℕ) (x : Option Node) → with_slot heap n x n ≡ x
with_here heap n x = rw same_number refl

pub with_other : (heap : Heap) (n : ℕ) (x : Option Node) (m : ℕ) → m ≢ n → with_slot heap n x m ≡ heap m
with_other heap n x m ne = let e : nat_eq m n ≡ false = other_number m n ne in rw e refl

-- what is shown is what is in the slots
pub shown_is : (slots : List Slot) (heap : Heap) → Shows slots heap → heap_of slots ≡ heap
shown_is slots heap shows = λ i m. shows m i

-- a slot that is given what it has
pub with_same : (heap : Heap) (n : ℕ) → with_slot heap n (heap n) ≡ heap
with_same heap n = λ i m. same m i
  where
    same : (m : ℕ) → with_slot heap n (heap n) m ≡ heap m
    same m = elim (number_cases m n) [
      | inl e ↦ rw e (with_here heap n (heap n))
      | inr ne ↦ with_other heap n (heap n) m ne
    ]

-- a slot that is given one thing after another
pub slot_twice : (heap : Heap) (n : ℕ) (x y : Option Node) → with_slot (with_slot heap n x) n y ≡ with_slot heap n y
slot_twice heap n x y = λ i m. last (nat_eq m n) (heap m) i
  where
    last : (b : Bool) (z : Option Node) → (if b then y else (if b then x else z)) ≡ (if b then y else z)
    last true z = refl
    last false z = refl

-- the place that is found, with something else put at it
abbrev pub changed : (Body → Body) → Option Node → Option Node
changed change found = option_map (λ (x : Node). record x { body = change x.body }) found

-- where no place is, nothing changes
pub with_body_free : (heap : Heap) (n : ℕ) (change : Body → Body) → heap n ≡ None → heap ≡ with_body heap n change
with_body_free heap n change free =
    sym (ap (λ (found : Option Node). with_slot heap n (changed change found)) free ∙ ap (with_slot heap n) (sym free) ∙ with_same heap n)

-- one change after another of the same place
pub with_body_twice : (heap : Heap) (n : ℕ) (first then_next : Body → Body)
    → with_body (with_body heap n first) n then_next ≡ with_body heap n (λ body. then_next (first body))
with_body_twice heap n first then_next =
    ap (λ (found : Option Node). with_slot (with_body heap n first) n (changed then_next found)) (with_here heap n (changed first (heap n)))
    ∙ slot_twice heap n (changed first (heap n)) (changed then_next (changed first (heap n))) ∙ ap (with_slot heap n) (value (heap n))
  where
    value : (found : Option Node) → changed then_next (changed first found) ≡ changed (λ body. then_next (first body)) found
    value None = refl
    value (Some at) = refl

-- Slots.

pub occur_set : (slots : List Slot) (n : ℕ) (old new : Slot) (t : ℕ) → slice_get slots n ≡ Some old
    → slots_occur (set slots n new) t + slot_occurs old t ≡ slots_occur slots t + slot_occurs new t
occur_set [] n old new t e = cc
occur_set (s ∷ slots) zero old new t e =
    let is : s ≡ old = cc in
    let same : slot_occurs s t ≡ slot_occurs old t = ap (λ (x : Slot). slot_occurs x t) is in
    omega arith
occur_set (s ∷ slots) (suc n) old new t e = omega (arith, occur_set slots n old new t e)

pub heap_append : (slots : List Slot) → Shows (slots ++ Slot.Reserved ∷ []) (heap_of slots)
heap_append [] zero = refl
heap_append [] (suc m) = refl
heap_append (s ∷ slots) zero = refl
heap_append (s ∷ slots) (suc m) = heap_append slots m

pub occur_append : (slots : List Slot) (t : ℕ) → slots_occur (slots ++ Slot.Reserved ∷ []) t ≡ slots_occur slots t
occur_append [] t = refl
occur_append (s ∷ slots) t = ap (λ (n : ℕ). slot_occurs s t + n) (occur_append slots t)

pub past_end : (slots : List Slot) (n : ℕ) → length slots ≤ n → heap_of slots n ≡ None
past_end [] n h = refl
past_end (s ∷ slots) zero h = absurd (omega arith)
past_end (s ∷ slots) (suc n) h = past_end slots n (omega arith)

pub inside : (slots : List Slot) (n : ℕ) → IsInUse slots n → n < length slots
inside [] n h = cc
inside (s ∷ slots) zero h = omega arith
inside (s ∷ slots) (suc n) h = let k : n < length slots = inside slots n h in omega arith

-- a slot that no place is in holds nothing
pub free_holds : (slot : Slot) (t : ℕ) → node_in slot ≡ None → slot_occurs slot t ≡ 0
free_holds (Slot.Used place) t e = cc
free_holds (Slot.List place items) t e = cc
free_holds _ t e = refl

-- a slot that is given something else
pub shows_set : (slots : List Slot) (n : ℕ) (was now : Slot) → slice_get slots n ≡ Some was
    → Shows (set slots n now) (with_slot (heap_of slots) n (node_in now))
shows_set slots n was now e m = elim (number_cases m n) [
  | inl same ↦ rw same (ap (option_and_then node_in) (set_gets slots n was now e) ∙ sym (with_here (heap_of slots) n (node_in now)))
  | inr ne ↦ ap (option_and_then node_in) (set_keeps slots n now m ne) ∙ sym (with_other (heap_of slots) n (node_in now) m ne)
]
