-- Places that are stored: left half done, off the way to the place at which a builder works.
use Rattle.std.specs.Prelude.{◌≡◌, ◌↔◌, ℕ, true, false, List, Some}
use Rattle.std.specs.List.{Contains}
use Rattle.fr_store.specs.Below.{ChildWay, Heap, Slot, heap_of, marked}
pub use Rattle.fr_frame.specs.Heap.{child_slot}

-- the store lists just the slots of the places that are stored
abbrev pub IsKept : (store : List ℕ) → List Slot → Type 0
IsKept store slots = (n : ℕ) → (marked (heap_of slots) n ≡ true) ↔ Contains store n

-- no place is stored
abbrev pub NothingStored : List Slot → Type 0
NothingStored slots = (n : ℕ) → marked (heap_of slots) n ≡ false

-- what wasn't stored before isn't stored after
abbrev pub StoresNoMore : (before after : List Slot) → Type 0
StoresNoMore before after = (n : ℕ) → marked (heap_of before) n ≡ false → marked (heap_of after) n ≡ false

-- the child of this number is in this slot, and is stored
pub record IsStoredChild (heap : Heap) (parent : ℕ) (i : ℕ) (child : ℕ) : Type 0 where
  pub slot : child_slot heap parent i ≡ Some child
  pub stored : marked heap child ≡ true

-- the child to which this way leads from the place in a slot is in this slot, and is stored: an item and a key are new, and the value under
-- a key belongs to a dynamic object, no part of which is ever stored
abbrev pub IsStoredBy : ChildWay → Heap → (parent : ℕ) → (child : ℕ) → Type 0
IsStoredBy (ChildWay.Child i) heap parent child = IsStoredChild heap parent i child
IsStoredBy _ heap parent child = ⊥
