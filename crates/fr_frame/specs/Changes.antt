-- What the calls of slots owe.
use Rattle.std.specs.Prelude.{◌≡◌, ℕ, List, Some, IsSome, IsSomeAnd}
use Rattle.fr_frame.specs.declared.places.FrameOwner.{FrameOwner}
use Rattle.fr_frame.specs.declared.places.Slot.{Slot}
use Rattle.fr_frame.specs.Bodies.{Body}
use Rattle.fr_frame.specs.Heap.{Node, Heap, heap_of, marked, slots_occur, with_slot}

-- the slots are in use as this heap says
abbrev pub Shows : List Slot → Heap → Type 0
Shows slots heap = (n : ℕ) → heap_of slots n ≡ heap n

-- a place is in this slot
abbrev pub IsInUse : List Slot → ℕ → Type 0
IsInUse slots n = IsSome (heap_of slots n)

-- the owner, but where there is none above, is in use
abbrev pub IsOwnerInUse : List Slot → FrameOwner → Type 0
IsOwnerInUse slots FrameOwner.Root = Unit {0}
IsOwnerInUse slots (FrameOwner.Child parent i) = IsInUse slots parent.0

-- so it is of the place in this slot, which is in use
abbrev pub IfInUse : List Slot → ℕ → (Node → Type 0) → Type 0
IfInUse slots n So = IsSomeAnd (heap_of slots n) So

-- the place in this slot has another body, and all else is as it was
abbrev pub Becomes : (before after : List Slot) → ℕ → Node → Body → Type 0
Becomes before after n at body = Shows after (with_slot (heap_of before) n (Some (record at { body = body })))

-- no token came or went
abbrev pub SameTokens : (before after : List Slot) → Type 0
SameTokens before after = (t : ℕ) → slots_occur after t ≡ slots_occur before t

-- which places are stored is as it was
abbrev pub SameMarks : (before after : List Slot) → Type 0
SameMarks before after = (n : ℕ) → marked (heap_of after) n ≡ marked (heap_of before) n
