-- How the value of a place that completes leaves it.
use Rattle.std.specs.Prelude.{◌≡◌, ℕ, List, Some, None}
use Rattle.fr_shape.specs.Val.{Val}
use Rattle.fr_frame.specs.declared.places.FrameOwner.{FrameOwner}
use Rattle.fr_frame.specs.declared.places.Slot.{Slot}
use Rattle.fr_frame.specs.declared.places.Taker.{Taker}
use Rattle.fr_frame.specs.Bodies.{Body, entered_body, whole_body, begun_body, value_of}
use Rattle.fr_values.specs.Cells.{absent, placed}
use Rattle.fr_frame.specs.Changes.{Becomes, IfInUse, Shows}
use Rattle.fr_frame.specs.Heap.{Heap, Node, ends, gives, heap_of, held_by, with_body, with_slot, without, IsItemOf}

-- the value of the place in slot n, which belongs there, may be taken so
abbrev pub MayTake : Taker → (n : ℕ) → FrameOwner → Heap → Type 0
MayTake Taker.Above n owner heap = held_by heap owner ≡ Some (placed n)
MayTake Taker.Set n owner heap = (held_by heap owner ≡ Some (placed n)) × IsItemOf owner heap
MayTake Taker.Itself n owner heap = Unit {0}

-- this value of the place in slot n, which belongs there, was taken so
abbrev pub handed : Taker → (n : ℕ) → FrameOwner → Val → Heap → Heap
handed Taker.Above n owner v heap = gives owner v (without heap n owner)
handed Taker.Set n owner v heap = ends owner v (with_slot heap n None)
handed Taker.Itself n owner v heap = with_body heap n (λ (old : Body). whole_body v)

-- there was no memory for the value
abbrev pub unhanded : Taker → (n : ℕ) → FrameOwner → Heap → Heap
unhanded Taker.Above n owner heap = without heap n owner
unhanded Taker.Set n owner heap = without heap n owner
unhanded Taker.Itself n owner heap = heap

-- the place is whole
abbrev pub IsWhole : Body → Type 0
IsWhole entered_body = ⊥
IsWhole (whole_body v) = Unit {0}
IsWhole (begun_body tracker cells) = ⊥

-- the place in slot n is whole now, with the value that it comes to
pub record IsMadeWhole (before after : List Slot) (n : ℕ) : Type 0 where
  pub at : Node
  pub here : heap_of before n ≡ Some at
  pub value : Val
  pub made : value_of at.body ≡ Some value
  pub now : Becomes before after n at (whole_body value)

-- the whole place in slot n, of this owner, was taken out of it with this value, and its owner has it no more
pub record IsTakenWhole (before after : List Slot) (n : ℕ) (owner : FrameOwner) (value : Val) : Type 0 where
  pub at : Node
  pub here : heap_of before n ≡ Some at
  pub whole : at.body ≡ whole_body value
  pub of_owner : at.owner ≡ owner
  pub left : Shows after (without (heap_of before) n owner)
  pub absent_now : held_by (heap_of after) owner ≡ Some absent

-- the value of the whole place in slot n was taken so
abbrev pub IsHanded : Taker → (before after : List Slot) → (n : ℕ) → Type 0
IsHanded taker before after n = IfInUse before n (λ (at : Node).
    (v : Val) → value_of at.body ≡ Some v → Shows after (handed taker n at.owner v (heap_of before)))
