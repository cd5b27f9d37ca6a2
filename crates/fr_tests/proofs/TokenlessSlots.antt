-- Slots without tokens: whatever is at a place in them has its room in a ledger.
use Rattle.std.proofs.Common.{◌≡◌, ℕ, zero, suc, ◌+◌, List, [], ◌∷◌, Option, Some, None, refl, sym, ◌∙◌, ap, arith}
use Rattle.std.specs.Prelude.{IsSome, IsSomeAnd}
use Rattle.fr_shape.specs.Released.{Room}
use Rattle.fr_frame.specs.Bodies.{body_occurs}
use Rattle.fr_frame.specs.Heap.{Node, heap_of, node_in, node_of, slot_occurs, slots_occur}
use Rattle.fr_frame.specs.declared.places.Slot.{Slot}

-- where no token is held, no room is needed
no_room : (held : ℕ → ℕ) (ledger : List ℕ) → ((t : ℕ) → held t ≡ 0) → Room held ledger
no_room held ledger none t some = absurd (omega (arith, none t))

same_some : (one other : Node) → Some one ≡ Some other → one ≡ other
same_some one other e = cc

-- no token is at a place that is in a slot without tokens
none_in : (slot : Slot) (at : Node) (t : ℕ) → node_in slot ≡ Some at → slot_occurs slot t ≡ 0 → body_occurs at.body t ≡ 0
none_in (Slot.Free next) at t e none = cc
none_in Slot.Reserved at t e none = cc
none_in (Slot.Used place) at t e none =
    ap (λ (node : Node). body_occurs node.body t) (sym (same_some (node_of place) at e)) ∙ none
none_in (Slot.List place items) at t e none =
    ap (λ (node : Node). body_occurs node.body t) (sym (same_some (node_of place) at e)) ∙ none
none_in (Slot.Item item) at t e none = cc

none_at : (slots : List Slot) (n : ℕ) (at : Node) → heap_of slots n ≡ Some at → ((t : ℕ) → slots_occur slots t ≡ 0)
    → (t : ℕ) → body_occurs at.body t ≡ 0
none_at [] n at e none t = cc
none_at (slot ∷ slots) zero at e none t = none_in slot at t e (omega (arith, none t))
none_at (slot ∷ slots) (suc n) at e none t = none_at slots n at e (λ u. omega (arith, none u)) t

-- where no slot has tokens, what is at a place has its room in a ledger
pub room_at : (slots : List Slot) (n : ℕ) (ledger : List ℕ) → ((t : ℕ) → slots_occur slots t ≡ 0) → IsSome (heap_of slots n)
    → IsSomeAnd (heap_of slots n) (λ (at : Node). Room (body_occurs at.body) ledger)
room_at slots n ledger none some = go (heap_of slots n) (λ at e. none_at slots n at e none) some
  where
    go : (found : Option Node) → ((at : Node) → found ≡ Some at → (t : ℕ) → body_occurs at.body t ≡ 0) → IsSome found
        → IsSomeAnd found (λ (at : Node). Room (body_occurs at.body) ledger)
    go (Some at) none some = no_room (body_occurs at.body) ledger (none at refl)
    go None none some = cc

-- what leaves with a place leaves no token behind
pub none_after : (found : Option Node) (before after : ℕ → ℕ)
    → IsSomeAnd found (λ (at : Node). (t : ℕ) → before t ≡ after t + body_occurs at.body t) → ((t : ℕ) → before t ≡ 0)
    → (t : ℕ) → after t ≡ 0
none_after (Some at) before after left none t = omega (arith, left t, none t)
none_after None before after left none t = absurd left

-- of what is so of a place in use, the place is in use
pub is_there : (found : Option Node) (So : Node → Type 0) → IsSomeAnd found So → IsSome found
is_there (Some at) So so = refl
is_there None So so = absurd so
