-- The steps of the loop that lists all places in slots beneath the one on top of the stack.
use Rattle.std.proofs.Common.{◌≡◌, ℕ, ◌+◌, ◌<◌, ◌≤◌, List, [], ◌∷◌, ◌++◌, length, length-append, get_or, reverse, inl, inr, refl, sym, ◌∙◌, ap, subst, arith}
use Rattle.fr_store.specs.Common.{FrameOwner, Heap, Holds, IsLast, IsOpen, IsPlaced, IsSome, IsStoredHere, IsWalk, Kid, LeadsUnstored, NodeId, Place, Plan, Slot, cells_found, cursor_in, heap_of, holds_at, is_map_found, is_some, kid_at, kid_here, kid_on_top, left_at, node_along, open_reach, open_top, owner_along, slot_at, slot_here, slotted, top_slot}
use Rattle.std.proofs.lemmas.List.{nil_from_length}
use Rattle.fr_store.specs.TokenLaws.{used_within}
use Rattle.fr_store.proofs.BeneathChildren.{children_here}
use Rattle.fr_store.proofs.BeneathTurns.{leads_on_top, once_on_top}
use Rattle.fr_store.proofs.PairLaws.{room_below}
use Rattle.fr_store.proofs.PlacesInSlots.{leads_here}
use Rattle.fr_store.proofs.QueueLaws.{IsQueue, ahead_now, all_written, first_placed, first_read, first_stored, last_next, queue_starts, stored_next, written_of, written_once}
use Rattle.fr_store.proofs.SiblingLaws.{none_of_last, none_of_stored}
use Rattle.fr_store.proofs.SpreadLaws.{AreClosed}
use Rattle.fr_store.proofs.StoredLaws.{found_in}
use Rattle.fr_store.proofs.WalkLaws.{walk_of}

-- what is written down as the children of the place in this slot
abbrev pub slots_below : Heap → ℕ → List ℕ
slots_below heap n = slotted (is_map_found (heap n)) (cells_found (heap n)) (length (cells_found (heap n)))

-- the top came, and its children were written down
abbrev pub IsQueueBeneath : List Slot → (stack : List ℕ) → (queue : List ℕ) → (head : ℕ) → Type 0
IsQueueBeneath slots stack queue head = IsQueue (kid_on_top slots stack) [] queue head 1 0

module _ {plan : Plan} {slots : List Slot} {stack : List ℕ} (open_now : IsOpen plan slots stack) where
  abbrev k : Kid
  k = kid_on_top slots stack

  abbrev node : NodeId
  node = node_along plan plan.root (cursor_in slots stack) (kid_here slots stack)

  abbrev owner : FrameOwner
  owner = owner_along FrameOwner.Root (cursor_in slots stack) (kid_here slots stack)

  leads : LeadsUnstored [] (kid_on_top slots stack)
  leads = leads_on_top open_now

  holds : Holds plan (heap_of slots) node owner (0 + length (cursor_in slots stack)) (kid_on_top slots stack)
  holds =
      holds_at plan (heap_of slots) plan.root FrameOwner.Root 0 (cursor_in slots stack) (kid_here slots stack)
      open_now.stands.holds (open_reach open_now)

  holds_place : (p : Place) → IsPlaced k p → Holds plan (heap_of slots) (node_along plan node p k) (owner_along owner p k)
      (0 + length (cursor_in slots stack) + length p) (kid_at p k)
  holds_place p placed = holds_at plan (heap_of slots) node owner (0 + length (cursor_in slots stack)) p k holds placed.reaches

  closed_at : (p : Place) → IsPlaced k p → ((i : ℕ) → IsPlaced k (p ++ i ∷ []) → IsStoredHere k (p ++ i ∷ [])) → (n : ℕ)
      → slot_at k p ≡ n → AreClosed k p (slots_below (heap_of slots) n)
  closed_at p placed stored n is =
      subst (λ (m : ℕ). AreClosed k p (slots_below (heap_of slots) m)) is (children_here plan (heap_of slots)
      (node_along plan node p k) (owner_along owner p k) (0 + length (cursor_in slots stack) + length p) k p placed
      (holds_place p placed) stored)

  pub steps_begin : (n : ℕ) → IsLast stack n → IsQueueBeneath slots stack (slots_below (heap_of slots) n) 0
  steps_begin n last =
      let start = queue_starts k [] leads in
      let o = ahead_now start (omega arith) in
      let parts = ap (λ (l : Place). length l) o.on_way in
      let here : [] ≡ o.above = sym (nil_from_length o.above (sym o.number)) in
      last_next start leads o refl (nil_from_length o.below (omega (arith, length-append o.above o.below)))
      (slots_below (heap_of slots) n) (subst (λ (p : Place). AreClosed k p (slots_below (heap_of slots) n)) here (closed_at []
      (record { reaches = tt; here = leads_here [] k leads }) (none_of_last k [] leads [] refl) n
      (ap slot_here (open_top open_now).is ∙ top_slot open_now last))) 0

  module _ {queue : List ℕ} {head : ℕ} (q : IsQueueBeneath slots stack queue head) where
    -- there are no more of them than slots
    pub steps_few : length queue ≤ length slots
    steps_few =
        room_below queue (length slots) (written_once q (once_on_top open_now)) (λ n found.
        let lies = written_of q n found in
        used_within slots n (subst (λ (m : ℕ). IsSome (heap_of slots m)) lies.3 (ap is_some (found_in plan (heap_of slots)
        (node_along plan node lies.0 k) (owner_along owner lies.0 k) (0 + length (cursor_in slots stack) + length lies.0)
        (kid_at lies.0 k) (holds_place lies.0 lies.1) lies.1.here).1)))

    -- the children of the next one come behind the others
    pub steps_on : head < length queue → (n : ℕ) → n ≡ get_or queue head n → (next : List ℕ)
        → next ≡ queue ++ slots_below (heap_of slots) n → IsQueueBeneath slots stack next (head + 1)
    steps_on h n read next is =
        let first = first_stored q (λ still. absurd (omega arith)) (inr h) in
        subst (λ (l : List ℕ). IsQueueBeneath slots stack l (head + 1)) (sym is) (stored_next q first
        (slots_below (heap_of slots) n) (closed_at first.p (first_placed q first)
        (none_of_stored k [] leads first.p first.stored) n (sym (first_read q first n) ∙ sym read)))

    -- all are listed
    pub steps_end : length queue ≤ head → IsWalk (kid_on_top slots stack) (reverse queue)
    steps_end over =
        walk_of plan (heap_of slots) node owner (0 + length (cursor_in slots stack)) holds (left_at (cursor_in slots stack)
        (kid_here slots stack) open_now.stands.left) (inl ([], leads)) (all_written q (omega arith) over)
