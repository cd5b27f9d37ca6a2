-- The places on the stack, while the stack stays as it is.
use Rattle.std.proofs.Common.{◌≡◌, ℕ, List, ◌++◌, length, get_or, refl, sym, ◌∙◌, ap, subst}
use Rattle.fr_store.specs.Common.{IsOpen, IsPlaced, Kid, LeadsUnstored, OpenStayPut, Place, Plan, Slot, cursor_shown, heap_of, kid_here, slot_at, slots_along}
use Rattle.fr_store.proofs.PlacesInSlots.{along_nth, open_placed}

-- the slot of an open place is on the stack
slot_on : {plan : Plan} {slots : List Slot} {stack : List ℕ} {cursor : Place} (place below : Place) → IsOpen plan slots stack
    → cursor_shown (heap_of slots) stack ≡ cursor → cursor ≡ place ++ below → IsPlaced (kid_here slots stack) place
    × (get_or stack (length place) 0 ≡ slot_at (kid_here slots stack) place)
slot_on {slots} {stack} place below is_open is on_way =
    let k : Kid = kid_here slots stack in
    let leads : LeadsUnstored (place ++ below) k = subst (λ (c : Place). LeadsUnstored c k) (is ∙ on_way) is_open.stands.leads in (
      open_placed place below leads,
      ap (λ (l : List ℕ). get_or l (length place) 0) (is_open.stands.along ∙ ap (λ (c : Place). slots_along c k) (is ∙ on_way))
          ∙ along_nth place below k 0 leads refl,
    )

pub open_stay : {plan : Plan} {before : List Slot} {stack : List ℕ} → IsOpen plan before stack
    → {after : List Slot} → {cursor : Place} → cursor_shown (heap_of before) stack ≡ cursor → IsOpen plan after stack
    → cursor_shown (heap_of after) stack ≡ cursor → OpenStayPut (kid_here before stack) (kid_here after stack) cursor
open_stay {plan} {before} {stack} first {after} {cursor} is last same place below on_way placed =
    let here = slot_on place below first is on_way in
    let there = slot_on place below last same on_way in
    (there.0, sym there.1 ∙ here.1)
