-- From the list of all stored places to the walk.
use Rattle.std.proofs.Common.{◌≡◌, ℕ, ◌≤◌, true, Bool, List, [], ◌∷◌, map, reverse, sym, ◌∙◌, ap, subst}
use Rattle.fr_store.specs.Common.{All, AreLeftRightly, AreStoredAt, ComesEarlier, FrameOwner, Heap, Holds, IsHere, IsPlaced, IsSpread, IsStoredAt, IsStoredHere, IsWalk, Kid, NodeId, Place, Plan, Plot, at, kid_at, slot_at, slot_here, stored_here, uses}
use Rattle.std.proofs.lemmas.List.Elements.{All-head, All-tail}
use Rattle.fr_store.proofs.EarlierLaws.{in_walk_order}
use Rattle.fr_store.proofs.PlacesInSlots.{same_place}
use Rattle.fr_store.proofs.StepOrder.{IsByTheWay}
use Rattle.fr_store.proofs.PairLaws.{all_reverse, in_reverse, map_reverse, pairs_reverse}

-- a stored place lies there
pub placed_stored : {k : Kid} {n : ℕ} {place : Place} → IsStoredAt k n place → IsPlaced k place
placed_stored stored = record { reaches = stored.reaches; here = subst IsHere (sym stored.is) tt }

-- a slot serves once, so that only one place lies in it
pub one_stored : {k : Kid} → ((n : ℕ) → uses k n ≤ 1) → {n : ℕ} {p q : Place} → IsStoredAt k n p → IsStoredAt k n q → p ≡ q
one_stored {k} once {n} {p} {q} one other =
    same_place once (placed_stored one) (placed_stored other) (ap slot_here one.is ∙ sym (ap slot_here other.is))

stored_plot : (k : Kid) → IsHere k → stored_here k ≡ true → (plot : Plot) × (k ≡ at (slot_here k) true plot)
stored_plot (at slot stored plot) here is = (plot, ap (λ (mark : Bool). at slot mark plot) is)
stored_plot _ here is = absurd here

stored_list : (k : Kid) (places : List Place) → All (IsPlaced k) places → All (λ p. stored_here (kid_at p k) ≡ true) places
    → AreStoredAt k (map (slot_at k) places) places
stored_list k [] placed marked_so = tt
stored_list k (p ∷ places) placed marked_so =
    let here = All-head (IsPlaced k) p places placed in
    let found = stored_plot (kid_at p k) here.here (All-head (λ q. stored_here (kid_at q k) ≡ true) p places marked_so) in (
      record { plot = found.0; reaches = here.reaches; is = found.1 },
      stored_list k places (All-tail (IsPlaced k) p places placed)
          (All-tail (λ q. stored_here (kid_at q k) ≡ true) p places marked_so),
    )

-- all stored places, read from the end
pub walk_of : (plan : Plan) (heap : Heap) (node : NodeId) (owner : FrameOwner) (depth : ℕ) {k : Kid} → Holds plan heap node
    owner depth k → AreLeftRightly k → IsByTheWay k → {slots : List ℕ} → IsSpread k slots → IsWalk k (reverse slots)
walk_of plan heap node owner depth {k} holds left by s = record {
  places = reverse s.places;
  stored =
      subst (λ (l : List ℕ). AreStoredAt k l (reverse s.places))
      (map_reverse (slot_at k) s.places ∙ ap (λ (l : List ℕ). reverse l) (sym s.slots_are))
      (stored_list k (reverse s.places) (all_reverse (IsPlaced k) s.places s.placed)
      (all_reverse (IsStoredHere k) s.places s.stored));
  order =
      in_walk_order plan heap node owner depth k holds left by (reverse s.places) (all_reverse (IsPlaced k) s.places s.placed)
      (pairs_reverse (ComesEarlier k) s.places s.order);
  all = λ slot place st. in_reverse s.places place (s.all place (placed_stored st) (ap stored_here st.is));
}
