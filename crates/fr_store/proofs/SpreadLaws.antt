-- How the list of all places grows: each place is followed by its children.
use Rattle.std.proofs.Common.{◌≡◌, ◌⊎◌, ℕ, List, [], ◌∷◌, ◌++◌, get_or, map, append_assoc, inl, inr, refl, sym, subst, arith}
use Rattle.fr_store.specs.Common.{All, ComesEarlier, Contains, IsHere, IsPlaced, IsStoredHere, Kid, Pairs, Place, slot_at}
use Rattle.std.proofs.lemmas.List.{append-nil}
use Rattle.std.proofs.lemmas.List.Elements.{All-nil, All-cons, All-head, All-append, All-contains, Contains-append_left, Contains-append_right, Contains-push, Contains-push_cases}
use Rattle.fr_store.proofs.EarlierLaws.{children_earlier, root_earlier}
use Rattle.fr_store.proofs.PairLaws.{all_right, first_in, pairs_append, pairs_cross, parts}
use Rattle.fr_store.proofs.PlacesInSlots.{placed_above}

-- a child of a place
abbrev pub IsChild : (above place : Place) → Type 0
IsChild above place = (i : ℕ) × (place ≡ above ++ i ∷ [])

-- These are all children of a place that lie in slots, in order.
pub record AreChildren (k : Kid) (above : Place) (children : List Place) : Type 0 where
  pub placed : All (IsPlaced k) children
  pub each : All (IsChild above) children
  pub order : Pairs (ComesEarlier k) children
  pub all : (i : ℕ) → IsPlaced k (above ++ i ∷ []) → Contains children (above ++ i ∷ [])

-- The same where each of them is stored: these are their slots.
pub record AreClosed (k : Kid) (above : Place) (slots : List ℕ) : Type 0 where
  pub children : List Place
  pub are : AreChildren k above children
  pub stored : All (IsStoredHere k) children
  pub slots_are : slots ≡ map (slot_at k) children

-- And where each but child j is: these are the slots of those that come before it, and of those after it.
pub record AreOpenAt (k : Kid) (above : Place) (j : ℕ) (first last : List ℕ) : Type 0 where
  pub front : List Place
  pub back : List Place
  pub are : AreChildren k above (front ++ (above ++ j ∷ []) ∷ back)
  pub front_stored : All (IsStoredHere k) front
  pub back_stored : All (IsStoredHere k) back
  pub first_is : first ≡ map (slot_at k) front
  pub last_is : last ≡ map (slot_at k) back

-- where a place comes from: it is the root, or a child of one of these
abbrev pub ComesOf : List Place → Place → Type 0
ComesOf done place = (place ≡ []) ⊎ ((above : Place) × (i : ℕ) × Contains done above × (place ≡ above ++ i ∷ []))

-- These are places in order. Of the first ones the children are among them too, and the others wait for that.
pub record IsSpreading (k : Kid) (done waiting : List Place) : Type 0 where
  pub placed : All (IsPlaced k) (done ++ waiting)
  pub order : Pairs (ComesEarlier k) (done ++ waiting)
  pub root : Contains (done ++ waiting) []
  pub children : (place : Place) (i : ℕ) → Contains done place → IsPlaced k (place ++ i ∷ [])
      → Contains (done ++ waiting) (place ++ i ∷ [])
  pub origin : All (ComesOf done) (done ++ waiting)

-- The root alone.
pub spreads_root : (k : Kid) → IsHere k → IsSpreading k [] ([] ∷ [])
spreads_root k here = record {
  placed = All-cons (IsPlaced k) [] [] (record { reaches = tt; here = here }) (All-nil (IsPlaced k));
  order = (All-nil (ComesEarlier k []), tt);
  root = first_in [] [];
  children = λ place i at placed. absurd (omega (arith, at.1));
  origin = All-cons (ComesOf []) [] [] (inl refl) (All-nil (ComesOf []));
}

-- the first one that waits
pub p_placed : (k : Kid) (done rest : List Place) (p : Place) → IsSpreading k done (p ∷ rest) → IsPlaced k p
p_placed k done rest p s = All-head (IsPlaced k) p rest (all_right (IsPlaced k) done (p ∷ rest) s.placed)

-- One place more.
module _ (k : Kid) (done rest : List Place) (p : Place) (s : IsSpreading k done (p ∷ rest)) (added : List Place)
    (are : AreChildren k p added) where
  abbrev listed : List Place
  listed = done ++ p ∷ rest

  before_p : All (λ q. ComesEarlier k q p) done
  before_p i d h = All-head (ComesEarlier k (get_or done i d)) p rest (pairs_cross (ComesEarlier k) done (p ∷ rest) s.order i d h)

  before_added : (q : Place) → ComesOf done q → All (ComesEarlier k q) added
  before_added q (inl e) i d h =
      let child = are.each i d h in
      subst (ComesEarlier k q) (sym child.1) (subst (λ (l : Place). ComesEarlier k l (p ++ child.0 ∷ [])) (sym e) (root_earlier k p child.0))
  before_added q (inr from) i d h =
      let child = are.each i d h in
      subst (ComesEarlier k q) (sym child.1) (subst (λ (l : Place). ComesEarlier k l (p ++ child.0 ∷ [])) (sym from.3)
      (children_earlier k from.0 p from.1 child.0 (All-contains (λ q. ComesEarlier k q p) done from.0 before_p from.2)))

  children_more : (place : Place) (i : ℕ) → Contains (done ++ p ∷ []) place → IsPlaced k (place ++ i ∷ [])
      → Contains (listed ++ added) (place ++ i ∷ [])
  children_more place i at placed = go (Contains-push_cases done p place at)
    where
      go : Contains done place ⊎ (p ≡ place) → Contains (listed ++ added) (place ++ i ∷ [])
      go (inl old) = Contains-append_left listed added (place ++ i ∷ []) (s.children place i old placed)
      go (inr e) =
          Contains-append_right listed added (place ++ i ∷ []) (subst (λ (q : Place). Contains added (q ++ i ∷ [])) e
          (are.all i (subst (λ (q : Place). IsPlaced k (q ++ i ∷ [])) (sym e) placed)))

  comes_still : (q : Place) → ComesOf done q → ComesOf (done ++ p ∷ []) q
  comes_still q (inl e) = inl e
  comes_still q (inr from) = inr (from.0, from.1, Contains-append_left done (p ∷ []) from.0 from.2, from.3)

  origin_more : All (ComesOf (done ++ p ∷ [])) (listed ++ added)
  origin_more =
      All-append (ComesOf (done ++ p ∷ [])) listed added (λ i d h. comes_still (get_or listed i d) (s.origin i d h))
      (λ i d h. let child = are.each i d h in inr (p, child.0, Contains-push done p, child.1))

  pub spreads_on : IsSpreading k (done ++ p ∷ []) (rest ++ added)
  spreads_on = record {
    placed = subst (All (IsPlaced k)) (sym (parts done rest p added)) (All-append (IsPlaced k) listed added s.placed are.placed);
    order =
        subst (Pairs (ComesEarlier k)) (sym (parts done rest p added))
        (pairs_append (ComesEarlier k) listed added s.order are.order
        (λ i d h. before_added (get_or listed i d) (s.origin i d h)));
    root = subst (λ (l : List Place). Contains l []) (sym (parts done rest p added)) (Contains-append_left listed added [] s.root);
    children = λ place i at placed.
        subst (λ (l : List Place). Contains l (place ++ i ∷ [])) (sym (parts done rest p added)) (children_more place i at placed);
    origin = subst (All (ComesOf (done ++ p ∷ []))) (sym (parts done rest p added)) origin_more;
  }

-- All places are listed.
pub reached : (k : Kid) (done : List Place) → IsSpreading k done [] → (front back : Place) → Contains done front
    → IsPlaced k (front ++ back) → Contains done (front ++ back)
reached k done s front [] at placed = subst (Contains done) (sym (append-nil front)) at
reached k done s front (i ∷ back) at placed =
    let longer : (front ++ i ∷ []) ++ back ≡ front ++ i ∷ back = append_assoc front (i ∷ []) back in
    let placed_on : IsPlaced k ((front ++ i ∷ []) ++ back) = subst (IsPlaced k) (sym longer) placed in
    subst (Contains done) longer (reached k done s (front ++ i ∷ []) back (subst (λ (l : List Place). Contains
    l (front ++ i ∷ [])) (append-nil done) (s.children front i at (placed_above (front ++ i ∷ []) back placed_on))) placed_on)

pub all_reached : (k : Kid) (done : List Place) → IsSpreading k done [] → (place : Place) → IsPlaced k place → Contains done place
all_reached k done s place placed =
    reached k done s [] place (subst (λ (l : List Place). Contains l []) (append-nil done) s.root) placed
