-- Places in slots, and the ways to them.
use Rattle.std.proofs.Common.{◌≡◌, ◌≢◌, ◌⊎◌, ℕ, zero, suc, ◌+◌, ◌<◌, ◌≤◌, Bool, true, false, List, [], ◌∷◌, ◌++◌, length, length-append, get_or, map, nat_eq, inl, inr, refl, sym, ◌∙◌, ap, subst, arith}
use Rattle.fr_store.specs.Common.{All, AllMarked, AreOnce, FrameOwner, Heap, Holds, IsHere, IsPlaced, IsStoredHere, Kid, Kids, LeadsUnstored, NodeId, Pairs, Place, Plan, Plot, Reaches, StoredBut, along_at, at, begun_plot, count_kids, counts_if, counts_in, counts_other, counts_own, counts_same, gone, holds_at, kid, kid_at, kid_at_append, kid_in_plot, kid_nth, leads_at, leads_reach, marked, marked_at, marked_nth, no_kids, node_along, owner_along, same_or_other, slot_at, slot_here, slots_above, slots_along, stored_here, stored_in, there, uses, uses_among, uses_at, uses_in, uses_nth}
use Rattle.std.proofs.lemmas.List.{get_or_at, append-nil}
use Rattle.std.proofs.lemmas.List.Elements.{All-contains, All-head, All-tail, Contains-get_or}
use Rattle.fr_store.proofs.HeadLaws.{two_nth}
use Rattle.fr_store.proofs.PairLaws.{none_counted, of_map}

-- Ways that go on.

reaches_front : (place below : Place) (k : Kid) → Reaches (place ++ below) k → Reaches place k
reaches_front [] below k reach = tt
reaches_front (i ∷ place) below (at slot stored (begun_plot tracker kids)) reach =
    (reach.0, reaches_front place below (kid_nth i kids) reach.1)
reaches_front (i ∷ place) below _ reach = absurd reach

pub reaches_back : (place below : Place) (k : Kid) → Reaches (place ++ below) k → Reaches below (kid_at place k)
reaches_back [] below k reach = reach
reaches_back (i ∷ place) below (at slot stored (begun_plot tracker kids)) reach =
    reaches_back place below (kid_nth i kids) reach.1
reaches_back (i ∷ place) below _ reach = absurd reach

reaches_on : (place below : Place) (k : Kid) → Reaches place k → Reaches below (kid_at place k) → Reaches (place ++ below) k
reaches_on [] below k reach on = on
reaches_on (i ∷ place) below (at slot stored (begun_plot tracker kids)) reach on =
    (reach.0, reaches_on place below (kid_nth i kids) reach.1 on)
reaches_on (i ∷ place) below _ reach on = absurd reach

here_of_way : (i : ℕ) (below : Place) (k : Kid) → Reaches (i ∷ below) k → IsHere k
here_of_way i below (at slot stored plot) reach = tt
here_of_way i below _ reach = absurd reach

-- what lies above a place in a slot is in a slot
pub placed_above : (place below : Place) {k : Kid} → IsPlaced k (place ++ below) → IsPlaced k place
placed_above place [] {k} placed = subst (IsPlaced k) (append-nil place) placed
placed_above place (i ∷ below) {k} placed = record {
  reaches = reaches_front place (i ∷ below) k placed.reaches;
  here = here_of_way i below (kid_at place k) (reaches_back place (i ∷ below) k placed.reaches);
}

-- a child in a slot
pub placed_below : {place below : Place} {k : Kid} → IsPlaced k place → IsPlaced (kid_at place k) below
    → IsPlaced k (place ++ below)
placed_below {place} {below} {k} placed child = record {
  reaches = reaches_on place below k placed.reaches child.reaches;
  here = subst IsHere (sym (kid_at_append place below k)) child.here;
}

pub placed_child : (place : Place) (i : ℕ) {k : Kid} → IsPlaced k (place ++ i ∷ []) → IsPlaced (kid_at place k) (i ∷ [])
placed_child place i {k} placed = record {
  reaches = reaches_back place (i ∷ []) k placed.reaches;
  here = subst IsHere (kid_at_append place (i ∷ []) k) placed.here;
}

-- Where no slot serves twice, a slot tells its place.

uses_here : (k : Kid) → IsHere k → 1 ≤ uses k (slot_here k)
uses_here (at slot stored plot) here = omega (arith, counts_same slot)
uses_here _ here = absurd here

used_at : (place : Place) (k : Kid) → IsHere (kid_at place k) → 1 ≤ uses k (slot_at k place)
used_at place k here = omega (arith, uses_here (kid_at place k) here, uses_at place k (slot_at k place))

same_way : (first second : Place) (k : Kid) → ((n : ℕ) → uses k n ≤ 1) → Reaches first k → IsHere (kid_at first k)
    → Reaches second k → IsHere (kid_at second k) → slot_at k first ≡ slot_at k second → first ≡ second
same_way [] [] k once one here two also e = refl
same_way [] (j ∷ second) (at slot stored (begun_plot tracker kids)) once one here two also e =
    let child : uses (kid_nth j kids) slot ≡ uses (kid_nth j kids) (slot_at (kid_nth j kids) second)
    = ap (uses (kid_nth j kids)) e in
    absurd (omega (arith, once slot, counts_same slot, uses_nth j kids slot, used_at second (kid_nth j kids) also))
same_way (i ∷ first) [] (at slot stored (begun_plot tracker kids)) once one here two also e =
    let child : uses (kid_nth i kids) slot ≡ uses (kid_nth i kids) (slot_at (kid_nth i kids) first)
    = ap (uses (kid_nth i kids)) (sym e) in
    absurd (omega (arith, once slot, counts_same slot, uses_nth i kids slot, used_at first (kid_nth i kids) here))
same_way (i ∷ first) (j ∷ second) (at slot stored (begun_plot tracker kids)) once one here two also e =
    go (same_or_other i j) (λ reach there same. same_way first second (kid_nth i kids)
    (λ n. omega (arith, once n, uses_nth i kids n)) one.1 here reach there same)
  where
    go : (i ≡ j) ⊎ (i ≢ j) → (Reaches second (kid_nth i kids) → IsHere (kid_at second (kid_nth i kids))
        → slot_at (kid_nth i kids) first ≡ slot_at (kid_nth i kids) second → first ≡ second) → i ∷ first ≡ j ∷ second
    go (inl same) rest =
        let back = sym same in
        let more : first ≡ second = rest (subst (λ (m : ℕ). Reaches second (kid_nth m kids)) back two.1)
        (subst (λ (m : ℕ). IsHere (kid_at second (kid_nth m kids))) back also)
        (e ∙ ap (λ (m : ℕ). slot_at (kid_nth m kids) second) back) in
        cc
    go (inr ne) rest =
        let n = slot_at (kid_nth i kids) first in
        let child : uses (kid_nth j kids) n ≡ uses (kid_nth j kids) (slot_at (kid_nth j kids) second)
        = ap (uses (kid_nth j kids)) e in
        absurd (omega
        (arith, once n, two_nth i j kids n ne, used_at first (kid_nth i kids) here, used_at second (kid_nth j kids) also))
same_way (i ∷ first) second _ once one here two also e = absurd one
same_way [] (j ∷ second) _ once one here two also e = absurd two

pub same_place : {first second : Place} {k : Kid} → ((n : ℕ) → uses k n ≤ 1) → IsPlaced k first → IsPlaced k second
    → slot_at k first ≡ slot_at k second → first ≡ second
same_place {first} {second} {k} once one two e = same_way first second k once one.reaches one.here two.reaches two.here e

-- places that differ are in different slots
pub slots_once : (k : Kid) → ((n : ℕ) → uses k n ≤ 1) → (So : Place → Place → Type 0) → ((p q : Place) → So p q → p ≢ q)
    → (places : List Place) → All (IsPlaced k) places → Pairs So places → AreOnce (map (slot_at k) places)
slots_once k once So differ [] placed order n = omega arith
slots_once k once So differ (p ∷ places) placed order n =
    go (same_or_other (slot_at k p) n) (slots_once k once So differ places others order.1 n)
  where
    others : All (IsPlaced k) places
    others = All-tail (IsPlaced k) p places placed

    apart : All (λ (m : ℕ). m ≢ slot_at k p) (map (slot_at k) places)
    apart i d h e =
        let from = of_map (slot_at k) places (get_or (map (slot_at k) places) i d)
        (Contains-get_or (map (slot_at k) places) i d h) in
        differ p from.0 (All-contains (So p) places from.0 order.0 from.1) (same_place once
        (All-head (IsPlaced k) p places placed) (All-contains (IsPlaced k) places from.0 others from.1) (sym e ∙ sym from.2))

    go : (slot_at k p ≡ n) ⊎ (slot_at k p ≢ n) → counts_in n (map (slot_at k) places) ≤ 1
        → counts_if (nat_eq (slot_at k p) n) + counts_in n (map (slot_at k) places) ≤ 1
    go (inl e) less =
        let none = none_counted (slot_at k p) (map (slot_at k) places) apart in
        let same : counts_in (slot_at k p) (map (slot_at k) places) ≡ counts_in n (map (slot_at k) places)
        = ap (λ (m : ℕ). counts_in m (map (slot_at k) places)) e in
        omega (arith, counts_own (sym e))
    go (inr ne) less = omega (arith, counts_other (slot_at k p) n ne)

-- The stack and what is stored.

first_along : (place : Place) (k : Kid) → IsHere k → (rest : List ℕ) × (slots_along place k ≡ slot_here k ∷ rest)
first_along place gone here = absurd here
first_along place (there v) here = absurd here
first_along [] (at slot stored plot) here = ([], refl)
first_along (i ∷ place) (at slot stored plot) here = (slots_along place (kid_in_plot i plot), refl)

pub leads_here : (place : Place) (k : Kid) → LeadsUnstored place k → IsHere k
leads_here [] (at slot stored plot) leads = tt
leads_here [] _ leads = absurd leads
leads_here (i ∷ place) (at slot stored plot) leads = tt
leads_here (i ∷ place) _ leads = absurd leads

mark_of : (mark : Bool) (k : Kid) → AllMarked mark k → IsHere k → stored_here k ≡ mark
mark_of mark (at slot stored plot) all here = all.0
mark_of mark _ all here = absurd here

nth_cases : (i j : ℕ) (Below : Kid → Type 0) (ks : Kids) → StoredBut i Below ks
    → ((i ≡ j) × Below (kid_nth j ks)) ⊎ AllMarked true (kid_nth j ks)
nth_cases i j Below no_kids leads = absurd leads
nth_cases zero zero Below (kid k ks) leads = inl (refl, leads.0)
nth_cases zero (suc j) Below (kid k ks) leads = inr (marked_nth true j ks leads.1)
nth_cases (suc i) zero Below (kid k ks) leads = inr leads.0
nth_cases (suc i) (suc j) Below (kid k ks) leads = go (nth_cases i j Below ks leads.1)
  where
    go : ((i ≡ j) × Below (kid_nth j ks)) ⊎ AllMarked true (kid_nth j ks)
        → ((suc i ≡ suc j) × Below (kid_nth j ks)) ⊎ AllMarked true (kid_nth j ks)
    go (inl way) = inl (ap suc way.0, way.1)
    go (inr all) = inr all

-- what lies in a slot is stored or open
pub stored_or_open : (cursor place : Place) (k : Kid) → LeadsUnstored cursor k → Reaches place k → IsHere (kid_at place k)
    → IsStoredHere k place ⊎ ((below : Place) × (cursor ≡ place ++ below))
stored_or_open cursor [] k leads reach here = inr (cursor, refl)
stored_or_open [] (j ∷ place) (at slot stored (begun_plot tracker kids)) leads reach here =
    inl (mark_of true (kid_at place (kid_nth j kids))
    (marked_at true place (kid_nth j kids) (marked_nth true j kids leads.1)) here)
stored_or_open (i ∷ cursor) (j ∷ place) (at slot stored (begun_plot tracker kids)) leads reach here =
    go (nth_cases i j (λ below. LeadsUnstored cursor below) kids leads.1)
    (λ on. stored_or_open cursor place (kid_nth j kids) on reach.1 here)
  where
    more : (i ≡ j) → (stored_here (kid_at place (kid_nth j kids)) ≡ true) ⊎ ((below : Place) × (cursor ≡ place ++ below))
        → (stored_here (kid_at place (kid_nth j kids)) ≡ true) ⊎ ((below : Place) × (i ∷ cursor ≡ j ∷ place ++ below))
    more e (inl marked) = inl marked
    more e (inr on) = inr (on.0, ap (λ (n : ℕ). n ∷ cursor) e ∙ ap (λ (p : Place). j ∷ p) on.1)

    go : ((i ≡ j) × LeadsUnstored cursor (kid_nth j kids)) ⊎ AllMarked true (kid_nth j kids) → (LeadsUnstored cursor (kid_nth j kids)
        → (stored_here (kid_at place (kid_nth j kids)) ≡ true) ⊎ ((below : Place) × (cursor ≡ place ++ below)))
        → (stored_here (kid_at place (kid_nth j kids)) ≡ true) ⊎ ((below : Place) × (i ∷ cursor ≡ j ∷ place ++ below))
    go (inl way) rest = more way.0 (rest way.1)
    go (inr all) rest = inl (mark_of true (kid_at place (kid_nth j kids)) (marked_at true place (kid_nth j kids) all) here)
stored_or_open cursor (j ∷ place) _ leads reach here = absurd reach

-- no open place is stored
unstored_top : (below : Place) (k : Kid) → LeadsUnstored below k → stored_here k ≡ false
unstored_top below gone leads = refl
unstored_top below (there v) leads = refl
unstored_top [] (at slot stored plot) leads = leads.0
unstored_top (i ∷ below) (at slot stored plot) leads = leads.0

pub open_unstored : (above below : Place) (k : Kid) → LeadsUnstored (above ++ below) k → stored_here (kid_at above k) ≡ false
open_unstored above below k leads = unstored_top below (kid_at above k) (leads_at above below k leads)

pub open_placed : (above below : Place) {k : Kid} → LeadsUnstored (above ++ below) k → IsPlaced k above
open_placed above below {k} leads = record {
  reaches = leads_reach above below k leads;
  here = leads_here below (kid_at above k) (leads_at above below k leads);
}

-- The stack is the slots of the open places.

above_long : (place : Place) (k : Kid) → Reaches place k → length (slots_above place k) ≡ length place
above_long [] k reach = refl
above_long (i ∷ place) (at slot stored (begun_plot tracker kids)) reach = ap suc (above_long place (kid_nth i kids) reach.1)
above_long (i ∷ place) _ reach = absurd reach

pub along_long : (cursor : Place) (k : Kid) → LeadsUnstored cursor k → length (slots_along cursor k) ≡ length cursor + 1
along_long cursor k leads =
    let on : LeadsUnstored (cursor ++ []) k = subst (λ (p : Place). LeadsUnstored p k) (sym (append-nil cursor)) leads in
    let split : slots_along cursor k ≡ slots_above cursor k ++ slots_along [] (kid_at cursor k)
    = ap (λ (p : Place). slots_along p k) (sym (append-nil cursor)) ∙ along_at cursor [] k (leads_reach cursor [] k on) in
    let long = above_long cursor k (leads_reach cursor [] k on) in
    let last = first_along [] (kid_at cursor k) (leads_here [] (kid_at cursor k) (leads_at cursor [] k on)) in
    let one = last_alone (kid_at cursor k) (leads_here [] (kid_at cursor k) (leads_at cursor [] k on)) in
    let whole = ap (λ (l : List ℕ). length l) split in
    omega (arith, length-append (slots_above cursor k) (slots_along [] (kid_at cursor k)))
  where
    last_alone : (x : Kid) → IsHere x → length (slots_along [] x) ≡ 1
    last_alone gone here = absurd here
    last_alone (there v) here = absurd here
    last_alone (at slot stored plot) here = refl

pub behind : (xs : List ℕ) (y : ℕ) (ys : List ℕ) (i d : ℕ) → i ≡ length xs → get_or (xs ++ y ∷ ys) i d ≡ y
behind xs y ys i d e = get_or_at xs y ys d i (sym e)

pub along_nth : (above below : Place) (k : Kid) {i : ℕ} (d : ℕ) → LeadsUnstored (above ++ below) k → i ≡ length above
    → get_or (slots_along (above ++ below) k) i d ≡ slot_at k above
along_nth above below k {i} d leads e =
    let reach = leads_reach above below k leads in
    let first = first_along below (kid_at above k) (leads_here below (kid_at above k) (leads_at above below k leads)) in
    ap (λ (l : List ℕ). get_or l i d) (along_at above below k reach ∙ ap (λ (l : List ℕ). slots_above above k ++ l) first.1)
    ∙ behind (slots_above above k) (slot_at k above) first.0 i d (e ∙ sym (above_long above k reach))

-- what the heap says of a place's mark
mark_told : (plan : Plan) (heap : Heap) (node : NodeId) (owner : FrameOwner) (depth : ℕ) (k : Kid)
    → Holds plan heap node owner depth k → IsHere k → marked heap (slot_here k) ≡ stored_here k
mark_told plan heap node owner depth (at slot stored plot) holds here = ap stored_in holds.0
mark_told plan heap node owner depth _ holds here = absurd here

pub mark_at : (plan : Plan) (heap : Heap) (node : NodeId) (owner : FrameOwner) (depth : ℕ) {place : Place} {k : Kid}
    → Holds plan heap node owner depth k → IsPlaced k place → marked heap (slot_at k place) ≡ stored_here (kid_at place k)
mark_at plan heap node owner depth {place} {k} holds placed =
    mark_told plan heap (node_along plan node place k) (owner_along owner place k) (depth + length place) (kid_at place k)
    (holds_at plan heap node owner depth place k holds placed.reaches) placed.here

-- Each slot that serves is that of a place.

mutual
  pub place_of : (k : Kid) (n : ℕ) → 0 < uses k n → (p : Place) × IsPlaced k p × (slot_at k p ≡ n)
  place_of gone n h = absurd (omega arith)
  place_of (there v) n h = absurd (omega arith)
  place_of (at slot stored plot) n h = go (same_or_other slot n) (λ more. place_in slot stored plot n more)
    where
      go : (slot ≡ n) ⊎ (slot ≢ n)
          → (0 < uses_in plot n → (p : Place) × IsPlaced (at slot stored plot) p × (slot_at (at slot stored plot) p ≡ n))
          → (p : Place) × IsPlaced (at slot stored plot) p × (slot_at (at slot stored plot) p ≡ n)
      go (inl e) rest = ([], record { reaches = tt; here = tt }, e)
      go (inr ne) rest = let other = counts_other slot n ne in rest (omega arith)

  place_in : (slot : ℕ) (stored : Bool) (plot : Plot) (n : ℕ) → 0 < uses_in plot n
      → (p : Place) × IsPlaced (at slot stored plot) p × (slot_at (at slot stored plot) p ≡ n)
  place_in slot stored (begun_plot tracker kids) n h =
      let found = place_among kids n h in
      (found.0 ∷ found.1, record { reaches = (found.2, found.3.reaches); here = found.3.here }, found.4)
  place_in slot stored _ n h = absurd (omega arith)

  place_among : (ks : Kids) (n : ℕ) → 0 < uses_among ks n
      → (i : ℕ) × (p : Place) × (i < count_kids ks) × IsPlaced (kid_nth i ks) p × (slot_at (kid_nth i ks) p ≡ n)
  place_among no_kids n h = absurd (omega arith)
  place_among (kid k ks) n h = go (uses k n) refl (λ here. place_of k n here) (λ later. place_among ks n later)
    where
      go : (count : ℕ) → uses k n ≡ count → (0 < uses k n → (p : Place) × IsPlaced k p × (slot_at k p ≡ n)) → (0 < uses_among ks n
          → (i : ℕ) × (p : Place) × (i < count_kids ks) × IsPlaced (kid_nth i ks) p × (slot_at (kid_nth i ks) p ≡ n))
          → (i : ℕ) × (p : Place) × (i < count_kids (kid k ks)) × IsPlaced (kid_nth i (kid k ks)) p
          × (slot_at (kid_nth i (kid k ks)) p ≡ n)
      go zero e here later =
          let found = later (omega (arith, e)) in
          let inside = found.2 in
          (suc found.0, found.1, omega arith, found.3, found.4)
      go (suc count) e here later =
          let found = here (omega (arith, e)) in
          (0, found.0, omega arith, found.1, found.2)
