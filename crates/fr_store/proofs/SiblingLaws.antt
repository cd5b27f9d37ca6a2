-- The stored children of one place among sorted stored places.
use Rattle.std.proofs.Common.{◌≡◌, ◌≢◌, ◌⊎◌, ℕ, suc, ◌+◌, ◌-◌, ◌<◌, ◌≤◌, true, false, List, [], ◌∷◌, ◌++◌, map, length, length-append, get_or, nat_eq, append_assoc, inl, inr, refl, sym, ◌∙◌, ap, subst, arith}
use Rattle.fr_store.specs.Common.{All, AreAllStored, AreOnce, ComesEarlier, Contains, IsNarrow, IsNonDecreasingBy, IsPlaced, IsStoredChildOf, IsStoredHere, Kid, LeadsUnstored, Pairs, Place, StoredPlace, at, begun_plot, counts_if, counts_same, filter, first_key, is_between, key_of, kid_at, order_below, same_front, same_last, same_or_other, slot_at, slot_of, slots_between, slots_of, stored_here, uses}
use Rattle.std.proofs.lemmas.List.{map-append}
use Rattle.std.proofs.lemmas.List.Elements.{All-cons, All-append, All-contains, All-contains_itself, All-filter, All-head, All-map, All-tail, filter_passes, Contains-append_left, Contains-append_right, Contains-get_or}
use Rattle.fr_store.specs.PlaceOrder.{IsAfterBelow, child_of}
use Rattle.fr_store.proofs.EarlierLaws.{siblings}
use Rattle.fr_store.proofs.PairLaws.{first_in, later_in, in_counted, in_filter, in_map, of_map, pairs_append, pairs_filter, pairs_map, pairs_weaker}
use Rattle.fr_store.proofs.PlacesInSlots.{open_unstored, placed_above, same_place, stored_or_open}
use Rattle.fr_store.proofs.KeyRanges.{between_is, between_told}
use Rattle.fr_store.proofs.SpreadLaws.{AreChildren, AreClosed, AreOpenAt, IsChild}
use Rattle.fr_store.proofs.StepOrder.{either_less, order_later, order_small, order_told}

-- Where a child comes.

told_below : (k : Kid) (i j : ℕ) → i < 4294967296 → j < 4294967296 → order_below i k ≡ order_below j k → i ≡ j
told_below (at slot stored (begun_plot tracker kids)) i j a b e = order_told tracker i j a b e
told_below _ i j a b e = e

later_below : (k : Kid) (i j : ℕ) → i < 4294967296 → j < 4294967296 → order_below j k < order_below i k → IsAfterBelow k i j
later_below (at slot stored (begun_plot tracker kids)) i j a b less = order_later tracker i j a b less
later_below _ i j a b less = less

small_below : (k : Kid) (i : ℕ) → i < 4294967296 → order_below i k < 4294967296
small_below (at slot stored (begun_plot tracker kids)) i a = order_small tracker i a
small_below _ i a = a

-- a child in a slot, and where it comes
record IsChildOf (k : Kid) (p : Place) (x : StoredPlace) : Type 0 where
  parent : x.parent ≡ slot_at k p
  narrow : IsNarrow x
  order : x.order ≡ order_below x.number (kid_at p k)
  placed : IsPlaced k (child_of p x)

-- the second comes later by its key, and is another child
abbrev ComesTo : (x y : StoredPlace) → Type 0
ComesTo x y = (key_of x ≤ key_of y) × (x.number ≢ y.number)

module _ (k : Kid) (p : Place) where
  siblings_by : (x y : StoredPlace) → IsChildOf k p x → IsChildOf k p y → ComesTo x y → ComesEarlier k (child_of p x) (child_of p y)
  siblings_by x y one two so = siblings k p x.number y.number (later_below (kid_at p k) x.number y.number one.narrow.0 two.narrow.0 less)
    where
      orders : y.order ≤ x.order
      orders =
          let parent : x.parent ≡ y.parent = one.parent ∙ sym two.parent in
          omega (arith, so.0, one.narrow.1, two.narrow.1)

      apart : order_below y.number (kid_at p k) ≢ order_below x.number (kid_at p k)
      apart e = so.1 (sym (told_below (kid_at p k) y.number x.number two.narrow.0 one.narrow.0 e))

      less : order_below y.number (kid_at p k) < order_below x.number (kid_at p k)
      less = omega (arith, orders, apart, one.order, two.order)

  same_key : (x y : StoredPlace) → IsChildOf k p x → IsChildOf k p y → x.number ≡ y.number → key_of x ≡ key_of y
  same_key x y one two e =
      let parents : x.parent ≡ y.parent = one.parent ∙ sym two.parent in
      let orders : x.order ≡ y.order = one.order ∙ ap (λ (i : ℕ). order_below i (kid_at p k)) e ∙ sym two.order in
      omega arith

  are_children : (xs : List StoredPlace) → All (IsChildOf k p) xs → Pairs ComesTo xs
      → ((i : ℕ) → IsPlaced k (p ++ i ∷ []) → Contains (map (child_of p) xs) (p ++ i ∷ [])) → AreChildren k p (map (child_of p) xs)
  are_children xs each order all = record {
    placed = All-map (IsPlaced k) (child_of p) xs (λ i d h. (each i d h).placed);
    each = All-map (IsChild p) (child_of p) xs (λ i d h. ((get_or xs i d).number, refl));
    order = pairs_map ComesTo (ComesEarlier k) (child_of p) (IsChildOf k p) siblings_by xs each order;
    all = all;
  }

-- These are all stored places, sorted.
pub record AreSorted (k : Kid) (places : List StoredPlace) : Type 0 where
  pub once : (n : ℕ) → uses k n ≤ 1
  pub stored : AreAllStored k places
  pub sorted : IsNonDecreasingBy key_of places

-- they come by their keys, and are in different slots
all_apart : (xs : List StoredPlace) → IsNonDecreasingBy key_of xs → AreOnce (slots_of xs)
    → Pairs (λ (x y : StoredPlace). (key_of x ≤ key_of y) × (slot_of x ≢ slot_of y)) xs
all_apart [] up once = tt
all_apart (x ∷ xs) up once = (
  λ i d h. (
    up 0 (suc i) d (omega arith) (omega arith),
    twice (slot_of (get_or xs i d)) (in_map slot_of xs (get_or xs i d) (Contains-get_or xs i d h)),
  ),
  all_apart xs (λ i j d le lt. up (suc i) (suc j) d (omega arith) (omega arith)) (λ n. omega (arith, once n)),
)
  where
    twice : (n : ℕ) → Contains (slots_of xs) n → slot_of x ≢ n
    twice n among e =
        let one : counts_if (nat_eq (slot_of x) n) ≡ 1 = ap (λ (m : ℕ). counts_if (nat_eq m n)) e ∙ counts_same n in
        omega (arith, once n, in_counted n (slots_of xs) among)

module _ {k : Kid} {places : List StoredPlace} (are : AreSorted k places) (p : Place) (placed : IsPlaced k p) where
  abbrev low : ℕ
  low = first_key (slot_at k p)

  abbrev high : ℕ
  high = first_key (slot_at k p) + 4294967296

  abbrev found : (from to : ℕ) → List StoredPlace
  found from to = filter (is_between from to) places

  narrow_of : (x : StoredPlace) → Contains places x → IsNarrow x
  narrow_of x among = All-contains IsNarrow places x are.stored.narrow among

  -- what is found among the keys of the place is its child
  module _ (from to : ℕ) (from_low : first_key (slot_at k p) ≤ from) (to_high : to ≤ first_key (slot_at k p) + 4294967296) where
    kept : All (λ (x : StoredPlace). Contains places x × (is_between from to x ≡ true)) (found from to)
    kept i d h = (
      All-filter (is_between from to) (Contains places) places (All-contains_itself places) i d h,
      filter_passes (is_between from to) places i d h,
    )

    each : All (λ (x : StoredPlace). IsStoredChildOf k x p) (found from to)
    each i d h = is_child (get_or (found from to) i d) (kept i d h)
      where
        is_child : (x : StoredPlace) → Contains places x × (is_between from to x ≡ true) → IsStoredChildOf k x p
        is_child x is =
            let child = All-contains (λ (place : StoredPlace). (above : Place) × IsStoredChildOf k place above) places x are.stored.each is.0 in
            let keys = between_told from to x is.1 in
            let small : IsNarrow x = narrow_of x is.0 in
            let at_least = keys.0 in
            let less = keys.1 in
            let parent : x.parent ≡ slot_at k p = omega arith in
            subst (IsStoredChildOf k x) (same_place are.once (placed_above child.0 (x.number ∷ []) child.1.placed) placed
            (sym child.1.parent ∙ parent)) child.1

    so_each : All (IsChildOf k p) (found from to)
    so_each i d h =
        let child = each i d h in
        record {
          parent = child.parent;
          narrow = narrow_of (get_or (found from to) i d) (kept i d h).0;
          order = child.order;
          placed = child.placed;
        }

    stored_all : All (IsStoredHere k) (map (child_of p) (found from to))
    stored_all = All-map (IsStoredHere k) (child_of p) (found from to) (λ i d h. (each i d h).stored)

    in_order : Pairs ComesTo (found from to)
    in_order =
        pairs_weaker (λ (x y : StoredPlace). (key_of x ≤ key_of y) × (slot_of x ≢ slot_of y)) ComesTo
        (λ (x : StoredPlace). IsStoredChildOf k x p)
        (λ x y one two so. (so.0, λ e. so.1 (one.slot ∙ ap (λ (i : ℕ). slot_at k (p ++ i ∷ [])) e ∙ sym two.slot)))
        (found from to) each (pairs_filter (λ (x y : StoredPlace). (key_of x ≤ key_of y) × (slot_of x ≢ slot_of y))
        (is_between from to) places (all_apart places are.sorted are.stored.once))

    slots_are : slots_between from to places ≡ map (slot_at k) (map (child_of p) (found from to))
    slots_are = go (found from to) each
      where
        go : (xs : List StoredPlace) → All (λ (x : StoredPlace). IsStoredChildOf k x p) xs
            → slots_of xs ≡ map (slot_at k) (map (child_of p) xs)
        go [] all = refl
        go (x ∷ xs) all =
            ap (λ (n : ℕ). n ∷ slots_of xs) (All-head (λ (y : StoredPlace). IsStoredChildOf k y p) x xs all).slot
            ∙ ap (λ (l : List ℕ). slot_at k (child_of p x) ∷ l) (go xs (All-tail (λ (y : StoredPlace). IsStoredChildOf k y p) x xs all))

  -- a stored child is among the places
  among : (i : ℕ) → IsPlaced k (p ++ i ∷ []) → IsStoredHere k (p ++ i ∷ [])
      → (x : StoredPlace) × Contains places x × (x.parent ≡ slot_at k p) × (x.number ≡ i)
  among i child is =
      let from = of_map slot_of places (slot_at k (p ++ i ∷ [])) (are.stored.all (p ++ i ∷ []) child is) in
      let its = All-contains (λ (place : StoredPlace). (above : Place) × IsStoredChildOf k place above) places from.0 are.stored.each from.1 in
      let ways = same_place are.once its.1.placed child (sym its.1.slot ∙ from.2) in (
        from.0,
        from.1,
        its.1.parent ∙ ap (slot_at k) (same_front its.0 p from.0.number i ways),
        same_last its.0 p from.0.number i ways,
      )

  listed : (from to i : ℕ) (x : StoredPlace) → Contains places x → x.number ≡ i → from ≤ key_of x → key_of x < to
      → Contains (map (child_of p) (found from to)) (p ++ i ∷ [])
  listed from to i x inside number at_least less =
      subst (λ (j : ℕ). Contains (map (child_of p) (found from to)) (p ++ j ∷ [])) number (in_map (child_of p) (found from to) x
      (in_filter (is_between from to) places x inside (between_is from to x at_least less)))

  -- no child is open: these are all
  pub closed_children : ((i : ℕ) → IsPlaced k (p ++ i ∷ []) → IsStoredHere k (p ++ i ∷ []))
      → AreClosed k p (slots_between (first_key (slot_at k p)) (first_key (slot_at k p) + 4294967296) places)
  closed_children none_open = record {
    children = map (child_of p) (found low high);
    are =
        are_children k p (found low high) (so_each low high (omega arith) (omega arith))
        (in_order low high (omega arith) (omega arith)) (λ i child.
        let x = among i child (none_open i child) in
        let small = narrow_of x.0 x.1 in
        let parent = x.2 in
        listed low high i x.0 x.1 x.3 (omega arith) (omega (arith, small.1)));
    stored = stored_all low high (omega arith) (omega arith);
    slots_are = slots_are low high (omega arith) (omega arith);
  }

  -- child j is open, the others aren't
  module _ (j middle : ℕ) (at_j : IsPlaced k (p ++ j ∷ [])) (open_j : stored_here (kid_at (p ++ j ∷ []) k) ≡ false)
      (small_j : j < 4294967296) (is_middle : middle ≡ first_key (slot_at k p) + (4294967295 - order_below j (kid_at p k)))
      (others : (i : ℕ) → i ≢ j → IsPlaced k (p ++ i ∷ []) → IsStoredHere k (p ++ i ∷ [])) where
    above_low : low ≤ middle
    above_low = omega arith

    below_high : middle ≤ high
    below_high = omega arith

    abbrev x_j : StoredPlace
    x_j = record { slot = record { 0 = 0 }; parent = slot_at k p; number = j; order = order_below j (kid_at p k) }

    child_j : IsChildOf k p x_j
    child_j = record { parent = refl; narrow = (small_j, small_below (kid_at p k) j small_j); order = refl; placed = at_j }

    abbrev front : List StoredPlace
    front = found low middle

    abbrev back : List StoredPlace
    back = found middle high

    each_front : All (IsChildOf k p) front
    each_front = so_each low middle (omega arith) below_high

    each_back : All (IsChildOf k p) back
    each_back = so_each middle high above_low (omega arith)

    not_j : (x : StoredPlace) → IsStoredChildOf k x p → x.number ≢ j
    not_j x child e =
        let no : false ≡ true = sym open_j ∙ ap (λ (i : ℕ). stored_here (kid_at (p ++ i ∷ []) k)) (sym e) ∙ child.stored in
        cc

    from_middle : All (ComesTo x_j) back
    from_middle i d h = (
      let at_least = (between_told middle high (get_or back i d) (kept middle high above_low (omega arith) i d h).1).0 in
          omega arith,
      λ e. not_j (get_or back i d) (each middle high above_low (omega arith) i d h) (sym e),
    )

    from_front : All (λ (x : StoredPlace). All (ComesTo x) (x_j ∷ back)) front
    from_front i d h =
        let x : StoredPlace = get_or front i d in
        let keys = between_told low middle x (kept low middle (omega arith) below_high i d h).1 in
        let less = keys.1 in
        All-cons (ComesTo x) x_j back (omega arith, not_j x (each low middle (omega arith) below_high i d h)) (λ m e g.
        let y : StoredPlace = get_or back m e in
        let at_least = (between_told middle high y (kept middle high above_low (omega arith) m e g).1).0 in (
          omega arith,
          λ same.
              omega (arith, same_key k p x y (each_front i d h) (each_back m e g) same),
        ))

    split : map (child_of p) (front ++ x_j ∷ back) ≡ map (child_of p) front ++ (p ++ j ∷ []) ∷ map (child_of p) back
    split = map-append (child_of p) front (x_j ∷ back)

    each_there : (i : ℕ) → IsPlaced k (p ++ i ∷ []) → (i ≡ j) ⊎ (i ≢ j)
        → Contains (map (child_of p) front ++ (p ++ j ∷ []) ∷ map (child_of p) back) (p ++ i ∷ [])
    each_there i child (inl e) =
        Contains-append_right (map (child_of p) front) ((p ++ j ∷ []) ∷ map (child_of p) back) (p ++ i ∷ [])
        (subst (λ (n : ℕ). Contains ((p ++ j ∷ []) ∷ map (child_of p) back) (p ++ n ∷ [])) (sym e)
        (first_in (p ++ j ∷ []) (map (child_of p) back)))
    each_there i child (inr ne) = go (either_less (key_of x.0) middle)
      where
        x : (y : StoredPlace) × Contains places y × (y.parent ≡ slot_at k p) × (y.number ≡ i)
        x = among i child (others i ne child)

        go : (key_of x.0 < middle) ⊎ (middle ≤ key_of x.0)
            → Contains (map (child_of p) front ++ (p ++ j ∷ []) ∷ map (child_of p) back) (p ++ i ∷ [])
        go (inl less) =
            let parent = x.2 in
            Contains-append_left (map (child_of p) front) ((p ++ j ∷ []) ∷ map (child_of p) back) (p ++ i ∷ [])
            (listed low middle i x.0 x.1 x.3 (omega arith) less)
        go (inr more) =
            let parent = x.2 in
            let small = narrow_of x.0 x.1 in
            Contains-append_right (map (child_of p) front) ((p ++ j ∷ []) ∷ map (child_of p) back) (p ++ i ∷ [])
            (later_in (p ++ j ∷ []) (p ++ i ∷ []) (map (child_of p) back)
            (listed middle high i x.0 x.1 x.3 more (omega (arith, small.1))))

    pub open_children : AreOpenAt k p j (slots_between (first_key (slot_at k p)) middle places)
        (slots_between middle (first_key (slot_at k p) + 4294967296) places)
    open_children = record {
      front = map (child_of p) front;
      back = map (child_of p) back;
      are =
          subst (AreChildren k p) split (are_children k p (front ++ x_j ∷ back)
          (All-append (IsChildOf k p) front (x_j ∷ back) each_front (All-cons (IsChildOf k p) x_j back child_j each_back))
          (pairs_append ComesTo front (x_j ∷ back) (in_order low middle (omega arith) below_high)
          (from_middle, in_order middle high above_low (omega arith)) from_front)
          (λ i child. subst (λ (l : List Place). Contains l (p ++ i ∷ [])) (sym split) (each_there i child (same_or_other i j))));
      front_stored = stored_all low middle (omega arith) below_high;
      back_stored = stored_all middle high above_low (omega arith);
      first_is = slots_are low middle (omega arith) below_high;
      last_is = slots_are middle high above_low (omega arith);
    }

-- Which children are open.
module _ (k : Kid) (cursor : Place) (leads : LeadsUnstored cursor k) (p : Place) where
  -- all are stored but one on the way
  stored_unless : (i : ℕ) → IsPlaced k (p ++ i ∷ []) → ((below : Place) → cursor ≡ p ++ i ∷ below → ⊥) → IsStoredHere k (p ++ i ∷ [])
  stored_unless i child off = go (stored_or_open cursor (p ++ i ∷ []) k leads child.reaches child.here)
    where
      go : IsStoredHere k (p ++ i ∷ []) ⊎ ((below : Place) × (cursor ≡ (p ++ i ∷ []) ++ below)) → IsStoredHere k (p ++ i ∷ [])
      go (inl is) = is
      go (inr on) = absurd (off on.0 (on.1 ∙ append_assoc p (i ∷ []) on.0))

  -- a stored place has no open child
  pub none_of_stored : IsStoredHere k p → (i : ℕ) → IsPlaced k (p ++ i ∷ []) → IsStoredHere k (p ++ i ∷ [])
  none_of_stored st i child =
      stored_unless i child (λ below e.
      let no : false ≡ true = sym (open_unstored p (i ∷ below) k (subst (λ (c : Place). LeadsUnstored c k) e leads)) ∙ st in
      cc)

  -- nor has the last place on the stack
  pub none_of_last : cursor ≡ p → (i : ℕ) → IsPlaced k (p ++ i ∷ []) → IsStoredHere k (p ++ i ∷ [])
  none_of_last last i child =
      stored_unless i child (λ below e.
      let long : length p ≡ length (p ++ i ∷ below) = ap (λ (l : Place). length l) (sym last ∙ e) in
      omega (arith, length-append p (i ∷ below)))

  -- another place on the stack has one
  pub one_of_open : (j : ℕ) (below : Place) → cursor ≡ p ++ j ∷ below → (i : ℕ) → i ≢ j → IsPlaced k (p ++ i ∷ [])
      → IsStoredHere k (p ++ i ∷ [])
  one_of_open j below on_way i ne child = stored_unless i child (λ b e. ne (sym (same p below b (sym on_way ∙ e))))
    where
      same : (q b c : Place) → q ++ j ∷ b ≡ q ++ i ∷ c → j ≡ i
      same [] b c e = cc
      same (n ∷ q) b c e = same q b c (cc)
