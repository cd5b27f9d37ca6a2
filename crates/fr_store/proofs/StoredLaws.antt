-- What the slots say of stored places: where they belong.
use Rattle.std.proofs.Common.{◌≡◌, ◌↔◌, ℕ, zero, suc, ◌+◌, ◌-◌, ◌<◌, ◌≤◌, true, false, List, [], ◌∷◌, ◌++◌, length, get_or, nat_eq, Some, None, Option, IsSome, refl, sym, ◌∙◌, ap, subst, arith}
use Rattle.fr_store.specs.Common.{All, AreAllStored, AreOnce, BelongsTo, Contains, FrameOwner, HasOwner, Heap, Holds, IsHere, IsKeyOf, IsNarrow, IsNoted, IsPlaced, IsSomeAnd, IsStoredChildOf, IsStoredHere, Kid, Node, NodeId, Place, Plan, Reaches, Stands, StoredPlace, at, begun_plot, below_root, child_owner, counts_if, counts_in, first_key, holds_at, kid_at, marked, node_along, order_below, owner_along, owner_append, owner_below, slot_at, slot_here, slot_of, slots_of, stored_in, uses}
use Rattle.std.specs.List.{sum_by}
use Rattle.std.specs.List.Sorted.{IsPermutation}
use Rattle.std.proofs.lemmas.List.Elements.{Contains-get_or}
use Rattle.std.proofs.lemmas.List.Sorted.{All-permutation, Contains-permutation, IsPermutation-map, sum_by-IsPermutation}
use Rattle.std.proofs.lemmas.List.Sums.{sum_by-cons}
use Rattle.fr_store.specs.PlaceOrder.{order_at}
use Rattle.fr_store.proofs.PairLaws.{in_map}
use Rattle.fr_store.proofs.PlacesInSlots.{mark_at, open_unstored, place_of, placed_above, placed_child}

-- The owner of a child.

owner_over : (owner : FrameOwner) (i : ℕ) (k : Kid) → Reaches (i ∷ []) k → owner_below owner i k ≡ child_owner (slot_here k) i
owner_over owner i (at slot stored (begun_plot tracker kids)) reach = refl
owner_over owner i _ reach = absurd reach

-- and where it comes among the children there
order_over : (plan : Plan) (heap : Heap) (node : NodeId) (owner : FrameOwner) (depth i : ℕ) (k : Kid)
    → Holds plan heap node owner depth k → IsHere k → order_at (heap (slot_here k)) i ≡ order_below i k
order_over plan heap node owner depth i (at slot stored plot) holds here = ap (λ (x : Option Node). order_at x i) holds.0
order_over plan heap node owner depth i _ holds here = absurd here

-- what is found in the slot of a place that is held
pub found_in : (plan : Plan) (heap : Heap) (node : NodeId) (owner : FrameOwner) (depth : ℕ) (k : Kid)
    → Holds plan heap node owner depth k → IsHere k → (found : Node) × (heap (slot_here k) ≡ Some found) × (found.owner ≡ owner)
found_in plan heap node owner depth (at slot stored plot) holds here = (
  record { node = node; owner = owner; stored = stored; depth = depth; body = _ },
  holds.0,
  refl,
)
found_in plan heap node owner depth _ holds here = absurd here

-- a slot that is free doesn't serve
pub unused : (plan : Plan) (heap : Heap) (node : NodeId) (owner : FrameOwner) (depth : ℕ) (k : Kid) (n : ℕ)
    → Holds plan heap node owner depth k → heap n ≡ None → uses k n ≡ 0
unused plan heap node owner depth k n holds free = go (uses k n) refl
  where
    go : (count : ℕ) → uses k n ≡ count → uses k n ≡ 0
    go zero e = e
    go (suc count) e =
        let lies = place_of k n (omega arith) in
        let found = found_in plan heap (node_along plan node lies.0 k) (owner_along owner lies.0 k) (depth + length lies.0)
        (kid_at lies.0 k) (holds_at plan heap node owner depth lies.0 k holds lies.1.reaches) lies.1.here in
        let wrong : None ≡ Some found.0 = sym free ∙ ap heap (sym lies.2) ∙ found.1 in
        absurd (cc)

module _ {plan : Plan} {heap : Heap} {stack : List ℕ} {cursor : Place} {k : Kid} (stands : Stands plan heap stack cursor k) where
  -- what is found in the slot of a child
  pub child_found : (above : Place) (i : ℕ) → IsPlaced k (above ++ i ∷ [])
      → (found : Node) × (heap (slot_at k (above ++ i ∷ [])) ≡ Some found) × (found.owner ≡ child_owner (slot_at k above) i)
  child_found above i placed =
      let place : Place = above ++ i ∷ [] in
      let found = found_in plan heap (node_along plan plan.root place k) (owner_along FrameOwner.Root place k)
      (0 + length place) (kid_at place k) (holds_at plan heap plan.root FrameOwner.Root 0 place k stands.holds placed.reaches)
      placed.here in
      let over = owner_over (owner_along FrameOwner.Root above k) i (kid_at above k) (placed_child above i placed).reaches in
      (found.0, found.1, found.2 ∙ owner_append FrameOwner.Root above i k ∙ over)

  -- where it comes among the children of the place above
  child_order : (above : Place) (i : ℕ) → IsPlaced k (above ++ i ∷ [])
      → order_at (heap (slot_at k above)) i ≡ order_below i (kid_at above k)
  child_order above i placed =
      let over = placed_above above (i ∷ []) placed in
      order_over plan heap (node_along plan plan.root above k) (owner_along FrameOwner.Root above k) (0 + length above) i
      (kid_at above k) (holds_at plan heap plan.root FrameOwner.Root 0 above k stands.holds over.reaches) over.here

  -- it has an owner
  pub child_owned : (above : Place) (i : ℕ) → IsPlaced k (above ++ i ∷ [])
      → IsSomeAnd (heap (slot_at k (above ++ i ∷ []))) (λ (found : Node). HasOwner found.owner)
  child_owned above i placed =
      let told = child_found above i placed in
      subst (λ (x : Option Node). IsSomeAnd x (λ (found : Node). HasOwner found.owner)) (sym told.1)
      (subst HasOwner (sym told.2) tt)

  -- its key
  pub child_key : (above : Place) (i key : ℕ) → IsPlaced k (above ++ i ∷ [])
      → IsSomeAnd (heap (slot_at k (above ++ i ∷ []))) (λ (found : Node). IsKeyOf heap key found.owner)
      → (i < 4294967296) × (key ≡ first_key (slot_at k above) + (4294967295 - order_below i (kid_at above k)))
  child_key above i key placed is =
      let told = child_found above i placed in
      let here : IsKeyOf heap key told.0.owner
      = subst (λ (x : Option Node). IsSomeAnd x (λ (found : Node). IsKeyOf heap key found.owner)) told.1 is in
      let by : IsKeyOf heap key (child_owner (slot_at k above) i) = subst (λ (o : FrameOwner). IsKeyOf heap key o) told.2 here in
      (by.0, by.1 ∙ ap (λ (n : ℕ). first_key (slot_at k above) + (4294967295 - n)) (child_order above i placed))

  -- where it belongs
  child_belongs : (above : Place) (i : ℕ) (place : StoredPlace) → IsPlaced k (above ++ i ∷ [])
      → slot_of place ≡ slot_at k (above ++ i ∷ []) → IsNoted heap place
      → (place.parent ≡ slot_at k above) × (place.number ≡ i) × (place.order ≡ order_below i (kid_at above k))
  child_belongs above i place placed same noted =
      let told = child_found above i placed in
      let here : BelongsTo heap place told.0.owner
      = subst (λ (x : Option Node). IsSomeAnd x (λ (found : Node). BelongsTo heap place found.owner)) (ap heap same ∙ told.1) noted in
      let by : BelongsTo heap place (child_owner (slot_at k above) i)
      = subst (λ (o : FrameOwner). BelongsTo heap place o) told.2 here in
      (by.0, by.1, by.2 ∙ child_order above i placed)

  module _ (all : (n : ℕ) → IsSome (heap n) → 0 < uses k n) where
    marked_found : (x : Option Node) → stored_in x ≡ true → IsSome x
    marked_found (Some found) h = refl
    marked_found None h = absurd (cc)

    -- where a stored place lies
    pub stored_place : (n : ℕ) → marked heap n ≡ true
        → (above : Place) × (i : ℕ) × IsPlaced k (above ++ i ∷ []) × IsStoredHere k (above ++ i ∷ [])
        × (slot_at k (above ++ i ∷ []) ≡ n)
    stored_place n is =
        let lies = place_of k n (all n (marked_found (heap n) is)) in
        go lies.0 lies.1 lies.2
        (sym (mark_at plan heap plan.root FrameOwner.Root 0 stands.holds lies.1) ∙ ap (marked heap) lies.2 ∙ is)
      where
        go : (p : Place) → IsPlaced k p → slot_at k p ≡ n → IsStoredHere k p
            → (above : Place) × (i : ℕ) × IsPlaced k (above ++ i ∷ []) × IsStoredHere k (above ++ i ∷ [])
            × (slot_at k (above ++ i ∷ []) ≡ n)
        go [] placed slot stored =
            let no : false ≡ true = sym (open_unstored [] cursor k stands.leads) ∙ stored in
            absurd (cc)
        go (j ∷ p) placed slot stored =
            let parts = below_root (j ∷ p) refl in
            let e : j ∷ p ≡ parts.0 ++ parts.1 ∷ [] = parts.2 in (
              parts.0,
              parts.1,
              subst (IsPlaced k) e placed,
              subst (IsStoredHere k) e stored,
              sym (ap (slot_at k) e) ∙ slot,
            )

    pub stored_owned : (n : ℕ) → marked heap n ≡ true → IsSomeAnd (heap n) (λ (found : Node). HasOwner found.owner)
    stored_owned n is =
        let lies = stored_place n is in
        subst (λ (m : ℕ). IsSomeAnd (heap m) (λ (found : Node). HasOwner found.owner)) lies.4 (child_owned lies.0 lies.1 lies.2)

    -- what is noted of it is so
    noted_child : (place : StoredPlace) → marked heap (slot_of place) ≡ true → IsNoted heap place
        → (above : Place) × IsStoredChildOf k place above
    noted_child place is noted =
        let lies = stored_place (slot_of place) is in
        let belongs = child_belongs lies.0 lies.1 place lies.2 (sym lies.4) noted in
        let e : lies.0 ++ lies.1 ∷ [] ≡ lies.0 ++ place.number ∷ []
        = ap (λ (i : ℕ). lies.0 ++ i ∷ []) (sym belongs.1) in (
          lies.0,
          record {
            parent = belongs.0;
            placed = subst (IsPlaced k) e lies.2;
            stored = subst (IsStoredHere k) e lies.3;
            slot = sym lies.4 ∙ ap (slot_at k) e;
            order = belongs.2 ∙ ap (λ (i : ℕ). order_below i (kid_at lies.0 k)) (sym belongs.1);
          },
        )

    counted_by : (m : ℕ) (places : List StoredPlace)
        → counts_in m (slots_of places) ≡ sum_by (λ (p : StoredPlace). counts_if (nat_eq (slot_of p) m)) places
    counted_by m [] = refl
    counted_by m (p ∷ places) =
        omega (arith, counted_by m places, sum_by-cons (λ (q : StoredPlace). counts_if (nat_eq (slot_of q) m)) p places)

    -- noted and sorted, they are all
    module _ (listed noted sorted : List StoredPlace) (same : slots_of noted ≡ slots_of listed)
        (kept : (n : ℕ) → (marked heap n ≡ true) ↔ Contains (slots_of listed) n) (once : AreOnce (slots_of listed))
        (notes : All (IsNoted heap) noted) (narrow : All IsNarrow noted) (moved : IsPermutation noted sorted) where
      is_marked : (place : StoredPlace) → Contains noted place → marked heap (slot_of place) ≡ true
      is_marked place among =
          (kept (slot_of place)).1 (subst (λ (l : List ℕ). Contains l (slot_of place)) same (in_map slot_of noted place among))

      pub are_all_stored : AreAllStored k sorted
      are_all_stored = record {
        each =
            All-permutation (λ (place : StoredPlace). (above : Place) × IsStoredChildOf k place above) noted sorted moved
            (λ i d h. noted_child (get_or noted i d) (is_marked (get_or noted i d) (Contains-get_or noted i d h)) (notes i d h));
        narrow = All-permutation IsNarrow noted sorted moved narrow;
        once = λ n.
            let before : counts_in n (slots_of noted) ≤ 1 = subst (λ (l : List ℕ). counts_in n l ≤ 1) (sym same) (once n) in
            omega
            (arith, counted_by n noted, counted_by n sorted, sum_by-IsPermutation (λ (p : StoredPlace). counts_if (nat_eq (slot_of p) n)) noted sorted moved);
        all = λ place placed stored. Contains-permutation (slots_of noted) (slots_of sorted) (slot_at k place)
            (IsPermutation-map slot_of noted sorted moved) (subst (λ (l : List ℕ). Contains l (slot_at k place)) (sym same)
            ((kept (slot_at k place)).0 (mark_at plan heap plan.root FrameOwner.Root 0 stands.holds placed ∙ stored)));
      }
