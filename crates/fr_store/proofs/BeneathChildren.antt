-- The children of one place that are in slots, as they are written down: from the last in the order of their steps to the first.
use Rattle.std.proofs.Common.{◌≡◌, ℕ, zero, suc, ◌<◌, ◌≤◌, Bool, true, false, List, [], ◌∷◌, ◌++◌, length, map, ltb, Option, Some, None, refl, sym, ◌∙◌, ap, subst, arith}
use Rattle.fr_store.specs.Common.{All, Cell, ComesEarlier, Contains, FrameOwner, Heap, Holds, IsHere, IsPlaced, IsStoredHere, Kid, Kids, NodeId, Pairs, Place, Plan, at, begun_plot, body_in, cell_of, cells_count, cells_found, cells_in, count_kids, from_last, gone, is_map_found, kid, kid_at, kid_at_append, kid_nth, no_kids, slot_here, slot_of_cell, slotted}
use Rattle.std.proofs.lemmas.Bool.{ltb-true, ltb-false}
use Rattle.std.proofs.lemmas.List.Elements.{All-nil, All-cons, All-append, All-weaker, All-map, Contains-append_left, Contains-append_right}
use Rattle.fr_values.specs.Cells.{slot_in_cells}
use Rattle.fr_store.specs.Beneath.{is_map_body, number_if, slot_if, slotted_numbers}
use Rattle.fr_store.specs.PlaceOrder.{IsAfterBelow, slot_at as slot_of_place}
use Rattle.fr_store.specs.Prunes.{kids_below}
use Rattle.fr_store.proofs.ChildOrder.{from_last_within, from_last_onto, listed_after}
use Rattle.fr_store.proofs.EarlierLaws.{siblings}
use Rattle.fr_store.proofs.PairLaws.{first_in, in_map, pairs_append, pairs_map}
use Rattle.fr_store.proofs.PlacesInSlots.{placed_below, placed_child}
use Rattle.fr_store.proofs.PruneLaws.{plot_cells}
use Rattle.fr_store.proofs.SpreadLaws.{AreClosed, IsChild}

-- Cells and children.

slot_of_kid : (c : ℕ) (ks : Kids) → slot_in_cells (cells_in ks) c ≡ slot_of_cell (cell_of (kid_nth c ks))
slot_of_kid c no_kids = refl
slot_of_kid zero (kid k ks) = refl
slot_of_kid (suc c) (kid k ks) = slot_of_kid c ks

here_is : (x : Kid) (slot : ℕ) → slot_of_cell (cell_of x) ≡ Some slot → IsHere x
here_is (at n stored plot) slot e = tt
here_is _ slot e = cc

here_told : (x : Kid) → IsHere x → slot_of_cell (cell_of x) ≡ Some (slot_here x)
here_told (at n stored plot) here = refl
here_told _ here = absurd here

slot_same : (x : Kid) → slot_here x ≡ slot_if (slot_of_cell (cell_of x))
slot_same gone = refl
slot_same _ = refl

abbrev pub is_map_kid : Kid → Bool
is_map_kid (at slot stored plot) = is_map_body (body_in plot)
is_map_kid _ = false

child_reached : (c : ℕ) (x : Kid) → c < count_kids (kids_below x) → IsHere (kid_nth c (kids_below x)) → IsPlaced x (c ∷ [])
child_reached c (at slot stored (begun_plot tracker kids)) h here = record { reaches = (h, tt); here = here }
child_reached c _ h here = absurd (omega arith)

reached_child : (c : ℕ) (x : Kid) → IsPlaced x (c ∷ []) → (c < count_kids (kids_below x)) × IsHere (kid_nth c (kids_below x))
reached_child c (at slot stored (begun_plot tracker kids)) placed = (placed.reaches.0, placed.here)
reached_child c _ placed = absurd placed.reaches

kid_of_number : (c : ℕ) (x : Kid) → kid_at (c ∷ []) x ≡ kid_nth c (kids_below x)
kid_of_number c (at slot stored (begun_plot tracker kids)) = refl
kid_of_number c _ = refl

next_after : (x : Kid) (j i : ℕ) → j < i → i < length (cells_in (kids_below x))
    → IsAfterBelow x (from_last (is_map_kid x) (length (cells_in (kids_below x))) j)
    (from_last (is_map_kid x) (length (cells_in (kids_below x))) i)
next_after (at slot stored (begun_plot tracker kids)) j i later within = listed_after tracker (length (cells_in kids)) j i later within
next_after _ j i later within = absurd (omega arith)

-- Their numbers.

all_if : (P : ℕ → Type 0) (found : Option ℕ) (n : ℕ) → ((slot : ℕ) → found ≡ Some slot → P n) → All P (number_if found n)
all_if P None n so = All-nil P
all_if P (Some slot) n so = All-cons P n [] (so slot refl) (All-nil P)

-- the child is in a slot, and comes as one of the first so many
record IsAmong (x : Kid) (i c : ℕ) : Type 0 where
  placed : IsPlaced x (c ∷ [])
  j : ℕ
  early : j < i
  is : c ≡ from_last (is_map_kid x) (length (cells_in (kids_below x))) j

module _ (x : Kid) where
  abbrev count : ℕ
  count = length (cells_in (kids_below x))

  abbrev numbers : ℕ → List ℕ
  numbers i = slotted_numbers (is_map_kid x) (cells_in (kids_below x)) i

  abbrev next : ℕ → ℕ
  next i = from_last (is_map_kid x) (length (cells_in (kids_below x))) i

  abbrev found : ℕ → Option ℕ
  found i = slot_in_cells (cells_in (kids_below x)) (from_last (is_map_kid x) (length (cells_in (kids_below x))) i)

  all_among : (i : ℕ) → i ≤ count → All (IsAmong x i) (numbers i)
  all_among zero h = All-nil (IsAmong x zero)
  all_among (suc i) h =
      All-append (IsAmong x (suc i)) (numbers i) (number_if (found i) (next i)) (All-weaker (IsAmong x i) (IsAmong x (suc i))
      (λ c is. record { placed = is.placed; j = is.j; early = omega (arith, is.early); is = is.is }) (numbers i)
      (all_among i (omega arith))) (all_if (IsAmong x (suc i)) (found i) (next i) (λ slot e.
      record {
        placed =
            child_reached (next i) x
            (omega (arith, from_last_within (is_map_kid x) count i (omega arith), cells_count (kids_below x)))
            (here_is (kid_nth (next i) (kids_below x)) slot (sym (slot_of_kid (next i) (kids_below x)) ∙ e));
        j = i;
        early = omega arith;
        is = refl;
      }))

  in_order : (i : ℕ) → i ≤ count → Pairs (IsAfterBelow x) (numbers i)
  in_order zero h = tt
  in_order (suc i) h =
      pairs_append (IsAfterBelow x) (numbers i) (number_if (found i) (next i)) (in_order i (omega arith)) (one (found i))
      (All-weaker (IsAmong x i) (λ c. All (IsAfterBelow x c) (number_if (found i) (next i))) (λ c is.
      all_if (IsAfterBelow x c) (found i) (next i)
      (λ slot e. subst (λ (n : ℕ). IsAfterBelow x n (next i)) (sym is.is) (next_after x is.j i is.early (omega (arith, h)))))
      (numbers i) (all_among i (omega arith)))
    where
      one : (f : Option ℕ) → Pairs (IsAfterBelow x) (number_if f (next i))
      one None = tt
      one (Some slot) = (All-nil (IsAfterBelow x (next i)), tt)

  listed_by : (i j : ℕ) → j < i → IsHere (kid_nth (next j) (kids_below x)) → Contains (numbers i) (next j)
  listed_by zero j h here = absurd (omega arith)
  listed_by (suc i) j h here = go (ltb j i) refl (λ less. listed_by i j less here)
    where
      last : (f : Option ℕ) → f ≡ Some (slot_here (kid_nth (next j) (kids_below x))) → Contains (number_if f (next j)) (next j)
      last (Some slot) e = first_in (next j) []
      last None e = absurd (cc)

      go : (b : Bool) → ltb j i ≡ b → (j < i → Contains (numbers i) (next j)) → Contains (numbers (suc i)) (next j)
      go true e rest = Contains-append_left (numbers i) (number_if (found i) (next i)) (next j) (rest (ltb-true j i e))
      go false e rest =
          let same : j ≡ i = omega (arith, ltb-false j i e) in
          Contains-append_right (numbers i) (number_if (found i) (next i)) (next j)
          (subst (λ (m : ℕ). Contains (number_if (found m) (next m)) (next j)) same (last (found j)
          (slot_of_kid (next j) (kids_below x) ∙ here_told (kid_nth (next j) (kids_below x)) here)))

  listed_all : (c : ℕ) → IsPlaced x (c ∷ []) → Contains (numbers count) c
  listed_all c placed =
      let told = reached_child c x placed in
      let onto = from_last_onto (is_map_kid x) count c (omega (arith, told.0, cells_count (kids_below x))) in
      subst (Contains (numbers count)) onto.2
      (listed_by count onto.0 onto.1 (subst (λ (m : ℕ). IsHere (kid_nth m (kids_below x))) (sym onto.2) told.1))

-- what is found in its slot
found_of : (plan : Plan) (heap : Heap) (node : NodeId) (owner : FrameOwner) (depth : ℕ) (x : Kid)
    → Holds plan heap node owner depth x → IsHere x
    → (cells_found (heap (slot_here x)) ≡ cells_in (kids_below x)) × (is_map_found (heap (slot_here x)) ≡ is_map_kid x)
found_of plan heap node owner depth (at slot stored plot) holds here =
    (ap cells_found holds.0 ∙ plot_cells plot, ap is_map_found holds.0)
found_of plan heap node owner depth _ holds here = absurd here

-- Where all children of a place are stored, their slots are those that are written down.
module _ (plan : Plan) (heap : Heap) (node : NodeId) (owner : FrameOwner) (depth : ℕ) (k : Kid) (p : Place) (placed : IsPlaced k p)
    (holds : Holds plan heap node owner depth (kid_at p k))
    (stored : (i : ℕ) → IsPlaced k (p ++ i ∷ []) → IsStoredHere k (p ++ i ∷ [])) where
  abbrev below : ℕ → Place
  below c = p ++ c ∷ []

  abbrev nums : List ℕ
  nums = slotted_numbers (is_map_kid (kid_at p k)) (cells_in (kids_below (kid_at p k))) (length (cells_in (kids_below (kid_at p k))))

  among : All (IsAmong (kid_at p k) (length (cells_in (kids_below (kid_at p k))))) nums
  among = all_among (kid_at p k) (length (cells_in (kids_below (kid_at p k)))) (omega arith)

  so_all : (So : Place → Type 0) → ((c : ℕ) → IsPlaced k (below c) → So (below c)) → All So (map below nums)
  so_all So so =
      All-map So below nums (All-weaker (IsAmong (kid_at p k) (length (cells_in (kids_below (kid_at p k))))) (λ c. So (below c))
      (λ c is. so c (placed_below placed is.placed)) nums among)

  slots_here : (cs : List ℕ) → map (λ number. slot_if (slot_in_cells (cells_in (kids_below (kid_at p k))) number)) cs
      ≡ map (slot_of_place k) (map below cs)
  slots_here [] = refl
  slots_here (c ∷ cs) =
      ap (λ (n : ℕ). n ∷ map (λ number. slot_if (slot_in_cells (cells_in (kids_below (kid_at p k))) number)) cs)
      (ap slot_if (slot_of_kid c (kids_below (kid_at p k))) ∙ sym (slot_same (kid_nth c (kids_below (kid_at p k))))
      ∙ ap slot_here (sym (kid_at_append p (c ∷ []) k ∙ kid_of_number c (kid_at p k))))
      ∙ ap (λ (l : List ℕ). slot_of_place k (below c) ∷ l) (slots_here cs)

  pub children_here : AreClosed k p (slotted (is_map_found (heap (slot_of_place k p))) (cells_found (heap (slot_of_place k p)))
      (length (cells_found (heap (slot_of_place k p)))))
  children_here = record {
    children = map below nums;
    are = record {
      placed = so_all (IsPlaced k) (λ c child. child);
      each = so_all (IsChild p) (λ c child. (c, refl));
      order =
          pairs_map (IsAfterBelow (kid_at p k)) (ComesEarlier k) below
          (IsAmong (kid_at p k) (length (cells_in (kids_below (kid_at p k))))) (λ c d one two after. siblings k p c d after)
          nums among (in_order (kid_at p k) (length (cells_in (kids_below (kid_at p k)))) (omega arith));
      all = λ i child. in_map below nums i (listed_all (kid_at p k) i (placed_child p i child));
    };
    stored = so_all (IsStoredHere k) stored;
    slots_are =
        let found = found_of plan heap node owner depth (kid_at p k) holds placed.here in
        ap (λ (b : Bool). slotted b (cells_found (heap (slot_of_place k p))) (length (cells_found (heap (slot_of_place k p))))) found.1
        ∙ ap (λ (cs : List Cell). slotted (is_map_kid (kid_at p k)) cs (length cs)) found.0 ∙ slots_here nums;
  }
