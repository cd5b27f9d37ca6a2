-- Numbers that are sorted by key: how a stable sort sorts them, and what a search among them finds.
use Rattle.std.proofs.Common.{◌≡◌, ℕ, zero, suc, ◌+◌, ◌<◌, ◌≤◌, Bool, true, false, cond, not, ◌&&◌, List, [], ◌∷◌, ◌++◌, length, get_or, slice_get, Option, Some, None, refl, sym, ap, ◌∙◌, subst, inl, inr, arith}
use Rattle.std.specs.Bool.{Decides}
use Rattle.std.specs.Cmp.{IsStrictWeakOrder, IsTotalOrder, on_total, then_total}
use Rattle.std.specs.List.{Contains, position_from, range_with_len}
use Rattle.std.specs.List.Sorted.{IsPermutation, IsNonDecreasingBy, IsPartitionedBy, IsPartitionPoint, IsSorted, IsSortedBy, IsSortedByKey, IsStableBy, ties}
use Rattle.std.specs.declared.cmp.Ordering.{Ordering}
use Rattle.std.specs.declared.cmp.Ordering.TheVariants.{Less, Equal, Greater}
use Rattle.std.specs.Option.{option_cmp}
use Rattle.std.specs.Ordering.{nat_cmp, ordering_index, ordering_reverse, ordering_then, is_lt}
use Rattle.std.proofs.lemmas.Bool.{cases_lt}
use Rattle.std.proofs.lemmas.Bool.Decides.{nat_tests}
use Rattle.std.proofs.lemmas.Cmp.{nat_cmp_total, tied_itself}
use Rattle.std.proofs.lemmas.List.{get_or_read}
use Rattle.std.proofs.lemmas.List.FromFn.{length-range_with_len, get_or-range_with_len}
use Rattle.std.proofs.lemmas.List.Sorted.{All-permutation, Contains-permutation, ranks_by, searchable_from_sorted, sorted_far, ties_stay_sorted}
use Rattle.std.proofs.lemmas.Map.Lookups.{CmpEqualImpliesEq}
use Rattle.std.proofs.lemmas.Option.{none-some, same_Some, slice_get_cases, slice_get_within}
use Rattle.fr_plan.specs.ShapeFields.{by_key, AreByKey}

-- Orders.

not_less : (x y : ℕ) → y ≤ x → is_lt (nat_cmp x y) ≡ false
not_less x y = grind (arith, nat_tests)

less : (x y : ℕ) → x < y → is_lt (nat_cmp x y) ≡ true
less x y = grind (arith, nat_tests)

first_not_less : (p q : Ordering) → is_lt (ordering_then p q) ≡ false → is_lt p ≡ false
first_not_less Less q fails = fails
first_not_less Equal q fails = refl
first_not_less Greater q fails = refl

then_not_less : (p q : Ordering) → is_lt p ≡ false → (p ≡ Equal → is_lt q ≡ false) → is_lt (ordering_then p q) ≡ false
then_not_less Less q fails other = fails
then_not_less Equal q fails other = other refl
then_not_less Greater q fails other = refl

lowest_is : (o : Ordering) → is_lt o ≡ true → ordering_index o ≡ 0
lowest_is Less below = refl
lowest_is Equal below = absurd cc
lowest_is Greater below = absurd cc

is_lowest : (o : Ordering) → ordering_index o ≡ 0 → is_lt o ≡ true
is_lowest Less lowest = refl
is_lowest Equal lowest = absurd (omega arith)
is_lowest Greater lowest = absurd (omega arith)

-- what isn't below, and isn't above what ties, ties
level : (o : Ordering) → is_lt o ≡ false → ordering_index o ≤ 1 → o ≡ Equal
level Less fails low = absurd cc
level Equal fails low = refl
level Greater fails low = absurd (omega arith)

-- an order by which only equals tie does that where there may be no key, too
pub exact_options : {K : Type 0} {order : K → K → Ordering} → CmpEqualImpliesEq order → CmpEqualImpliesEq (option_cmp order)
exact_options exact None None tie = refl
exact_options exact None (Some y) tie = absurd cc
exact_options exact (Some x) None tie = absurd cc
exact_options exact (Some x) (Some y) tie = ap Some (exact x y tie)

-- equals tie
pub tie_of : {K : Type 0} {order : K → K → Ordering} → IsTotalOrder order → (x y : K) → x ≡ y → order x y ≡ Equal
tie_of {order = order} total x y same = ap (λ k. order k y) same ∙ tied_itself total y

-- Sorting.

pub range_more : (a n : ℕ) → range_with_len a (suc n) ≡ range_with_len a n ++ (a + n) ∷ []
range_more a zero = ap (λ (k : ℕ). k ∷ []) (omega arith)
range_more a (suc n) =
    ap (λ (l : List ℕ). a ∷ l) (range_more (a + 1) n ∙ ap (λ (k : ℕ). range_with_len (a + 1) n ++ k ∷ []) (omega arith))

range_up : (n : ℕ) → IsSorted nat_cmp (range_with_len 0 n)
range_up n k d low high =
    let inside : k + 1 < n = omega (arith, length-range_with_len 0 n) in
    let next : get_or (range_with_len 0 n) (k + 1) d ≡ 0 + (k + 1) = get_or-range_with_len 0 n (k + 1) d inside in
    let here : get_or (range_with_len 0 n) k d ≡ 0 + k = get_or-range_with_len 0 n k d (omega arith) in
    not_less (get_or (range_with_len 0 n) (k + 1) d) (get_or (range_with_len 0 n) k d) (omega arith)

module _ {K : Type 0} {order : K → K → Ordering} (total : IsTotalOrder order) (key : ℕ → K) where
  -- by key alone
  abbrev pub is_key_below : (x y : ℕ) → Bool
  is_key_below x y = is_lt (order (key x) (key y))

  pub key_below : IsStrictWeakOrder is_key_below
  key_below = ranks_by total key

  tied : (x y : ℕ) → order (key y) (key x) ≡ Equal → ties is_key_below x y ≡ true
  tied x y tie =
      let turned : order (key x) (key y) ≡ Equal = total.antisymm (key x) (key y) ∙ ap ordering_reverse tie in
      ap (λ (o : Ordering). not (is_lt o) && not (is_key_below y x)) turned ∙ ap (λ (o : Ordering). not (is_lt o)) tie

  -- numbers that rose are sorted by key in a stable way, so those of one key still rise
  pub sorted_stably : (count : ℕ) (listed numbers : List ℕ) → listed ≡ range_with_len 0 count → IsPermutation listed numbers
      → IsSortedBy is_key_below numbers → IsStableBy is_key_below listed numbers → AreByKey order key count numbers
  sorted_stably count listed numbers rose all sorted stable = record {
    all = subst (λ (l : List ℕ). IsPermutation l numbers) rose all;
    sorted = λ k d low high.
        then_not_less _ _ (sorted k d low high)
        (λ tie.
        ties_stay_sorted (λ (x y : ℕ). is_lt (nat_cmp x y)) is_key_below (ranks_by nat_cmp_total (λ (n : ℕ). n)) key_below
        (range_with_len 0 count) numbers (range_up count)
        (subst (λ (l : List ℕ). IsStableBy is_key_below l numbers) rose stable) k d high (tied _ _ tie));
  }

-- The first of a key.

-- the first number below `count` that has the key; where none is given, none has it
abbrev pub IsFirst : {K : Type 0} → (key : ℕ → K) → (count : ℕ) → (sought : K) → Option ℕ → Type 0
IsFirst key count sought (Some number) =
    (number < count) × (key number ≡ sought) × ((j : ℕ) → j < number → key j ≡ sought → ⊥)
IsFirst key count sought None = (j : ℕ) → j < count → key j ≡ sought → ⊥

module _ {X : Type 0} (p : X → Bool) where
  position_at : (i : ℕ) (xs : List X) (n : ℕ) (x : X) → slice_get xs n ≡ Some x → p x ≡ true
      → ((j : ℕ) (y : X) → j < n → slice_get xs j ≡ Some y → p y ≡ false) → position_from p i xs ≡ Some (i + n)
  position_at i [] n x at passes before = absurd (none-some x at)
  position_at i (y ∷ xs) zero x at passes before =
      ap (λ (z : X). cond (p z) (Some i) (position_from p (i + 1) xs)) (same_Some y x at)
      ∙ ap (λ (b : Bool). cond b (Some i) (position_from p (i + 1) xs)) passes
      ∙ ap (λ (n : ℕ). Some n) (omega arith)
  position_at i (y ∷ xs) (suc n) x at passes before =
      ap (λ (b : Bool). cond b (Some i) (position_from p (i + 1) xs)) (before 0 y (omega arith) refl)
      ∙ position_at (i + 1) xs n x at passes (λ j z lower. before (suc j) z (omega arith))
      ∙ ap (λ (n : ℕ). Some n) (omega arith)

  position_none : (i : ℕ) (xs : List X) → ((j : ℕ) (y : X) → slice_get xs j ≡ Some y → p y ≡ false)
      → position_from p i xs ≡ None
  position_none i [] fails = refl
  position_none i (y ∷ xs) fails =
      ap (λ (b : Bool). cond b (Some i) (position_from p (i + 1) xs)) (fails 0 y refl)
      ∙ position_none (i + 1) xs (λ j z. fails (suc j) z)

  module _ {K : Type 0} (key : ℕ → K) (xs : List X) (sought : K)
      (decides : (j : ℕ) (x : X) → slice_get xs j ≡ Some x → Decides (p x) (key j ≡ sought)) where
    fails_at : (j : ℕ) (x : X) → slice_get xs j ≡ Some x → (key j ≡ sought → ⊥) → p x ≡ false
    fails_at j x at apart =
        elim (p x) as (λ b. p x ≡ b → b ≡ false) [
          | true ↦ λ passes. absurd (apart ((decides j x at).0 passes))
          | false ↦ λ _. refl
        ] refl

    -- where a test passes at just those of the key, the first number of the key is the first place at which it passes
    pub first_passes : (found : Option ℕ) → IsFirst key (length xs) sought found → found ≡ position_from p 0 xs
    first_passes None none =
        sym (position_none 0 xs (λ j x at. fails_at j x at (none j (slice_get_within xs j x at))))
    first_passes (Some number) first =
        elim (slice_get_cases xs number).1 [
          | inl there ↦
              sym (position_at 0 xs number there.0 there.2 ((decides number there.0 there.2).1 first.1)
              (λ j x lower at. fails_at j x at (first.2 j lower))
              ∙ ap (λ (n : ℕ). Some n) (omega arith))
          | inr past ↦ absurd (let within : number < length xs = first.0 in let out : length xs ≤ number = past.0 in omega arith)
        ]

-- Searching.

abbrev pub is_below : {K : Type 0} → (K → K → Ordering) → (key : ℕ → K) → (sought : K) → (number : ℕ) → Bool
is_below order key sought number = is_lt (order (key number) sought)

module _ {K : Type 0} {order : K → K → Ordering} (total : IsTotalOrder order) (exact : CmpEqualImpliesEq order)
    (key : ℕ → K) (count : ℕ) (numbers : List ℕ) (are : AreByKey order key count numbers) (sought : K) where
  abbrev rank : ℕ → ℕ
  rank number = ordering_index (order (key number) sought)

  keys_up : IsSortedByKey key order numbers
  keys_up k d low high = first_not_less _ _ (are.sorted k d low high)

  ranks_up : IsNonDecreasingBy rank numbers
  ranks_up = searchable_from_sorted total key numbers sought keys_up

  pub is_partitioned : IsPartitionedBy (is_below order key sought) numbers
  is_partitioned i j d before within below =
      is_lowest (order (key (get_or numbers i d)) sought)
      (let lower : rank (get_or numbers i d) ≤ rank (get_or numbers j d) = ranks_up i j d before within in
      let lowest : rank (get_or numbers j d) ≡ 0 = lowest_is (order (key (get_or numbers j d)) sought) below in
      omega arith)

  -- each number below `count` is there
  there : (j : ℕ) → j < count → Contains numbers j
  there j inside =
      let listed : get_or (range_with_len 0 count) j j ≡ j = get_or-range_with_len 0 count j j inside ∙ omega arith in
      Contains-permutation (range_with_len 0 count) numbers j are.all
      (j, omega (arith, length-range_with_len 0 count), listed)

  -- and no other
  all_inside : (k : ℕ) (d : ℕ) → k < length numbers → get_or numbers k d < count
  all_inside =
      All-permutation (λ (n : ℕ). n < count) (range_with_len 0 count) numbers are.all
      (λ k d within.
      let inside : k < count = omega (arith, length-range_with_len 0 count) in
      omega (arith, get_or-range_with_len 0 count k d inside))

  -- the lower of two numbers of one key comes first
  lower_first : (x y : ℕ) → key x ≡ key y → x < y → is_lt (by_key order key x y) ≡ true
  lower_first x y same lower =
      ap (λ (o : Ordering). is_lt (ordering_then o (nat_cmp x y))) (tie_of total (key x) (key y) same) ∙ less x y lower

  module _ (place : ℕ) (point : IsPartitionPoint (λ number. is_below order key sought number ≡ true) (λ number. is_below order key sought number ≡ false) numbers place) where
    -- a number of the key stands here or further on
    not_before : (k : ℕ) (d : ℕ) → key (get_or numbers k d) ≡ sought → k < place → ⊥
    not_before k d same before =
        let below : is_below order key sought (get_or numbers k d) ≡ true = point.0 k d (omega arith) before in
        let apart : is_lt (order (key (get_or numbers k d)) sought) ≡ false =
        ap is_lt (tie_of total (key (get_or numbers k d)) sought same) in
        cc

    place_of : (j : ℕ) → j < count → key j ≡ sought
        → (k : ℕ) × (place ≤ k) × (k < length numbers) × (get_or numbers k j ≡ j)
    place_of j inside same =
        let at = there j inside in
        let is : key (get_or numbers at.0 j) ≡ sought = ap key at.2 ∙ same in (
          at.0,
          elim (cases_lt at.0 place) [
            | inl before ↦ absurd (not_before at.0 j is before)
            | inr after ↦ after
          ],
          at.1,
          at.2,
        )

    module _ (number : ℕ) (within : place < length numbers) (read : number ≡ get_or numbers place number) where
      -- the number there is the first of the key, if it has it
      pub found_here : key number ≡ sought → IsFirst key count sought (Some number)
      found_here same = (
        inside,
        same,
        λ j lower alike.
            let at = place_of j (omega (arith, inside)) alike in
            let far : is_lt (by_key order key (get_or numbers at.0 j) (get_or numbers place j)) ≡ false =
            sorted_far (λ (x y : ℕ). is_lt (by_key order key x y))
            (ranks_by (then_total (on_total key total) nat_cmp_total) (λ (n : ℕ). n))
            numbers are.sorted place at.0 j at.1 at.2 in
            let here : number ≡ get_or numbers place j = get_or_read numbers place number within read j in
            let far : is_lt (by_key order key j number) ≡ false =
            ap (λ (n : ℕ). is_lt (by_key order key j n)) here
            ∙ ap (λ (n : ℕ). is_lt (by_key order key n (get_or numbers place j))) (sym at.3) ∙ far in
            let first : is_lt (by_key order key j number) ≡ true = lower_first j number (alike ∙ sym same) lower in
            cc,
      )
        where
          inside : number < count
          inside = subst (λ (n : ℕ). n < count) (sym read) (all_inside place number within)

      -- none has the key, if that one doesn't
      pub none_here : (key number ≡ sought → ⊥) → IsFirst key count sought None
      none_here apart j inside same =
          let at = place_of j inside same in
          let here : number ≡ get_or numbers place j = get_or_read numbers place number within read j in
          let low : rank number ≤ rank j =
          subst (λ (n : ℕ). rank n ≤ rank j) (sym here)
          (subst (λ (n : ℕ). rank (get_or numbers place j) ≤ rank n) at.3 (ranks_up place at.0 j at.1 at.2)) in
          let one : rank j ≡ 1 = ap ordering_index (tie_of total (key j) sought same) in
          let above : is_below order key sought number ≡ false =
          ap (is_below order key sought) read ∙ point.1 place number (omega arith) within in
          apart (exact _ _ (level (order (key number) sought) above (omega arith)))

    -- none has the key, if all are below it
    pub none_past : length numbers ≤ place → IsFirst key count sought None
    none_past past j inside same =
        let at = place_of j inside same in
        let after : place ≤ at.0 = at.1 in
        let within : at.0 < length numbers = at.2 in
        omega arith
