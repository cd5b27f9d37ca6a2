-- Lists that are sorted by a number of each element, and the elements of one number.
use Rattle.std.proofs.Common.{◌≡◌, ◌≢◌, ℕ, ◌+◌, ◌<◌, ◌≤◌, Bool, true, false, cond, eqb, List, [], ◌∷◌, length, get_or, take, drop, refl, sym, ap, ◌∙◌, subst, inl, inr, arith}
use Rattle.std.specs.List.{filter, All}
use Rattle.std.specs.List.Sorted.{IsPermutation, IsStableByKey, IsNonDecreasingBy, IsPartitionedBy, IsPartitionPoint, ties}
use Rattle.std.specs.Ordering.{nat_cmp, is_lt}
use Rattle.std.proofs.lemmas.Bool.{eq-eqb, eqb-true, eqb-false, cases_lt}
use Rattle.std.proofs.lemmas.Bool.Decides.{nat_tests}
use Rattle.std.proofs.lemmas.List.Elements.{All-nil, All-cons, All-head, All-tail, All-same, filter_passes, filter_agree}
use Rattle.std.proofs.lemmas.List.Sorted.{All-permutation, IsNonDecreasingBy-drop}
use Rattle.std.proofs.lemmas.List.{get_or-drop, get_or-take, get_or_read, drop-drop, length-drop, length-take}

module _ {X : Type 0} (p : X → Bool) where
  -- a filter that keeps nothing has met nothing that passes
  pub none_passes : (xs : List X) → filter p xs ≡ [] → All (λ x. p x ≡ false) xs
  none_passes [] nothing = All-nil _
  none_passes (x ∷ xs) nothing =
      elim (p x) as (λ b. p x ≡ b → cond b (x ∷ filter p xs) (filter p xs) ≡ [] → All (λ y. p y ≡ false) (x ∷ xs)) [
        | true ↦ λ passes kept. absurd cc
        | false ↦ λ fails kept. All-cons (λ y. p y ≡ false) x xs fails (none_passes xs kept)
      ] refl nothing

  pub keeps_none : (xs : List X) → All (λ x. p x ≡ false) xs → filter p xs ≡ []
  keeps_none [] fail = refl
  keeps_none (x ∷ xs) fail =
      rw (All-head (λ y. p y ≡ false) x xs fail) (keeps_none xs (All-tail (λ y. p y ≡ false) x xs fail))

  pub keeps_all : (xs : List X) → All (λ x. p x ≡ true) xs → filter p xs ≡ xs
  keeps_all [] pass = refl
  keeps_all (x ∷ xs) pass =
      rw (All-head (λ y. p y ≡ true) x xs pass) (ap (λ l. x ∷ l) (keeps_all xs (All-tail (λ y. p y ≡ true) x xs pass)))

module _ {X : Type 0} (key : X → ℕ) where
  abbrev has : ℕ → X → Bool
  has k x = eqb (key x) k

  -- what ties with x has its number
  ties_is : (x y : X) → ties (λ a b. is_lt (nat_cmp (key a) (key b))) x y ≡ has (key x) y
  ties_is x y = grind (arith, nat_tests)

  -- a stable sort leaves the elements of one number as they stood
  pub same_runs : (xs ys : List X) → IsPermutation xs ys → IsStableByKey key nat_cmp xs ys → (k : ℕ) → filter (has k) ys ≡ filter (has k) xs
  same_runs xs ys moved stable k = by (filter (has k) xs) refl
    where
      by : (found : List X) → filter (has k) xs ≡ found → filter (has k) ys ≡ filter (has k) xs
      by [] none =
          let none_in : All (λ x. has k x ≡ false) xs = none_passes (has k) xs none in
          keeps_none (has k) ys (All-permutation (λ x. has k x ≡ false) xs ys moved none_in) ∙ sym none
      by (x ∷ found) some =
          let passes : has k x ≡ true = All-head (λ y. has k y ≡ true) x found (All-same (λ y. has k y ≡ true) (x ∷ found) (filter (has k) xs) (sym some) (filter_passes (has k) xs)) in
          let same : key x ≡ k = eqb-true (key x) k passes in
          let agree = λ (y : X). ties_is x y ∙ ap (λ n. has n y) same in
          sym (filter_agree _ _ agree ys) ∙ stable x ∙ filter_agree _ _ agree xs

  -- the elements of one number at the front of what is left from `start` on
  pub record IsNextRun (xs : List X) (start len k : ℕ) : Type 0 where
    pub some : 0 < len
    pub run : All (λ x. key x ≡ k) (take len (drop start xs))
    pub others : All (λ x. k < key x) (drop (start + len) xs)

  module _ (xs : List X) (start : ℕ) (first : X) (up : IsNonDecreasingBy key xs) (there : start < length xs) (read : first ≡ get_or xs start first) where
    abbrev rest : List X
    rest = drop start xs

    some_left : 0 < length rest
    some_left = omega (arith, length-drop {A = X})

    head_is : (d : X) → get_or rest 0 d ≡ first
    head_is d =
        let here : get_or xs (start + 0) d ≡ get_or xs start d = ap (λ n. get_or xs n d) (omega arith) in
        get_or-drop start xs 0 d ∙ here ∙ sym (get_or_read xs start first there read d)

    from_first : (i : ℕ) (d : X) → i < length rest → key first ≤ key (get_or rest i d)
    from_first i d within = subst (λ x. key x ≤ key (get_or rest i d)) (head_is d) (IsNonDecreasingBy-drop key start xs up 0 i d (omega arith) within)

    pub is_partitioned : IsPartitionedBy (has (key first)) rest
    is_partitioned i j d le within same =
        let below : key (get_or rest i d) ≤ key (get_or rest j d) = IsNonDecreasingBy-drop key start xs up i j d le within in
        let at : key (get_or rest j d) ≡ key first = eqb-true _ _ same in
        let above : key first ≤ key (get_or rest i d) = from_first i d (omega arith) in
        eq-eqb _ _ (omega arith)

    pub next_run : (len : ℕ) → IsPartitionPoint (λ x. has (key first) x ≡ true) (λ x. has (key first) x ≡ false) rest len → IsNextRun xs start len (key first)
    next_run len point = record {
      some = elim (cases_lt 0 len) [
        | inl above ↦ above
        | inr none ↦
            let differs : eqb (key (get_or rest 0 first)) (key first) ≡ false = point.1 0 first none some_left in
            absurd (eqb-false _ _ differs (ap key (head_is first)))
      ];
      run = λ i d h.
          let inside : i < len = omega (arith, length-take len rest) in
          ap key (get_or-take len rest i d inside) ∙ eqb-true _ _ (point.0 i d (omega arith) inside);
      others = λ i d h.
          let at : get_or (drop (start + len) xs) i d ≡ get_or rest (len + i) d = ap (λ l. get_or l i d) (sym (drop-drop len start xs)) ∙ get_or-drop len rest i d in
          let inside : len + i < length rest = omega (arith, length-drop (start + len) xs, length-drop start xs) in
          let differs : key (get_or rest (len + i) d) ≢ key first = eqb-false _ _ (point.1 (len + i) d (omega arith) inside) in
          let above : key first ≤ key (get_or rest (len + i) d) = from_first (len + i) d inside in
          let more : key first < key (get_or rest (len + i) d) = omega arith in
          rw at more;
    }

    -- the same, from what a search for the end of the run says
    pub run_ahead : (k len : ℕ) → k ≡ key first
        → (IsPartitionedBy (has k) rest → IsPartitionPoint (λ x. has k x ≡ true) (λ x. has k x ≡ false) rest len)
        → IsNextRun xs start len k
    run_ahead k len is =
        subst (λ n. (IsPartitionedBy (has n) rest → IsPartitionPoint (λ x. has n x ≡ true) (λ x. has n x ≡ false) rest len) → IsNextRun xs start len n)
        (sym is) (λ point. next_run len (point is_partitioned))
