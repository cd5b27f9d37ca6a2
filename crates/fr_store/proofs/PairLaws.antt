-- Lists of which each element stands in some way to all that follow, and what filters and changes leave of them.
use Rattle.std.proofs.Common.{◌≡◌, ◌≢◌, ◌⊎◌, ℕ, zero, suc, ◌+◌, ◌<◌, ◌≤◌, Bool, true, false, cond, List, [], ◌∷◌, ◌++◌, append_assoc, map, reverse, length, length-append, get_or, nat_eq, slice_get, slice_index, Some, inl, inr, refl, sym, ap, ◌∙◌, subst, arith}
use Rattle.std.proofs.lemmas.List.Sorted.{All-permutation, Contains-permutation, IsPermutation-reverse}
use Rattle.fr_store.specs.Common.{All, AreOnce, Contains, Pairs, counts_if, counts_in, counts_other, counts_own, filter, same_or_other}
use Rattle.std.proofs.lemmas.List.{reverse-append, map-append, get_or_default}
use Rattle.std.proofs.lemmas.List.Elements.{All-nil, All-cons, All-head, All-tail, All-append, All-filter, All-map, All-weaker, Contains-append_cases, Contains-append_left, Contains-append_right}

module _ {X : Type 0} where
  pub all_right : (P : X → Type 0) (xs ys : List X) → All P (xs ++ ys) → All P ys
  all_right P [] ys h = h
  all_right P (x ∷ xs) ys h = all_right P xs ys (All-tail P x (xs ++ ys) h)

  pub all_reverse : (P : X → Type 0) (xs : List X) → All P xs → All P (reverse xs)
  all_reverse P xs h = All-permutation P xs (reverse xs) (IsPermutation-reverse xs) h

  -- Elements.

  pub first_in : (x : X) (xs : List X) → Contains (x ∷ xs) x
  first_in x xs = (0, omega arith, refl)

  pub later_in : (y x : X) (xs : List X) → Contains xs x → Contains (y ∷ xs) x
  later_in y x xs at = (suc at.0, omega (arith, at.1), at.2)

  pub in_cases : (y x : X) (xs : List X) → Contains (y ∷ xs) x → (y ≡ x) ⊎ Contains xs x
  in_cases y x xs at = go at.0 at.1 at.2
    where
      go : (k : ℕ) → k < suc (length xs) → get_or (y ∷ xs) k x ≡ x → (y ≡ x) ⊎ Contains xs x
      go zero h e = inl e
      go (suc k) h e = inr (k, omega arith, e)

  pub none_in : (x : X) → Contains [] x → ⊥
  none_in x at = omega (arith, at.1)

  pub in_filter : (p : X → Bool) (xs : List X) (x : X) → Contains xs x → p x ≡ true → Contains (filter p xs) x
  in_filter p [] x at passes = absurd (none_in x at)
  in_filter p (y ∷ xs) x at passes = go (in_cases y x xs at) (λ more. in_filter p xs x more passes)
    where
      there : (b : Bool) → Contains (filter p xs) x → Contains (cond b (y ∷ filter p xs) (filter p xs)) x
      there true at = later_in y x (filter p xs) at
      there false at = at

      here : (b : Bool) → b ≡ true → y ≡ x → Contains (cond b (y ∷ filter p xs) (filter p xs)) x
      here true t e = (0, omega arith, e)
      here false t e = absurd (cc)

      go : (y ≡ x) ⊎ Contains xs x → (Contains xs x → Contains (filter p xs) x)
          → Contains (cond (p y) (y ∷ filter p xs) (filter p xs)) x
      go (inl e) rest = here (p y) (ap p e ∙ passes) e
      go (inr at) rest = there (p y) (rest at)

  pub in_reverse : (xs : List X) (x : X) → Contains xs x → Contains (reverse xs) x
  in_reverse xs x at = Contains-permutation xs (reverse xs) x (IsPermutation-reverse xs) at

module _ {X Y : Type 0} where
  pub in_map : (f : X → Y) (xs : List X) (x : X) → Contains xs x → Contains (map f xs) (f x)
  in_map f [] x at = absurd (none_in x at)
  in_map f (y ∷ xs) x at = go (in_cases y x xs at) (in_map f xs x)
    where
      go : (y ≡ x) ⊎ Contains xs x → (Contains xs x → Contains (map f xs) (f x)) → Contains (f y ∷ map f xs) (f x)
      go (inl e) rest = (0, omega arith, ap f e)
      go (inr at) rest = later_in (f y) (f x) (map f xs) (rest at)

  -- what is in the changed list comes of something in the list
  pub of_map : (f : X → Y) (xs : List X) (y : Y) → Contains (map f xs) y → (x : X) × Contains xs x × (f x ≡ y)
  of_map f [] y at = absurd (none_in y at)
  of_map f (x ∷ xs) y at = go (in_cases (f x) y (map f xs) at) (of_map f xs y)
    where
      go : (f x ≡ y) ⊎ Contains (map f xs) y → (Contains (map f xs) y → (z : X) × Contains xs z × (f z ≡ y))
          → (z : X) × Contains (x ∷ xs) z × (f z ≡ y)
      go (inl e) rest = (x, first_in x xs, e)
      go (inr at) rest = let found = rest at in (found.0, later_in x found.0 xs found.1, found.2)

module _ {X Y : Type 0} (f : X → Y) where
  pub map_reverse : (xs : List X) → map f (reverse xs) ≡ reverse (map f xs)
  map_reverse [] = refl
  map_reverse (x ∷ xs) =
      ap (map f) (reverse-append (x ∷ []) xs) ∙ map-append f (reverse xs) (x ∷ [])
      ∙ ap (λ (ys : List Y). ys ++ f x ∷ []) (map_reverse xs) ∙ sym (reverse-append (f x ∷ []) (map f xs))

module _ {X : Type 0} (So : X → X → Type 0) where
  pub pairs_append : (xs ys : List X) → Pairs So xs → Pairs So ys → All (λ x. All (So x) ys) xs → Pairs So (xs ++ ys)
  pairs_append [] ys p q cross = q
  pairs_append (x ∷ xs) ys p q cross = (
    All-append (So x) xs ys p.0 (All-head (λ y. All (So y) ys) x xs cross),
    pairs_append xs ys p.1 q (All-tail (λ y. All (So y) ys) x xs cross),
  )

  pub pairs_cross : (xs ys : List X) → Pairs So (xs ++ ys) → All (λ x. All (So x) ys) xs
  pairs_cross [] ys p = All-nil (λ x. All (So x) ys)
  pairs_cross (x ∷ xs) ys p = All-cons (λ y. All (So y) ys) x xs (all_right (So x) xs ys p.0) (pairs_cross xs ys p.1)

  pub pairs_filter : (p : X → Bool) (xs : List X) → Pairs So xs → Pairs So (filter p xs)
  pairs_filter p [] h = tt
  pairs_filter p (x ∷ xs) h = go (p x) (All-filter p (So x) xs h.0) (pairs_filter p xs h.1)
    where
      go : (b : Bool) → All (So x) (filter p xs) → Pairs So (filter p xs) → Pairs So (cond b (x ∷ filter p xs) (filter p xs))
      go true all rest = (all, rest)
      go false all rest = rest

  pub pairs_map : {Y : Type 0} (To : Y → Y → Type 0) (f : X → Y) (P : X → Type 0)
      → ((x y : X) → P x → P y → So x y → To (f x) (f y)) → (xs : List X) → All P xs → Pairs So xs → Pairs To (map f xs)
  pairs_map To f P step [] all h = tt
  pairs_map To f P step (x ∷ xs) all h =
      let rest : All P xs = All-tail P x xs all in (
        All-map (To (f x)) f xs (λ k d lt. step x (get_or xs k d) (All-head P x xs all) (rest k d lt) (h.0 k d lt)),
        pairs_map To f P step xs rest h.1,
      )

  pub pairs_weaker : (To : X → X → Type 0) (P : X → Type 0) → ((x y : X) → P x → P y → So x y → To x y)
      → (xs : List X) → All P xs → Pairs So xs → Pairs To xs
  pairs_weaker To P step [] all h = tt
  pairs_weaker To P step (x ∷ xs) all h =
      let rest : All P xs = All-tail P x xs all in (
        λ k d lt. step x (get_or xs k d) (All-head P x xs all) (rest k d lt) (h.0 k d lt),
        pairs_weaker To P step xs rest h.1,
      )

-- read from the end
pub pairs_reverse : {X : Type 0} (So : X → X → Type 0) (xs : List X) → Pairs So xs → Pairs (λ (x y : X). So y x) (reverse xs)
pairs_reverse So [] h = tt
pairs_reverse {X} So (x ∷ xs) h =
    subst (Pairs (λ (y z : X). So z y)) (sym (reverse-append (x ∷ []) xs))
    (pairs_append (λ (y z : X). So z y) (reverse xs) (x ∷ []) (pairs_reverse So xs h.1) (All-nil (λ (z : X). So z x), tt)
    (all_reverse (λ (y : X). All (λ (z : X). So z y) (x ∷ [])) xs (All-weaker (So x) (λ (y : X). All (λ (z : X). So z y) (x ∷ []))
    (λ y so. All-cons (λ (z : X). So z y) x [] so (All-nil (λ (z : X). So z y))) xs h.0)))

-- Counts.

pub none_counted : (n : ℕ) (xs : List ℕ) → All (λ x. x ≢ n) xs → counts_in n xs ≡ 0
none_counted n [] none = refl
none_counted n (x ∷ xs) none =
    omega (arith, counts_other x n (All-head (λ y. y ≢ n) x xs none), none_counted n xs (All-tail (λ y. y ≢ n) x xs none))

pub in_counted : (n : ℕ) (xs : List ℕ) → Contains xs n → 0 < counts_in n xs
in_counted n [] at = absurd (none_in n at)
in_counted n (x ∷ xs) at = go (in_cases x n xs at) (in_counted n xs)
  where
    go : (x ≡ n) ⊎ Contains xs n → (Contains xs n → 0 < counts_in n xs) → 0 < counts_if (nat_eq x n) + counts_in n xs
    go (inl e) rest = omega (arith, counts_own (sym e))
    go (inr at) rest = omega (arith, rest at)

-- each number stands in a list where another list says
pub indexed_once : (all positions : List ℕ) (from : ℕ)
    → ((i : ℕ) → i < length all → slice_get positions (slice_index all i) ≡ Some (from + i)) → AreOnce all
indexed_once [] positions from at n = omega arith
indexed_once (x ∷ xs) positions from at n =
    go (same_or_other x n)
    (indexed_once xs positions (suc from) (λ i h. at (suc i) (omega arith) ∙ ap (λ (m : ℕ). Some m) (omega arith)) n)
  where
    apart : x ≡ n → All (λ (y : ℕ). y ≢ n) xs
    apart e i d h same =
        let one : slice_get positions x ≡ Some (from + 0) = at 0 (omega arith) in
        let other : slice_get positions (slice_index xs i) ≡ Some (from + suc i) = at (suc i) (omega arith) in
        let read : slice_index xs i ≡ get_or xs i d = get_or_default xs i 0 d h in
        let both = ap (slice_get positions) (read ∙ same ∙ sym e) in
        let numbers : from + 0 ≡ from + suc i = cc in
        omega arith

    go : (x ≡ n) ⊎ (x ≢ n) → counts_in n xs ≤ 1 → counts_if (nat_eq x n) + counts_in n xs ≤ 1
    go (inl e) rest = omega (arith, counts_own (sym e), none_counted n xs (apart e))
    go (inr ne) rest = omega (arith, counts_other x n ne)

-- Lists that go into others.

part_at : (n : ℕ) (ys : List ℕ) → Contains ys n → (front : List ℕ) × (back : List ℕ) × (ys ≡ front ++ n ∷ back)
part_at n [] at = absurd (none_in n at)
part_at n (y ∷ ys) at = go (in_cases y n ys at) (part_at n ys)
  where
    go : (y ≡ n) ⊎ Contains ys n → (Contains ys n → (front : List ℕ) × (back : List ℕ) × (ys ≡ front ++ n ∷ back))
        → (front : List ℕ) × (back : List ℕ) × (y ∷ ys ≡ front ++ n ∷ back)
    go (inl e) rest = ([], ys, ap (λ (m : ℕ). m ∷ ys) e)
    go (inr more) rest = let found = rest more in (y ∷ found.0, found.1, ap (λ (l : List ℕ). y ∷ l) found.2)

-- what is in it twice isn't needed
pub fits : (xs ys : List ℕ) → AreOnce xs → ((n : ℕ) → Contains xs n → Contains ys n) → length xs ≤ length ys
fits [] ys once inside = omega arith
fits (x ∷ xs) ys once inside =
    let parts = part_at x ys (inside x (first_in x xs)) in
    let whole = ap (λ (l : List ℕ). length l) parts.2 in
    let rest = fits xs (parts.0 ++ parts.1) (λ n. omega (arith, once n))
    (λ n at. beside n parts.0 parts.1 at (subst (λ (l : List ℕ). Contains l n) parts.2 (inside n (later_in x n xs at)))) in
    omega (arith, length-append parts.0 parts.1, length-append parts.0 (x ∷ parts.1))
  where
    beside : (n : ℕ) (front back : List ℕ) → Contains xs n → Contains (front ++ x ∷ back) n → Contains (front ++ back) n
    beside n front back at found = go (Contains-append_cases front (x ∷ back) n found)
      where
        later : (x ≡ n) ⊎ Contains back n → Contains (front ++ back) n
        later (inl e) = absurd (omega (arith, counts_own (sym e), once n, in_counted n xs at))
        later (inr more) = Contains-append_right front back n more

        go : Contains front n ⊎ Contains (x ∷ back) n → Contains (front ++ back) n
        go (inl before) = Contains-append_left front back n before
        go (inr after) = later (in_cases x n back after)

-- the numbers below this one
abbrev pub upto : ℕ → List ℕ
upto zero = []
upto (suc n) = n ∷ upto n

upto_long : (n : ℕ) → length (upto n) ≡ n
upto_long zero = refl
upto_long (suc n) = ap suc (upto_long n)

upto_has : (n m : ℕ) → m < n → Contains (upto n) m
upto_has zero m h = absurd (omega arith)
upto_has (suc n) m h = go (same_or_other n m) (λ less. upto_has n m less)
  where
    go : (n ≡ m) ⊎ (n ≢ m) → (m < n → Contains (upto n) m) → Contains (n ∷ upto n) m
    go (inl e) rest = (0, omega arith, e)
    go (inr ne) rest = later_in n m (upto n) (rest (omega arith))

-- there is room for different numbers below this one
pub room_below : (xs : List ℕ) (n : ℕ) → AreOnce xs → ((m : ℕ) → Contains xs m → m < n) → length xs ≤ n
room_below xs n once low = omega (arith, fits xs (upto n) once (λ m at. upto_has n m (low m at)), upto_long n)

-- Lists of which all passes.
pub filter_all : {X : Type 0} (p : X → Bool) (xs : List X) → All (λ x. p x ≡ true) xs → filter p xs ≡ xs
filter_all p [] all = refl
filter_all {X} p (x ∷ xs) all =
    ap (λ (b : Bool). cond b (x ∷ filter p xs) (filter p xs)) (All-head (λ y. p y ≡ true) x xs all)
    ∙ ap (λ (l : List X). x ∷ l) (filter_all p xs (All-tail (λ y. p y ≡ true) x xs all))

-- or nothing
pub filter_none : {X : Type 0} (p : X → Bool) (xs : List X) → All (λ x. p x ≡ false) xs → filter p xs ≡ []
filter_none p [] all = refl
filter_none p (x ∷ xs) all =
    ap (λ (b : Bool). cond b (x ∷ filter p xs) (filter p xs)) (All-head (λ y. p y ≡ false) x xs all)
    ∙ filter_none p xs (All-tail (λ y. p y ≡ false) x xs all)

-- the first of the second list goes behind the first list, and more behind the second
pub parts : {X : Type 0} (done rest : List X) (p : X) (added : List X)
    → (done ++ p ∷ []) ++ (rest ++ added) ≡ (done ++ p ∷ rest) ++ added
parts done rest p added = append_assoc done (p ∷ []) (rest ++ added) ∙ sym (append_assoc done (p ∷ rest) added)
