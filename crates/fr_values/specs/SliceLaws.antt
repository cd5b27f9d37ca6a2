-- What stands in a list under a number, and what a change of one number does.
use Rattle.std.proofs.Common.{◌≡◌, ◌≢◌, ◌⊎◌, ℕ, zero, suc, ◌<◌, true, false, List, [], ◌∷◌, length, Option, Some, None, IsSomeAnd, slice_get, set, get_or, nat_eq, inl, inr, refl, sym, ◌∙◌, ap, ap₂, subst, arith}
use Rattle.std.proofs.lemmas.Grind.{common_steps}
use Rattle.std.proofs.lemmas.Bool.Decides.{nat_tests}
use Rattle.std.proofs.lemmas.Option.{slice_get_read}

-- Numbers.

pub same_number : (n : ℕ) → nat_eq n n ≡ true
same_number n = grind (arith, common_steps, nat_tests)

pub other_number : (m n : ℕ) → m ≢ n → nat_eq m n ≡ false
other_number m n ne = grind (arith, common_steps, nat_tests)

pub number_cases : (m n : ℕ) → (m ≡ n) ⊎ (m ≢ n)
number_cases m n = grind (arith, common_steps, nat_tests)

-- Lists of whatever.

pub got : {X : Type 0} (xs : List X) (n : ℕ) (x : X) → n < length xs → x ≡ get_or xs n x → slice_get xs n ≡ Some x
got xs n x h e = slice_get_read xs (length xs) n x refl h e

-- something stands at a number that is inside
pub element : {X : Type 0} (xs : List X) (k : ℕ) → k < length xs → (x : X) × (slice_get xs k ≡ Some x)
element [] k h = absurd (omega arith)
element (x ∷ xs) zero h = (x, refl)
element (x ∷ xs) (suc k) h = element xs k (omega arith)

-- what is read at an index lies there
pub read : {X : Type 0} (xs : List X) (n at : ℕ) (x : X) → at ≡ n → n < length xs → x ≡ get_or xs at x → slice_get xs n ≡ Some x
read xs n at x e inside is = got xs n x inside (is ∙ ap (λ (k : ℕ). get_or xs k x) e)

-- something of which this is so stands at the number
pub holds_inside : {X : Type 0} (xs : List X) (n : ℕ) (P : X → Type 0) → IsSomeAnd (slice_get xs n) P → n < length xs
holds_inside [] n P h = absurd h
holds_inside (y ∷ xs) zero P h = omega arith
holds_inside (y ∷ xs) (suc n) P h = let k : n < length xs = holds_inside xs n P h in omega arith

-- so it is so of what is read there
pub holds_read : {X : Type 0} (xs : List X) (n at : ℕ) (x : X) (P : X → Type 0) → at ≡ n → x ≡ get_or xs at x
    → IsSomeAnd (slice_get xs n) P → P x
holds_read xs n at x P e is h = subst (λ (found : Option _). IsSomeAnd found P) (read xs n at x e (holds_inside xs n P h) is) h

pub set_gets : {X : Type 0} (xs : List X) (i : ℕ) (x y : X) → slice_get xs i ≡ Some x → slice_get (set xs i y) i ≡ Some y
set_gets [] i x y e = cc
set_gets (z ∷ xs) zero x y e = refl
set_gets (z ∷ xs) (suc i) x y e = set_gets xs i x y e

pub set_keeps : {X : Type 0} (xs : List X) (i : ℕ) (y : X) (j : ℕ) → j ≢ i → slice_get (set xs i y) j ≡ slice_get xs j
set_keeps [] i y j ne = refl
set_keeps (z ∷ xs) zero y zero ne = absurd (ne refl)
set_keeps (z ∷ xs) zero y (suc j) ne = refl
set_keeps (z ∷ xs) (suc i) y zero ne = refl
set_keeps (z ∷ xs) (suc i) y (suc j) ne = set_keeps xs i y j (λ (e : j ≡ i). ne (ap (λ (k : ℕ). suc k) e))

-- lists that have the same under each number
pub same_lists : {X : Type 0} (a b : List X) → ((n : ℕ) → slice_get a n ≡ slice_get b n) → a ≡ b
same_lists [] [] same = refl
same_lists [] (y ∷ b) same = let e : None ≡ Some y = same zero in cc
same_lists (x ∷ a) [] same = let e : Some x ≡ None = same zero in cc
same_lists (x ∷ a) (y ∷ b) same =
    let e : Some x ≡ Some y = same zero in
    let first : x ≡ y = cc in
    ap₂ (λ (s : _) (l : List _). s ∷ l) first (same_lists a b (λ n. same (suc n)))

-- a list that has the same as another but under one number
pub is_set : {X : Type 0} (a b : List X) (k : ℕ) (was now : X) → slice_get b k ≡ Some was → slice_get a k ≡ Some now
    → ((n : ℕ) → n ≢ k → slice_get a n ≡ slice_get b n) → a ≡ set b k now
is_set a b k was now before here others = same_lists a (set b k now) (λ n. elim (number_cases n k) [
  | inl e ↦ rw e (here ∙ sym (set_gets b k was now before))
  | inr ne ↦ others n ne ∙ sym (set_keeps b k now n ne)
])

-- a list that is given at a number what it had there
pub set_as_was : {X : Type 0} (xs : List X) (n : ℕ) (x : X) → slice_get xs n ≡ Some x → set xs n x ≡ xs
set_as_was [] n x e = refl
set_as_was (y ∷ xs) zero x e = let same : x ≡ y = cc in ap (λ (z : _). z ∷ xs) same
set_as_was (y ∷ xs) (suc n) x e = ap (λ (l : List _). y ∷ l) (set_as_was xs n x e)
