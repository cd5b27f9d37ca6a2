-- What is distinct, item by item.
use Rattle.std.proofs.Common.{◌≡◌, ℕ, suc, ◌+◌, ◌<◌, Bool, true, false, not, ◌&&◌, ◌||◌, cond, List, [], ◌∷◌, ◌++◌, length, take, get_or, map, zero, true≢false, Option, None, Some, is_some, MatchOption, subst, refl, sym, ap, ◌∙◌, arith}
use Rattle.std.specs.List.{list_any}
use Rattle.std.specs.Cmp.{IsEquivalence}
use Rattle.std.proofs.lemmas.List.{take_more, get_or_read, get_or-map, take-map, length-map}
use Rattle.std.proofs.lemmas.List.Folds.{list_any_more, list_any_at}
use Rattle.std.specs.Str.{bytes_eq}
use Rattle.fr_shape.specs.Checked.{names_apart}
use Rattle.fr_shape.specs.Distinct.{distinct, IsFirstRepeated}

-- d and e are one test
regroup : (a b c d e : Bool) → d ≡ e → not (a || (d || false)) && (b && not c) ≡ (not a && b) && not (e || c)
regroup true b c d e same = refl
regroup false true true true e same = ap (λ x. not (x || true)) same
regroup false true true false e same = ap (λ x. not (x || true)) same
regroup false true false true e same = ap (λ x. not (x || false)) same
regroup false true false false e same = ap (λ x. not (x || false)) same
regroup false false c true e same = refl
regroup false false c false e same = refl

list_any_push : {X : Type 0} (p : X → Bool) (xs : List X) (y : X) → list_any p (xs ++ y ∷ []) ≡ list_any p xs || (p y || false)
list_any_push p [] y = refl
list_any_push p (x ∷ xs) y = ap (λ b. p x || b) (list_any_push p xs y) ∙ or_assoc (p x) (list_any p xs) (p y || false)
  where
    or_assoc : (a b c : Bool) → a || (b || c) ≡ (a || b) || c
    or_assoc true b c = refl
    or_assoc false b c = refl

module _ {X : Type 0} {eq : X → X → Bool} (laws : IsEquivalence eq) where
  pub distinct_push : (xs : List X) (y : X) → distinct eq (xs ++ y ∷ []) ≡ distinct eq xs && not (list_any (eq y) xs)
  distinct_push [] y = refl
  distinct_push (x ∷ xs) y =
      ap (λ a. not a && distinct eq (xs ++ y ∷ [])) (list_any_push (eq x) xs y)
      ∙ ap (λ b. not (list_any (eq x) xs || (eq x y || false)) && b) (distinct_push xs y)
      ∙ regroup (list_any (eq x) xs) (distinct eq xs) (list_any (eq y) xs) (eq x y) (eq y x) (laws.symm x y)

  pub distinct_more : (xs : List X) (i : ℕ) (x : X) → i < length xs → x ≡ get_or xs i x → distinct eq (take (i + 1) xs) ≡ distinct eq (take i xs) && not (list_any (eq x) (take i xs))
  distinct_more xs i x within is = ap (distinct eq) (take_more xs i x within) ∙ ap (λ y. distinct eq (take i xs ++ y ∷ [])) (sym is) ∙ distinct_push (take i xs) x

  pub first_repeated_at : (xs : List X) (i : ℕ) (x : X) → i < length xs → x ≡ get_or xs i x → distinct eq (take i xs) ≡ true → list_any (eq x) (take i xs) ≡ true → IsFirstRepeated eq xs i
  first_repeated_at xs i x within is before again = record {
    within = within;
    distinct_before = before;
    repeated = λ d. ap (λ y. list_any (eq y) (take i xs)) (sym (get_or_read xs i x within is d)) ∙ again;
  }

any_more : {X : Type 0} (p : X → Bool) (xs : List X) (i : ℕ) (x : X) → i < length xs → x ≡ get_or xs i x → list_any p (take (i + 1) xs) ≡ list_any p (take i xs) || p x
any_more p xs i x within is = list_any_more p xs i x within ∙ ap (λ y. list_any p (take i xs) || p y) (sym is)

-- what a set of the first i items says of q, after it took one more
pub holds_more : {X : Type 0} {eq : X → X → Bool} → IsEquivalence eq → (xs : List X) (i : ℕ) (x : X) → i < length xs → x ≡ get_or xs i x → (q : X) (before after : Bool) → after ≡ cond (eq x q) true before → before ≡ list_any (eq q) (take i xs) → after ≡ list_any (eq q) (take (i + 1) xs)
holds_more {eq = eq} laws xs i x within is q before after took had =
    took ∙ (λ j. cond (laws.symm x q j) true (had j)) ∙ cond_or (eq q x) (list_any (eq q) (take i xs)) ∙ sym (any_more (eq q) xs i x within is)
  where
    cond_or : (a b : Bool) → cond a true b ≡ b || a
    cond_or true true = refl
    cond_or true false = refl
    cond_or false true = refl
    cond_or false false = refl

-- no item passes a test that none of the list passes
none_at : {X : Type 0} (p : X → Bool) (xs : List X) (i : ℕ) (d : X) → i < length xs → list_any p xs ≡ false → p (get_or xs i d) ≡ false
none_at p xs i d within none = by (p (get_or xs i d)) refl
  where
    by : (b : Bool) → p (get_or xs i d) ≡ b → p (get_or xs i d) ≡ false
    by true passes = absurd (true≢false (sym (list_any_at p xs i d within passes) ∙ none))
    by false fails = fails

both_true : (a b : Bool) → a && b ≡ true → (a ≡ true) × (b ≡ true)
both_true true b e = (refl, e)
both_true false b e = absurd (true≢false (sym e))

not_true : (a : Bool) → not a ≡ true → a ≡ false
not_true true e = absurd (true≢false (sym e))
not_true false e = refl

module _ {X : Type 0} {eq : X → X → Bool} (laws : IsEquivalence eq) where
  -- of distinct items, none is equal to an earlier one
  pub new_at : (xs : List X) (i : ℕ) (d : X) → i < length xs → distinct eq xs ≡ true → list_any (eq (get_or xs i d)) (take i xs) ≡ false
  new_at [] i d within apart = absurd (omega (arith, within))
  new_at (x ∷ xs) zero d within apart = refl
  new_at (x ∷ xs) (suc i) d within apart =
      let parts = both_true (not (list_any (eq x) xs)) (distinct eq xs) apart in
      let inside : i < length xs = omega (arith, within) in
      (λ j. (laws.symm (get_or xs i d) x ∙ none_at (eq x) xs i d inside (not_true (list_any (eq x) xs) parts.0)) j || new_at xs i d inside parts.1 j)

  -- so where one is, they aren't distinct
  pub not_distinct : (xs : List X) (n : ℕ) → IsFirstRepeated eq xs n → distinct eq xs ≡ false
  not_distinct [] n first = absurd (omega (arith, first.within))
  not_distinct (x ∷ xs) n first = by (distinct eq (x ∷ xs)) refl
    where
      by : (b : Bool) → distinct eq (x ∷ xs) ≡ b → distinct eq (x ∷ xs) ≡ false
      by true apart = absurd (true≢false (sym (first.repeated x) ∙ new_at (x ∷ xs) n x first.within apart))
      by false e = e

-- the same of what a function makes of the items

pub list_any_map : {X Y : Type 0} (f : X → Y) (p : Y → Bool) (xs : List X) → list_any (λ x. p (f x)) xs ≡ list_any p (map f xs)
list_any_map f p [] = refl
list_any_map f p (x ∷ xs) = ap (λ b. p (f x) || b) (list_any_map f p xs)

pub distinct_map : {X Y : Type 0} (f : X → Y) (eq : Y → Y → Bool) (xs : List X) → distinct (λ a b. eq (f a) (f b)) xs ≡ distinct eq (map f xs)
distinct_map f eq [] = refl
distinct_map f eq (x ∷ xs) = λ j. not (list_any_map f (eq (f x)) xs j) && distinct_map f eq xs j

pub distinct_of : {X Y : Type 0} (f : X → Y) (eq : Y → Y → Bool) (xs : List X) (ys : List Y) → map f xs ≡ ys → distinct (λ a b. eq (f a) (f b)) xs ≡ distinct eq ys
distinct_of f eq xs ys are = distinct_map f eq xs ∙ ap (distinct eq) are

pub first_repeated_map : {X Y : Type 0} (f : X → Y) (eq : Y → Y → Bool) (xs : List X) (n : ℕ) → IsFirstRepeated (λ a b. eq (f a) (f b)) xs n → IsFirstRepeated eq (map f xs) n
first_repeated_map f eq [] n first = absurd (omega (arith, first.within))
first_repeated_map f eq (x ∷ xs) n first = record {
  within = omega (arith, first.within, length-map (x ∷ xs) f);
  distinct_before = ap (distinct eq) (take-map f n (x ∷ xs)) ∙ sym (distinct_map f eq (take n (x ∷ xs))) ∙ first.distinct_before;
  repeated = λ d.
      (λ j. list_any (eq (get_or-map f (x ∷ xs) n x d first.within j)) (take-map f n (x ∷ xs) j))
      ∙ sym (list_any_map f (eq (f (get_or (x ∷ xs) n x))) (take n (x ∷ xs)))
      ∙ first.repeated x;
}

-- what a search for the first repeated item says
abbrev pub Found : {X : Type 0} → (X → X → Bool) → List X → Option ℕ → Type 0
Found eq xs found = MatchOption found (distinct eq xs ≡ true) (IsFirstRepeated eq xs)

pub found_map : {X Y : Type 0} (f : X → Y) (eq : Y → Y → Bool) (xs : List X) (ys : List Y) → map f xs ≡ ys → (found : Option ℕ) → Found (λ a b. eq (f a) (f b)) xs found → Found eq ys found
found_map f eq xs ys is None apart = ap (distinct eq) (sym is) ∙ sym (distinct_map f eq xs) ∙ apart
found_map f eq xs ys is (Some n) first = subst (λ ys. IsFirstRepeated eq ys n) is (first_repeated_map f eq xs n first)

pub found_none : {X : Type 0} {eq : X → X → Bool} → IsEquivalence eq → (xs : List X) (found : Option ℕ) → Found eq xs found → not (is_some found) ≡ distinct eq xs
found_none laws xs None apart = sym apart
found_none laws xs (Some n) first = sym (not_distinct laws xs n first)

-- names are apart where they are distinct
pub names_distinct : (names : List (List ℕ)) → names_apart names ≡ distinct bytes_eq names
names_distinct [] = refl
names_distinct (name ∷ names) = ap (λ b. not (list_any (bytes_eq name) names) && b) (names_distinct names)
