-- What is known of the first children stays known where they get fewer, and where one that is new comes behind them.
use Rattle.std.proofs.Common.{◌≡◌, ℕ, zero, suc, ◌*◌, ◌+◌, ◌<◌, ◌≤◌, Bool, true, false, List, [], ◌∷◌, ◌++◌, length, take, refl, sym, ap, ◌∙◌, arith, ◌&&◌, ◌||◌}
use Rattle.std.specs.Prelude.{not, slice_get, Some}
use Rattle.std.proofs.lemmas.List.{take-take}
use Rattle.std.proofs.lemmas.Option.{same_Some}
use Rattle.fr_shape.specs.Same.{is_among}
use Rattle.fr_values.specs.Common.{AreApart, Base, Val, Value, count_in_base, first, first_keys, is_there, none_twice, same, vals_view, view}
use Rattle.fr_values.specs.Bases.{IsCut}

-- tests

both_true : (a b : Bool) → a && b ≡ true → (a ≡ true) × (b ≡ true)
both_true true b e = (refl, e)
both_true false b e = cc

not_true : (a : Bool) → not a ≡ true → a ≡ false
not_true true e = cc
not_true false e = refl

pub neither : (a b : Bool) → (a || b) ≡ false → (a ≡ false) × (b ≡ false)
neither true b e = cc
neither false b e = (refl, e)

-- Fewer

among_fewer : (v : Val) (n : ℕ) (xs : List Value) → is_among v (vals_view xs) ≡ false → is_among v (vals_view (take n xs)) ≡ false
among_fewer v zero xs e = refl
among_fewer v (suc n) [] e = refl
among_fewer v (suc n) (x ∷ xs) e =
    let both = neither (same v (view x)) (is_among v (vals_view xs)) e in
    let here = both.0 in
    let others = among_fewer v n xs both.1 in
    λ j. here j || others j

items_fewer : (n : ℕ) (xs : List Value) → none_twice (vals_view xs) ≡ true → none_twice (vals_view (take n xs)) ≡ true
items_fewer zero xs e = refl
items_fewer (suc n) [] e = refl
items_fewer (suc n) (x ∷ xs) e =
    let both = both_true (not (is_among (view x) (vals_view xs))) (none_twice (vals_view xs)) e in
    let here = among_fewer (view x) n xs (not_true (is_among (view x) (vals_view xs)) both.0) in
    let others = items_fewer n xs both.1 in
    λ j. not (here j) && others j

key_fewer : (v : Val) (m n : ℕ) (xs : List Value) → m ≤ n → is_among v (first_keys n (vals_view xs)) ≡ false
    → is_among v (first_keys m (vals_view xs)) ≡ false
key_fewer v zero n xs h e = refl
key_fewer v (suc m) zero xs h e = absurd (omega arith)
key_fewer v (suc m) (suc n) [] h e = refl
key_fewer v (suc m) (suc n) (k ∷ []) h e = refl
key_fewer v (suc m) (suc n) (k ∷ (x ∷ xs)) h e =
    let both = neither (same v (view k)) (is_among v (first_keys n (vals_view xs))) e in
    let here = both.0 in
    let others = key_fewer v m n xs (omega arith) both.1 in
    λ j. here j || others j

keys_fewer : (m n : ℕ) (xs : List Value) → m ≤ n → none_twice (first_keys n (vals_view xs)) ≡ true
    → none_twice (first_keys m (vals_view xs)) ≡ true
keys_fewer zero n xs h e = refl
keys_fewer (suc m) zero xs h e = absurd (omega arith)
keys_fewer (suc m) (suc n) [] h e = refl
keys_fewer (suc m) (suc n) (k ∷ []) h e = refl
keys_fewer (suc m) (suc n) (k ∷ (x ∷ xs)) h e =
    let both = both_true (not (is_among (view k) (first_keys n (vals_view xs)))) (none_twice (first_keys n (vals_view xs))) e in
    let here = key_fewer (view k) m n xs (omega arith) (not_true (is_among (view k) (first_keys n (vals_view xs))) both.0) in
    let others = keys_fewer m n xs (omega arith) both.1 in
    λ j. not (here j) && others j

-- so many keys stand in twice as many values
keys_in_first : (m n : ℕ) (xs : List Value) → n ≡ 2 * m → first_keys m (vals_view (take n xs)) ≡ first_keys m (vals_view xs)
keys_in_first zero n xs h = refl
keys_in_first (suc m) zero xs h = absurd (omega (arith, h))
keys_in_first (suc m) (suc zero) xs h = absurd (omega (arith, h))
keys_in_first (suc m) (suc (suc n)) [] h = refl
keys_in_first (suc m) (suc (suc n)) (k ∷ []) h = refl
keys_in_first (suc m) (suc (suc n)) (k ∷ (x ∷ xs)) h = ap (first (view k)) (keys_in_first m n xs (omega (arith, h)))

pub cut_count : (n : ℕ) (before after : Base) → IsCut n before after
    → (count_in_base after ≤ n) × (count_in_base after ≤ count_in_base before)
cut_count n (Base.Items count) (Base.Items fewer) cut = (cut.0, cut.1)
cut_count n (Base.Entries count) (Base.Entries fewer) cut = (cut.0, omega (arith, cut.1))
cut_count n (Base.Items count) (Base.Entries fewer) cut = absurd cut
cut_count n (Base.Entries count) (Base.Items fewer) cut = absurd cut

pub uncut : (n : ℕ) (base : Base) → count_in_base base ≤ n → IsCut n base base
uncut n (Base.Items count) h = (h, omega arith)
uncut n (Base.Entries count) h = (h, omega arith)

-- what was known of the first ones of some values is known of fewer of others that begin alike
pub still_apart : (n : ℕ) (before after : Base) (xs ys : List Value) → IsCut n before after → take n ys ≡ take n xs
    → count_in_base after ≤ length ys → AreApart before xs → AreApart after ys
still_apart n (Base.Items count) (Base.Items fewer) xs ys cut alike within apart = record {
  within = within;
  once =
      ap (λ (vs : List Value). none_twice (vals_view vs)) (sym (take-take fewer n ys cut.0) ∙ ap (take fewer) alike
      ∙ take-take fewer n xs cut.0 ∙ sym (take-take fewer count xs cut.1)) ∙ items_fewer fewer (take count xs) apart.once;
}
still_apart n (Base.Entries count) (Base.Entries fewer) xs ys cut alike within apart = record {
  within = within;
  once =
      ap none_twice (sym (keys_in_first fewer (2 * fewer) ys refl)
      ∙ ap (λ (vs : List Value). first_keys fewer (vals_view vs)) (sym (take-take (2 * fewer) n ys cut.0)
      ∙ ap (take (2 * fewer)) alike ∙ take-take (2 * fewer) n xs cut.0) ∙ keys_in_first fewer (2 * fewer) xs refl)
      ∙ keys_fewer fewer count xs cut.1 apart.once;
}
still_apart n (Base.Items count) (Base.Entries fewer) xs ys cut alike within apart = absurd cut
still_apart n (Base.Entries count) (Base.Items fewer) xs ys cut alike within apart = absurd cut

-- One more

among_last : (v : Val) (xs : List Value) (x : Value) → is_among v (vals_view xs) ≡ false → same v (view x) ≡ false
    → is_among v (vals_view (xs ++ x ∷ [])) ≡ false
among_last v [] x e new = λ j. new j || false
among_last v (w ∷ xs) x e new =
    let both = neither (same v (view w)) (is_among v (vals_view xs)) e in
    let here = both.0 in
    let others = among_last v xs x both.1 new in
    λ j. here j || others j

items_last : (xs : List Value) (x : Value) → none_twice (vals_view xs) ≡ true → is_there (view x) (vals_view xs) ≡ false
    → none_twice (vals_view (xs ++ x ∷ [])) ≡ true
items_last [] x e new = refl
items_last (w ∷ xs) x e new =
    let both = both_true (not (is_among (view w) (vals_view xs))) (none_twice (vals_view xs)) e in
    let apart = neither (same (view w) (view x)) (is_there (view x) (vals_view xs)) new in
    let here = among_last (view w) xs x (not_true (is_among (view w) (vals_view xs)) both.0) apart.0 in
    let others = items_last xs x both.1 apart.1 in
    λ j. not (here j) && others j

take_found : (n : ℕ) (xs : List Value) (x : Value) → slice_get xs n ≡ Some x → take (suc n) xs ≡ take n xs ++ x ∷ []
take_found n [] x e = cc
take_found zero (w ∷ xs) x e = let is : w ≡ x = same_Some w x e in ap (λ (v : Value). v ∷ []) is
take_found (suc n) (w ∷ xs) x e = ap (λ (l : List Value). w ∷ l) (take_found n xs x e)

pub one_more_apart : (n : ℕ) (xs : List Value) (x : Value) → n < length xs → slice_get xs n ≡ Some x
    → is_there (view x) (vals_view (take n xs)) ≡ false → AreApart (Base.Items n) xs → AreApart (Base.Items (n + 1)) xs
one_more_apart n xs x inside is new apart =
    let next : n + 1 ≡ suc n = omega arith in record {
      within = omega (arith, inside);
      once =
          ap (λ (m : ℕ). none_twice (vals_view (take m xs))) next ∙ ap (λ (vs : List Value). none_twice (vals_view vs)) (take_found n xs x is)
          ∙ items_last (take n xs) x apart.once new;
    }
