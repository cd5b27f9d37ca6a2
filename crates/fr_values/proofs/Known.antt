-- What is known of the places of new keys, as more come.
use Rattle.std.proofs.Common.{◌≡◌, ℕ, zero, suc, ◌+◌, ◌<◌, Bool, true, false, true≢false, cond, ◌||◌, List, [], ◌∷◌, ◌++◌, length, take, drop, get_or, Option, Some, None, is_some, refl, sym, ap, ◌∙◌, arith}
use Rattle.std.specs.Prelude.{option_map, slice_get}
use Rattle.std.specs.Option.{option_or}
use Rattle.std.specs.List.{list_any}
use Rattle.std.specs.BTreeMap.{BTreeMap, get_by}
use Rattle.std.specs.Cmp.{IsEquivalence}
use Rattle.std.specs.Ordering.{is_eq}
use Rattle.std.specs.declared.cmp.Ordering.{Ordering}
use Rattle.std.specs.declared.cmp.Ordering.TheVariants.{Less, Equal, Greater}
use Rattle.std.proofs.lemmas.List.Folds.{list_any-append, list_any_at}
use Rattle.std.proofs.lemmas.List.{take_more, get_or-drop, length-drop}
use Rattle.std.proofs.lemmas.Map.Steps.{list_any_congr}
use Rattle.std.proofs.lemmas.Option.{get_or_from_slice_get, slice_get-get_or, slice_get_within}
use Rattle.fr_shape.specs.CompareLaws.{compare_total}
use Rattle.fr_values.specs.Common.{ByContents, compare, place, place_known, same, same_tied, view}
use Rattle.fr_values.proofs.Placed.{place_push, split_none}

or_none : (o : Option ℕ) → o ≡ option_or o None
or_none None = refl
or_none (Some n) = refl

-- The next of some keys

pub one_more : {K : Type 0} (ks : List K) (i : ℕ) (k : K) → slice_get ks i ≡ Some k → take (i + 1) ks ≡ take i ks ++ k ∷ []
one_more ks i k is =
    take_more ks i k (slice_get_within ks i k is) ∙ ap (λ l. take i ks ++ l ∷ []) (get_or_from_slice_get ks i k k is)

pub next_behind : {K : Type 0} (ks : List K) (n i : ℕ) (k : K) → slice_get ks (n + i) ≡ Some k → slice_get (drop n ks) i ≡ Some k
next_behind ks n i k is =
    let within : i < length (drop n ks) = omega (arith, length-drop n ks, slice_get_within ks (n + i) k is) in
    slice_get-get_or (drop n ks) i k within
    ∙ ap Some (get_or-drop n ks i k ∙ get_or_from_slice_get ks (n + i) k k is)

-- The first of some keys that equals q, as they are looked through.
module _ {K : Type 0} (eq : K → K → Bool) (q : K) where
  place_last : (ks : List K) (k : K) → place eq (ks ++ k ∷ []) q ≡ option_or (place eq ks q) (cond (eq k q) (Some (length ks)) None)
  place_last [] k = refl
  place_last (l ∷ ks) k = ap (λ o. cond (eq l q) (Some 0) (option_map suc o)) (place_last ks k) ∙ by (eq l q) (place eq ks q) (eq k q)
    where
      by : (a : Bool) (o : Option ℕ) (b : Bool) → cond a (Some 0) (option_map suc (option_or o (cond b (Some (length ks)) None))) ≡ option_or (cond a (Some 0) (option_map suc o)) (cond b (Some (suc (length ks))) None)
      by true o b = refl
      by false (Some n) b = refl
      by false None true = refl
      by false None false = refl

  pub passed : (ks after : List K) (k : K) → after ≡ ks ++ k ∷ [] → place eq ks q ≡ None → eq k q ≡ false → place eq after q ≡ None
  passed ks after k more none e =
      ap (λ l. place eq l q) more ∙ place_last ks k ∙ (λ j. option_or (none j) (cond (e j) (Some (length ks)) None))

  met_at : (ks : List K) (k : K) (i n : ℕ) → i < n → i < length ks → k ≡ get_or ks i k → eq k q ≡ true → place eq (take i ks) q ≡ None → place eq (take n ks) q ≡ Some i
  met_at [] k i n before within is e none = absurd (omega (arith, within))
  met_at (l ∷ ks) k i zero before within is e none = absurd (omega (arith, before))
  met_at (l ∷ ks) k zero (suc n) before within is e none =
      ap (λ b. cond b (Some 0) (option_map suc (place eq (take n ks) q))) (ap (λ l. eq l q) (sym is) ∙ e)
  met_at (l ∷ ks) k (suc i) (suc n) before within is e none =
      let parts = split_none (place eq (take i ks) q) (eq l q) none in
      ap (λ b. cond b (Some 0) (option_map suc (place eq (take n ks) q))) parts.0
      ∙ ap (option_map suc) (met_at ks k i n (omega (arith, before)) (omega (arith, within)) is e parts.1)

  pub met : (ks : List K) (k : K) (i n : ℕ) → i < n → slice_get ks i ≡ Some k → eq k q ≡ true → place eq (take i ks) q ≡ None → place eq (take n ks) q ≡ Some i
  met ks k i n before is e none =
      met_at ks k i n before (slice_get_within ks i k is) (sym (get_or_from_slice_get ks i k k is)) e none

module _ {K : Type 0} {eq : K → K → Bool} (laws : IsEquivalence eq) where
  place_same : (there : List K) (k q : K) → eq k q ≡ true → place eq there k ≡ place eq there q
  place_same [] k q e = refl
  place_same (l ∷ there) k q e =
      let here : eq l k ≡ eq l q = laws.symm l k ∙ laws.congr k q l e ∙ laws.symm q l in
      λ j. cond (here j) (Some 0) (option_map suc (place_same there k q e j))

  pub any_more : (ks after : List K) (k q : K) → after ≡ ks ++ k ∷ [] → cond (eq k q) true (list_any (eq q) ks) ≡ list_any (eq q) after
  any_more ks after k q more =
      by (eq k q) (list_any (eq q) ks) ∙ ap (λ b. list_any (eq q) ks || (b || false)) (laws.symm k q)
      ∙ sym (list_any-append (eq q) ks (k ∷ [])) ∙ ap (list_any (eq q)) (sym more)
    where
      by : (a b : Bool) → cond a true b ≡ b || (a || false)
      by true true = refl
      by true false = refl
      by false true = refl
      by false false = refl

  -- one more of the new keys was looked for
  pub sought_more : (there ks after : List K) (k q : K) (was is : Option ℕ) → after ≡ ks ++ k ∷ [] → was ≡ cond (list_any (eq q) ks) (place eq there q) None → is ≡ cond (eq k q) (place eq there k) was → is ≡ cond (list_any (eq q) after) (place eq there q) None
  sought_more there ks after k q was is more before now =
      now ∙ by (eq k q) refl ∙ ap (λ b. cond b (place eq there q) None) (any_more ks after k q more)
    where
      by : (b : Bool) → eq k q ≡ b → cond b (place eq there k) was ≡ cond (cond b true (list_any (eq q) ks)) (place eq there q) None
      by true e = place_same there k q e
      by false e = before

  -- it has no place, so nothing was written for it
  pub none_sought : (there ks : List K) (k q : K) (was : Option ℕ) → was ≡ cond (list_any (eq q) ks) (place eq there q) None → place eq there k ≡ None → was ≡ cond (eq k q) (place eq there k) was
  none_sought there ks k q was before none = by (eq k q) refl (list_any (eq q) ks) before
    where
      by : (b : Bool) → eq k q ≡ b → (a : Bool) → was ≡ cond a (place eq there q) None → was ≡ cond b (place eq there k) was
      by true e true w = w ∙ sym (place_same there k q e)
      by true e false w = w ∙ sym none
      by false e a w = refl

  -- a key was met that is one of the new ones, or that isn't
  pub met_more : (new ks after : List K) (k q : K) (was : Option ℕ) (n : ℕ) → after ≡ ks ++ k ∷ [] → n ≡ length ks → list_any (eq k) new ≡ true → was ≡ cond (list_any (eq q) new) (place eq ks q) None → option_or was (cond (eq k q) (Some n) None) ≡ cond (list_any (eq q) new) (place eq after q) None
  met_more new ks after k q was n more at is before = by (list_any (eq q) new) (eq k q) refl refl before
    where
      by : (a b : Bool) → list_any (eq q) new ≡ a → eq k q ≡ b → was ≡ cond a (place eq ks q) None → option_or was (cond b (Some n) None) ≡ cond a (place eq after q) None
      by true b a e w =
          (λ j. option_or (w j) (cond (sym e j) (Some (at j)) None)) ∙ sym (place_last eq q ks k) ∙ ap (λ l. place eq l q) (sym more)
      by false true a e w = absurd (true≢false (sym is ∙ list_any_congr laws k q new e ∙ a))
      by false false a e w = ap (λ o. option_or o None) w

  pub met_other : (new ks after : List K) (k q : K) (was : Option ℕ) → after ≡ ks ++ k ∷ [] → list_any (eq k) new ≡ false → was ≡ cond (list_any (eq q) new) (place eq ks q) None → was ≡ cond (list_any (eq q) new) (place eq after q) None
  met_other new ks after k q was more not before = by (list_any (eq q) new) (eq k q) refl refl before
    where
      by : (a b : Bool) → list_any (eq q) new ≡ a → eq k q ≡ b → was ≡ cond a (place eq ks q) None → was ≡ cond a (place eq after q) None
      by true true a e w = absurd (true≢false (sym a ∙ sym (list_any_congr laws k q new e) ∙ not))
      by true false a e w =
          w ∙ or_none (place eq ks q) ∙ (λ j. option_or (place eq ks q) (cond (sym e j) (Some (length ks)) None))
          ∙ sym (place_last eq q ks k) ∙ ap (λ l. place eq l q) (sym more)
      by false b a e w = w

  -- a new key that is not there yet came behind the others
  pub came_more : (new there after : List K) (k q : K) (was : Option ℕ) (n : ℕ) → after ≡ there ++ k ∷ [] → n ≡ length there → list_any (eq k) new ≡ true → place eq there k ≡ None → was ≡ cond (list_any (eq q) new) (place eq there q) None → cond (eq k q) (Some n) was ≡ cond (list_any (eq q) new) (place eq after q) None
  came_more new there after k q was n more at is absent before = by (list_any (eq q) new) (eq k q) refl refl before
    where
      here : place eq after q ≡ cond (eq k q) (Some (length there)) (place eq there q)
      here = ap (λ l. place eq l q) more ∙ place_push laws there k q absent

      by : (a b : Bool) → list_any (eq q) new ≡ a → eq k q ≡ b → was ≡ cond a (place eq there q) None → cond b (Some n) was ≡ cond a (place eq after q) None
      by true true a e w = ap Some at ∙ (λ j. cond (sym e j) (Some (length there)) (place eq there q)) ∙ sym here
      by true false a e w = w ∙ (λ j. cond (sym e j) (Some (length there)) (place eq there q)) ∙ sym here
      by false true a e w = absurd (true≢false (sym is ∙ list_any_congr laws k q new e ∙ a))
      by false false a e w = w

  -- a new key that is there was written over, and got its place back
  pub put_back : (new there : List K) (k q : K) (was : Option ℕ) (n m : ℕ) → list_any (eq k) new ≡ true → place eq there k ≡ Some n → was ≡ cond (list_any (eq q) new) (place eq there q) None → cond (eq k q) (Some n) (cond (eq k q) (Some m) was) ≡ was
  put_back new there k q was n m is present before = by (eq k q) refl
    where
      by : (b : Bool) → eq k q ≡ b → cond b (Some n) (cond b (Some m) was) ≡ was
      by true e =
          sym present ∙ place_same there k q e
          ∙ ap (λ b. cond b (place eq there q) None) (sym is ∙ list_any_congr laws k q new e) ∙ sym before
      by false e = refl

  -- each of the new keys is one of them
  pub is_new : (new : List K) (i : ℕ) (k : K) → slice_get new i ≡ Some k → list_any (eq k) new ≡ true
  is_new new i k is =
      list_any_at (eq k) new i k (slice_get_within new i k is) (ap (eq k) (get_or_from_slice_get new i k k is) ∙ laws.refl k)

-- Maps from keys to places

no_place : (o : Option ℕ) → is_some o ≡ false → o ≡ None
no_place None e = refl
no_place (Some n) e = absurd (true≢false e)

or_other : (o other : Option ℕ) → is_some o ≡ true → o ≡ option_or o other
or_other None other e = absurd (true≢false (sym e))
or_other (Some n) other e = refl

ties : (o : Ordering) → is_eq o ≡ true → o ≡ Equal
ties Less e = absurd (true≢false (sym e))
ties Equal e = refl
ties Greater e = absurd (true≢false (sym e))

-- equal keys have one place
known_same : (known : BTreeMap ByContents ℕ) (k q : ByContents) → same (view k.0.now) (view q.0.now) ≡ true → place_known known k ≡ place_known known q
known_same known k q e =
    let tied : compare (view k.0.now) (view q.0.now) ≡ Equal = ties _ (sym (same_tied (view k.0.now) (view q.0.now)) ∙ e) in
    λ j. get_by (λ (x : ByContents). compare_total.congr (view k.0.now) (view q.0.now) (view x.0.now) tied j) known

-- a key had no place, and this is written for it
pub first_kept : (before after : BTreeMap ByContents ℕ) (k q : ByContents) (n : ℕ) → is_some (place_known before k) ≡ false → place_known after q ≡ cond (is_eq (compare (view k.0.now) (view q.0.now))) (Some n) (place_known before q) → place_known after q ≡ option_or (place_known before q) (cond (same (view k.0.now) (view q.0.now)) (Some n) None)
first_kept before after k q n new now =
    now ∙ ap (λ b. cond b (Some n) (place_known before q)) (sym (same_tied (view k.0.now) (view q.0.now)))
    ∙ by (same (view k.0.now) (view q.0.now)) refl
  where
    by : (b : Bool) → same (view k.0.now) (view q.0.now) ≡ b → cond b (Some n) (place_known before q) ≡ option_or (place_known before q) (cond b (Some n) None)
    by true e = ap (λ o. option_or o (Some n)) (sym (no_place _ new) ∙ known_same before k q e)
    by false e = or_none (place_known before q)

-- a key has a place, and keeps it
pub first_stays : (known : BTreeMap ByContents ℕ) (k q : ByContents) (n : ℕ) → is_some (place_known known k) ≡ true → place_known known q ≡ option_or (place_known known q) (cond (same (view k.0.now) (view q.0.now)) (Some n) None)
first_stays known k q n there = by (same (view k.0.now) (view q.0.now)) refl
  where
    by : (b : Bool) → same (view k.0.now) (view q.0.now) ≡ b → place_known known q ≡ option_or (place_known known q) (cond b (Some n) None)
    by true e = or_other (place_known known q) (Some n) (ap is_some (sym (known_same known k q e)) ∙ there)
    by false e = or_none (place_known known q)
