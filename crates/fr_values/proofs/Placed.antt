-- Keys that come one after the other, and their places.
use Rattle.std.proofs.Common.{◌≡◌, ℕ, suc, ◌+◌, ◌<◌, Bool, true, false, true≢false, cond, List, [], ◌∷◌, ◌++◌, length, take, drop, get_or, Option, Some, None, unwrap_or, refl, sym, ap, ◌∙◌}
use Rattle.std.specs.Prelude.{option_map}
use Rattle.std.proofs.lemmas.List.{take_more, drop_more, append_assoc}
use Rattle.std.specs.Cmp.{IsEquivalence}
use Rattle.fr_values.specs.Common.{place, places_of, with_new_key}

-- the distinct keys when more have come
abbrev pub keys_after : {K : Type 0} → (eq : K → K → Bool) → List K → List K → List K
keys_after eq there [] = there
keys_after eq there (k ∷ ks) = keys_after eq (with_new_key eq there k) ks

pub keys_after_push : {K : Type 0} (eq : K → K → Bool) (there ks : List K) (k : K) → keys_after eq there (ks ++ k ∷ []) ≡ with_new_key eq (keys_after eq there ks) k
keys_after_push eq there [] k = refl
keys_after_push eq there (l ∷ ks) k = keys_after_push eq (with_new_key eq there l) ks k

-- what comes before
pub split_none : (n : Option ℕ) (b : Bool) → cond b (Some 0) (option_map suc n) ≡ None → (b ≡ false) × (n ≡ None)
split_none n true e = absurd (cc e)
split_none None false e = (refl, refl)
split_none (Some n) false e = absurd (cc e)

-- a key that is not there comes behind the others
pub with_key_absent : {K : Type 0} (eq : K → K → Bool) (there : List K) (k : K) → place eq there k ≡ None → with_new_key eq there k ≡ there ++ k ∷ []
with_key_absent eq [] k absent = refl
with_key_absent eq (l ∷ there) k absent =
    let parts = split_none (place eq there k) (eq l k) absent in
    ap (λ b. cond b (l ∷ there) (l ∷ with_new_key eq there k)) parts.0 ∙ ap (λ ks. l ∷ ks) (with_key_absent eq there k parts.1)

-- one that is there changes nothing
pub with_key_present : {K : Type 0} (eq : K → K → Bool) (there : List K) (k : K) (n : ℕ) → place eq there k ≡ Some n → with_new_key eq there k ≡ there
with_key_present eq [] k n present = absurd (cc present)
with_key_present eq (l ∷ there) k n present = by (λ m. with_key_present eq there k m) (eq l k) refl
  where
    rest : ((m : ℕ) → place eq there k ≡ Some m → with_new_key eq there k ≡ there) → (m : Option ℕ) → place eq there k ≡ m → option_map suc m ≡ Some n → with_new_key eq there k ≡ there
    rest more None is e = absurd (cc e)
    rest more (Some m) is e = more m is

    by : ((m : ℕ) → place eq there k ≡ Some m → with_new_key eq there k ≡ there) → (b : Bool) → eq l k ≡ b → with_new_key eq (l ∷ there) k ≡ l ∷ there
    by more true e = ap (λ b. cond b (l ∷ there) (l ∷ with_new_key eq there k)) e
    by more false e =
        ap (λ b. cond b (l ∷ there) (l ∷ with_new_key eq there k)) e
        ∙ ap (λ ks. l ∷ ks) (rest more (place eq there k) refl (sym (ap (λ b. cond b (Some 0) (option_map suc (place eq there k))) e) ∙ present))

module _ {K : Type 0} {eq : K → K → Bool} (laws : IsEquivalence eq) where
  -- where a key is that came behind the others
  pub place_push : (there : List K) (k q : K) → place eq there k ≡ None → place eq (there ++ k ∷ []) q ≡ cond (eq k q) (Some (length there)) (place eq there q)
  place_push [] k q absent = refl
  place_push (l ∷ there) k q absent =
      let parts = split_none (place eq there k) (eq l k) absent in
      ap (λ n. cond (eq l q) (Some 0) (option_map suc n)) (place_push there k q parts.1) ∙ by (eq l q) (eq k q) refl refl parts.0
    where
      by : (a b : Bool) → eq l q ≡ a → eq k q ≡ b → eq l k ≡ false → cond a (Some 0) (option_map suc (cond b (Some (length there)) (place eq there q))) ≡ cond b (Some (suc (length there))) (cond a (Some 0) (option_map suc (place eq there q)))
      by true true lq kq lk = absurd (true≢false (sym (laws.symm l k ∙ laws.congr k q l kq ∙ laws.symm q l ∙ lq) ∙ lk))
      by true false lq kq lk = refl
      by false true lq kq lk = refl
      by false false lq kq lk = refl

-- One more key, the one at i.
module _ {K : Type 0} (eq : K → K → Bool) (keys : List K) (i : ℕ) (k : K) (within : i < length keys) (is : k ≡ get_or keys i k) where
  pub after_more : (base : List K) → keys_after eq base (take (i + 1) keys) ≡ with_new_key eq (keys_after eq base (take i keys)) k
  after_more base =
      ap (keys_after eq base) (take_more keys i k within ∙ ap (λ l. take i keys ++ l ∷ []) (sym is))
      ∙ keys_after_push eq base (take i keys) k

  pub placed_more : (there after : List K) (done new all : List ℕ) (p : ℕ) → new ≡ done ++ p ∷ [] → after ≡ with_new_key eq there k → p ≡ unwrap_or (place eq there k) (length there) → done ++ places_of eq there (drop i keys) ≡ all → new ++ places_of eq after (drop (i + 1) keys) ≡ all
  placed_more there after done new all p pushed came at so =
      ap (λ l. l ++ places_of eq after (drop (i + 1) keys)) pushed ∙
      append_assoc done (p ∷ []) (places_of eq after (drop (i + 1) keys))
      ∙ (λ j. done ++ at j ∷ places_of eq (came j) (drop (i + 1) keys))
      ∙ ap (λ ks. done ++ places_of eq there ks) (sym (drop_more keys i k within ∙ ap (λ l. l ∷ drop (i + 1) keys) (sym is))) ∙ so
