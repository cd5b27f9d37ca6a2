-- The places of one range of keys among sorted ones.
use Rattle.std.proofs.Common.{◌≡◌, ℕ, zero, suc, ◌+◌, ◌-◌, ◌<◌, ◌≤◌, Bool, true, false, cond, List, [], ◌∷◌, length, get_or, take, drop, ltb, refl, sym, ◌∙◌, ap, subst, arith}
use Rattle.fr_store.specs.Common.{IsNonDecreasingBy, StoredPlace, filter, is_between, key_of}
use Rattle.std.specs.List.Sorted.{IsPartitionPoint}
use borrow.Author.Tests.{ltb-true, ltb-false}
use Rattle.std.proofs.lemmas.Bool.{lt-ltb, le-ltb}
use Rattle.std.proofs.lemmas.List.{take_rest, get_or_default, get_or-drop, length-drop}
use Rattle.fr_store.proofs.PairLaws.{filter_none}

-- What the test says.

pub between_is : (from to : ℕ) (place : StoredPlace) → from ≤ key_of place → key_of place < to → is_between from to place ≡ true
between_is from to place low high =
    ap (λ (b : Bool). cond b false (ltb (key_of place) to)) (le-ltb (key_of place) from low)
    ∙ lt-ltb (key_of place) to high

pub between_told : (from to : ℕ) (place : StoredPlace) → is_between from to place ≡ true
    → (from ≤ key_of place) × (key_of place < to)
between_told from to place is = go (ltb (key_of place) from) refl is
  where
    go : (b : Bool) → ltb (key_of place) from ≡ b → cond b false (ltb (key_of place) to) ≡ true
        → (from ≤ key_of place) × (key_of place < to)
    go true e h = absurd (cc)
    go false e h = (ltb-false (key_of place) from e, ltb-true (key_of place) to h)

pub too_low : (from to : ℕ) (place : StoredPlace) → key_of place < from → is_between from to place ≡ false
too_low from to place h = ap (λ (b : Bool). cond b false (ltb (key_of place) to)) (lt-ltb (key_of place) from h)

pub too_high : (from to : ℕ) (place : StoredPlace) → to ≤ key_of place → is_between from to place ≡ false
too_high from to place h = go (ltb (key_of place) from)
  where
    go : (b : Bool) → cond b false (ltb (key_of place) to) ≡ false
    go true = refl
    go false = le-ltb (key_of place) to h

-- nothing is in no range
pub between_none : (from : ℕ) (places : List StoredPlace) → filter (is_between from from) places ≡ []
between_none from places =
    filter_none (is_between from from) places (λ i d h. go (get_or places i d) (ltb (key_of (get_or places i d)) from) refl)
  where
    go : (place : StoredPlace) (b : Bool) → ltb (key_of place) from ≡ b → is_between from from place ≡ false
    go place true e = ap (λ (c : Bool). cond c false (ltb (key_of place) from)) e
    go place false e = ap (λ (c : Bool). cond c false (ltb (key_of place) from)) e ∙ e

-- The range in sorted places.

-- what is lower comes before
pub run_from : (from to : ℕ) (places : List StoredPlace) (start : ℕ)
    → ((i : ℕ) (d : StoredPlace) → i < start → i < length places → key_of (get_or places i d) < from)
    → filter (is_between from to) (drop start places) ≡ filter (is_between from to) places
run_from from to places zero low = refl
run_from from to [] (suc start) low = refl
run_from from to (p ∷ places) (suc start) low =
    run_from from to places start (λ i d h within. low (suc i) d (omega arith) (omega arith))
    ∙ ap (λ (b : Bool). cond b (p ∷ filter (is_between from to) places) (filter (is_between from to) places))
    (sym (too_low from to p (low 0 p (omega arith) (omega arith))))

-- at the first one that is higher it is over
pub run_over : (from to : ℕ) (places : List StoredPlace) (start i : ℕ) (e : StoredPlace) → IsNonDecreasingBy key_of places
    → i < length (drop start places) → to ≤ key_of (get_or (drop start places) i e)
    → filter (is_between from to) (drop i (drop start places)) ≡ []
run_over from to places start i e up within high =
    filter_none (is_between from to) (drop i (drop start places)) (λ j d h.
    let long : length (drop i (drop start places)) ≡ length places - start - i
    = omega (arith, length-drop i (drop start places), length-drop start places) in
    let inside : start + (i + j) < length places = omega (arith, length-drop start places) in
    let at_j : get_or (drop i (drop start places)) j d ≡ get_or places (start + (i + j)) d
    = get_or-drop i (drop start places) j d ∙ get_or-drop start places (i + j) d in
    let at_i : get_or (drop start places) i e ≡ get_or places (start + i) d
    = get_or-drop start places i e ∙ get_or_default places (start + i) e d (omega arith) in
    let here : to ≤ key_of (get_or places (start + i) d) = subst (λ (p : StoredPlace). to ≤ key_of p) at_i high in
    let later : key_of (get_or places (start + i) d) ≤ key_of (get_or places (start + (i + j)) d)
    = up (start + i) (start + (i + j)) d (omega arith) inside in
    let there : to ≤ key_of (get_or places (start + (i + j)) d) = omega arith in
    too_high from to (get_or (drop i (drop start places)) j d) (subst (λ (p : StoredPlace). to ≤ key_of p) (sym at_j) there))

module _ (from to : ℕ) (places : List StoredPlace) (start : ℕ)
    (point : IsPartitionPoint (λ (p : StoredPlace). ltb (key_of p) from ≡ true)
    (λ (p : StoredPlace). ltb (key_of p) from ≡ false) places start) where
  abbrev pub ahead : List StoredPlace
  ahead = take (length places - start) (drop start places)

  pub run_ahead : filter (is_between from to) ahead ≡ filter (is_between from to) places
  run_ahead =
      ap (λ (l : List StoredPlace). filter (is_between from to) l) (take_rest places start)
      ∙ run_from from to places start (λ i d h within. ltb-true (key_of (get_or places i d)) from (point.0 i d (omega arith) h))

  pub run_ends : (i : ℕ) (e : StoredPlace) → IsNonDecreasingBy key_of places → i < length ahead
      → to ≤ key_of (get_or ahead i e) → filter (is_between from to) (drop i ahead) ≡ []
  run_ends i e up within high =
      ap (λ (l : List StoredPlace). filter (is_between from to) (drop i l)) (take_rest places start)
      ∙ run_over from to places start i e up (subst (λ (l : List StoredPlace). i < length l) (take_rest places start) within)
      (subst (λ (l : List StoredPlace). to ≤ key_of (get_or l i e)) (take_rest places start) high)

  -- until then each is in it
  pub run_on : (i : ℕ) (e : StoredPlace) → i < length ahead → key_of (get_or ahead i e) < to
      → is_between from to (get_or ahead i e) ≡ true
  run_on i e within less =
      let inside : i < length (drop start places) = subst (λ (l : List StoredPlace). i < length l) (take_rest places start) within in
      let at : get_or ahead i e ≡ get_or places (start + i) e
      = ap (λ (l : List StoredPlace). get_or l i e) (take_rest places start) ∙ get_or-drop start places i e in
      let low : from ≤ key_of (get_or places (start + i) e) = ltb-false (key_of (get_or places (start + i) e)) from
      (point.1 (start + i) e (omega arith) (omega (arith, length-drop start places))) in
      between_is from to (get_or ahead i e) (subst (λ (p : StoredPlace). from ≤ key_of p) (sym at) low) less
