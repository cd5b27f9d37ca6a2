-- Lines, and what iterators give.
use Rattle.std.proofs.Common.{◌≡◌, ℕ, ◌+◌, ◌<◌, Bool, true, false, cond, not, ◌||◌, List, [], ◌∷◌, length, Option, Some, None, MatchOption, is_some, refl, sym, ◌∙◌, ap, arith}
use Rattle.std.specs.Borrow.{Bor}
use Rattle.std.specs.Iterator.{AlwaysYields}
use Rattle.std.specs.List.{list_any, position_or_len, before_first, after_first}
use Rattle.std.specs.Option.{option_map}
use Rattle.std.specs.Prelude.{position}
use Rattle.std.proofs.lemmas.Grind.{common_steps}
use Rattle.fr_example.specs.Loading.{says_nothing, has_equals_sign, is_equals_sign, is_no_pair, first_no_pair}

-- What an iterator is to give yet, of which this holds.
pub record IsLeft {S A B : Type 0} (steps : S → Option A → S → Type 0) (v : A → B) (s : S) (So : List B → Type 0) : Type 0 where
  pub rest : List B
  pub yields : AlwaysYields steps v s rest
  pub so : So rest

-- it gave one more
pub record IsLeftAfter {S A B : Type 0} (steps : S → Option A → S → Type 0) (v : A → B) (t : S) (x : A) (So : List B → Type 0) : Type 0 where
  pub rest : List B
  pub yields : AlwaysYields steps v t rest
  pub so : So (v x ∷ rest)

module _ {S A B : Type 0} (steps : S → Option A → S → Type 0) (v : A → B) (So : List B → Type 0) (s t : S) where
  one_given : (rest : List B) (x : A) → AlwaysYields steps v s rest → So rest → steps s (Some x) t → IsLeftAfter steps v t x So
  one_given [] x yields so step = absurd (yields x t step)
  one_given (y ∷ rest) x yields so step = record {
    rest = rest;
    yields = (yields.1 x t step).1;
    so = rw (yields.1 x t step).0 so;
  }

  pub left_after : (x : A) → IsLeft steps v s So → steps s (Some x) t → IsLeftAfter steps v t x So
  left_after x left step = one_given left.rest x left.yields left.so step

  none_given : (rest : List B) → AlwaysYields steps v s rest → So rest → steps s None t → So []
  none_given [] yields so step = so
  none_given (y ∷ rest) yields so step = absurd (yields.0 t step)

  -- it gave all
  pub left_none : IsLeft steps v s So → steps s None t → So []
  left_none left step = none_given left.rest left.yields left.so step

-- where the first `=` is, if there is one

module _ (p : ℕ → Bool) where
  any_if_below : (bs : List ℕ) → position_or_len p bs < length bs → list_any p bs ≡ true
  any_if_below [] below = absurd (omega arith)
  any_if_below (b ∷ bs) below = go (p b) (any_if_below bs) below
    where
      go : (passes : Bool) → (position_or_len p bs < length bs → list_any p bs ≡ true)
          → cond (not passes) (1 + position_or_len p bs) 0 < length (b ∷ bs) → passes || list_any p bs ≡ true
      go true again below = refl
      go false again below = again (omega arith)

  none_if_all : (bs : List ℕ) → position_or_len p bs ≡ length bs → list_any p bs ≡ false
  none_if_all [] all = refl
  none_if_all (b ∷ bs) all = go (p b) (none_if_all bs) all
    where
      go : (passes : Bool) → (position_or_len p bs ≡ length bs → list_any p bs ≡ false)
          → cond (not passes) (1 + position_or_len p bs) 0 ≡ length (b ∷ bs) → passes || list_any p bs ≡ false
      go true again all = absurd (omega arith)
      go false again all = again (omega arith)

abbrev pub IsParted : List ℕ → Option (Bor (List ℕ) × Bor (List ℕ)) → Type 0
IsParted line parts =
    MatchOption parts (position_or_len is_equals_sign line ≡ length line)
    (λ x. (position_or_len is_equals_sign line < length line) × (x.0.now ≡ before_first is_equals_sign line)
    × (x.1.now ≡ after_first is_equals_sign line))

-- where a line that says something isn't parted, it is no pair
pub no_pair_is : (line : List ℕ) (parts : Option (Bor (List ℕ) × Bor (List ℕ))) (none : Bool) → says_nothing line ≡ false → IsParted line parts
    → is_some parts ≡ not none → none ≡ is_no_pair line
no_pair_is line parts none says parted told =
    which parts none told parted ∙ ap (λ (nothing : Bool). not (nothing || has_equals_sign line)) (sym says)
  where
    which : (parts : Option (Bor (List ℕ) × Bor (List ℕ))) (none : Bool) → is_some parts ≡ not none → IsParted line parts
        → none ≡ not (has_equals_sign line)
    which None true told all = ap not (sym (none_if_all is_equals_sign line all))
    which None false told all = cc
    which (Some x) true told below = cc
    which (Some x) false told below = ap not (sym (any_if_below is_equals_sign line below.0))

pub parted_has : (line : List ℕ) (x : Bor (List ℕ) × Bor (List ℕ)) → IsParted line (Some x) → has_equals_sign line ≡ true
parted_has line x parted = any_if_below is_equals_sign line parted.0

pub unparted_has : (line : List ℕ) → IsParted line None → has_equals_sign line ≡ false
unparted_has line none = none_if_all is_equals_sign line none

-- the first line that is no pair, among those from a number on

abbrev pub found_from : ℕ → List (List ℕ) → Option ℕ
found_from n lines = option_map (λ before. n + before + 1) (position is_no_pair lines)

found_all : (lines : List (List ℕ)) → found_from 0 lines ≡ first_no_pair lines
found_all lines = go (position is_no_pair lines)
  where
    go : (found : Option ℕ) → option_map (λ before. 0 + before + 1) found ≡ option_map (λ before. before + 1) found
    go None = refl
    go (Some before) = ap (λ (n : ℕ). Some n) (omega arith)

pub found_at_start : (n : ℕ) (lines : List (List ℕ)) → n ≡ 0 → found_from n lines ≡ first_no_pair lines
found_at_start n lines e = ap (λ (m : ℕ). found_from m lines) e ∙ found_all lines

pub found_here : (n : ℕ) (line : List ℕ) (lines : List (List ℕ)) → is_no_pair line ≡ true → found_from n (line ∷ lines) ≡ Some (n + 1)
found_here n line lines e = rw e (grind (arith, common_steps))

pub found_later : (n : ℕ) (line : List ℕ) (lines : List (List ℕ)) → is_no_pair line ≡ false
    → found_from n (line ∷ lines) ≡ found_from (n + 1) lines
found_later n line lines e = rw e (grind (arith, common_steps))
