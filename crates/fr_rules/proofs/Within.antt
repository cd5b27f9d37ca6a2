-- A text begins with another, or has it further on, just where the tests of std say so.
use Rattle.std.proofs.Common.{◌≡◌, ◌↔◌, ℕ, Bool, true, false, ◌&&◌, ◌||◌, eqb, List, [], ◌∷◌, ◌++◌, refl, sym, ap, ◌∙◌, inl, inr}
use Rattle.std.specs.List.{starts_with}
use Rattle.std.specs.Str.Iter.{HasSubslice}
use Rattle.std.proofs.lemmas.Bool.{eqb-true, and_parts, or_cases, true≢false, eq-eqb}
use Rattle.fr_shape.specs.Validators.{begins_with, is_within}

-- by bytes, as std's slices test it
pub begins-starts : (beginning bytes : List ℕ) → begins_with beginning bytes ≡ starts_with eqb bytes beginning
begins-starts [] bytes = refl
begins-starts (b ∷ beginning) [] = refl
begins-starts (b ∷ beginning) (c ∷ bytes) = ap (λ t. eqb b c && t) (begins-starts beginning bytes)

-- a list begins with what it is the continuation of
begins_continued : (part rest : List ℕ) → begins_with part (part ++ rest) ≡ true
begins_continued [] rest = refl
begins_continued (b ∷ part) rest = ap (λ t. t && begins_with part (part ++ rest)) (eq-eqb b b refl) ∙ begins_continued part rest

or_true : (t : Bool) → (t || true) ≡ true
or_true true = refl
or_true false = refl

is_within-begins : (part bytes : List ℕ) → begins_with part bytes ≡ true → is_within part bytes ≡ true
is_within-begins part [] begins = begins
is_within-begins part (b ∷ bytes) begins = ap (λ t. t || is_within part bytes) begins

is_within-placed : (part front rest : List ℕ) → is_within part (front ++ (part ++ rest)) ≡ true
is_within-placed part [] rest = is_within-begins part (part ++ rest) (begins_continued part rest)
is_within-placed part (b ∷ front) rest =
    ap (λ t. begins_with part (b ∷ (front ++ (part ++ rest))) || t) (is_within-placed part front rest)
    ∙ or_true (begins_with part (b ∷ (front ++ (part ++ rest))))

begins_split : (part bytes : List ℕ) → begins_with part bytes ≡ true → (rest : List ℕ) × (bytes ≡ part ++ rest)
begins_split [] bytes begins = (bytes, refl)
begins_split (b ∷ part) [] begins = absurd (true≢false (sym begins))
begins_split (b ∷ part) (c ∷ bytes) begins =
    let both = and_parts (eqb b c) (begins_with part bytes) begins in
    let split = begins_split part bytes both.1 in
    (split.0, ap (λ d. d ∷ bytes) (sym (eqb-true b c both.0)) ∙ ap (λ bs. b ∷ bs) split.1)

within_split : (part bytes : List ℕ) → is_within part bytes ≡ true → HasSubslice bytes part
within_split part [] within = let split = begins_split part [] within in ([], split.0, split.1)
within_split part (b ∷ bytes) within =
    elim (or_cases (begins_with part (b ∷ bytes)) (is_within part bytes) within) [
      | inl here ↦ let split = begins_split part (b ∷ bytes) here in ([], split.0, split.1)
      | inr later ↦
          let split = within_split part bytes later in
          (b ∷ split.0, split.1, ap (λ bs. b ∷ bs) split.2)
    ]

-- an answer that is true just where the part stands in the bytes
pub within_tells : (answer : Bool) (part bytes : List ℕ) → ((answer ≡ true) ↔ HasSubslice bytes part) → answer ≡ is_within part bytes
within_tells true part bytes tells =
    let place = tells.0 refl in
    sym (ap (is_within part) place.2 ∙ is_within-placed part place.0 place.1)
within_tells false part bytes tells =
    elim (is_within part bytes) as (λ t. is_within part bytes ≡ t → false ≡ t) [
      | true ↦ λ within. absurd (true≢false (sym (tells.1 (within_split part bytes within))))
      | false ↦ λ _. refl
    ] refl
