-- Parts of lists, and lists that have an element.
use Rattle.std.proofs.Common.{◌≡◌, ℕ, ◌+◌, ◌-◌, ◌<◌, ◌≤◌, List, [], ◌∷◌, ◌++◌, length, get_or, take, drop, sym, ap, ◌∙◌, inl, inr, arith}
use Rattle.std.specs.List.{All, slice_range}
use Rattle.std.specs.List.Sorted.{IsStrictlyIncreasing}
use Rattle.std.proofs.lemmas.Bool.{cases_lt}
use Rattle.std.proofs.lemmas.List.{drop-append-le, take-append-le, length-drop, length_push, get_or_append_left, get_or_push, drop_at, take_all, take-take, take-append-drop, drop-take}
use Rattle.std.proofs.lemmas.List.Elements.{All-head}

module _ {X : Type 0} where
  -- what follows from an element follows where there is one
  pub from_some : (P Q : X → Type 0) (R : Type 0) → ((x : X) → P x → Q x → R) → (xs : List X) → 0 < length xs → All P xs → All Q xs → R
  from_some P Q R follows [] some p q = absurd (omega arith)
  from_some P Q R follows (x ∷ xs) some p q = follows x (All-head P x xs p) (All-head Q x xs q)

  -- a part of the front is the same part of the whole
  pub part_of_front : (xs ys : List X) (start len : ℕ) → start + len ≤ length xs
      → slice_range (xs ++ ys) start (start + len) ≡ slice_range xs start (start + len)
  part_of_front xs ys start len within =
      let room : start + len - start ≤ length (drop start xs) = omega (arith, length-drop start xs) in
      ap (take (start + len - start)) (drop-append-le start xs ys (omega arith))
      ∙ take-append-le (start + len - start) (drop start xs) ys room

  -- the part behind the front
  pub part_behind : (xs ys : List X) (start len : ℕ) → start ≡ length xs → len ≡ length ys → slice_range (xs ++ ys) start (start + len) ≡ ys
  part_behind xs ys start len begins long =
      let all : length ys ≤ start + len - start = omega arith in
      ap (take (start + len - start)) (drop_at xs ys start (sym begins)) ∙ take_all (start + len - start) ys all

  pub take_add : (n m : ℕ) (xs : List X) → take (n + m) xs ≡ take n xs ++ take m (drop n xs)
  take_add n m xs =
      let front : take n (take (n + m) xs) ≡ take n xs = take-take n (n + m) xs (omega arith) in
      sym (take-append-drop n (take (n + m) xs)) ∙ ap (λ l. l ++ drop n (take (n + m) xs)) front ∙ ap (λ l. take n xs ++ l) (drop-take n m xs)

-- a larger number behind numbers that ascend
pub increasing_push : (xs : List ℕ) (n : ℕ) → IsStrictlyIncreasing xs → All (λ x. x < n) xs → IsStrictlyIncreasing (xs ++ n ∷ [])
increasing_push xs n up below i within =
    let long : length (xs ++ n ∷ []) ≡ length xs + 1 = length_push xs n in
    let here : get_or (xs ++ n ∷ []) i 0 ≡ get_or xs i 0 = get_or_append_left xs (n ∷ []) 0 i (omega arith) in
    elim (cases_lt (i + 1) (length xs)) [
      | inl inside ↦
          let next : get_or (xs ++ n ∷ []) (i + 1) 0 ≡ get_or xs (i + 1) 0 = get_or_append_left xs (n ∷ []) 0 (i + 1) inside in
          omega (arith, up i inside)
      | inr past ↦
          let next : get_or (xs ++ n ∷ []) (i + 1) 0 ≡ n = get_or_push xs n 0 (i + 1) (omega arith) in
          omega (arith, below i 0 (omega arith))
    ]
