-- What the finished shapes weigh together, and what all shapes of a list weigh.
use Rattle.std.proofs.Common.{◌≡◌, ◌∙◌, ap, sym, refl, subst, ℕ, suc, zero, ◌+◌, ◌≤◌, Bool, true, false, nat_le, leb-true, le-leb, List, [], ◌∷◌, set, replicate, slice_get, arith, Some}
use Rattle.std.specs.List.{Contains, sum_by}
use Rattle.std.proofs.lemmas.List.Sums.{sum_by-cons}
use Rattle.std.proofs.lemmas.Option.{none-some, same_Some}
use Rattle.fr_plan.specs.declared.nodes.NodeId.{NodeId}
use Rattle.fr_plan.specs.declared.outlines.Mark.{Mark}

module _ (weighs : ℕ → ℕ) where
  -- the finished shapes, of which the first mark is that of number k
  abbrev pub finished_weight : ℕ → List Mark → ℕ
  finished_weight k [] = 0
  finished_weight k (Mark.Unseen ∷ marks) = finished_weight (suc k) marks
  finished_weight k (Mark.Building ∷ marks) = finished_weight (suc k) marks
  finished_weight k (Mark.Done node ∷ marks) = weighs k + finished_weight (suc k) marks

  pub begun_weighs : (k : ℕ) (marks : List Mark) (i : ℕ) → slice_get marks i ≡ Some Mark.Unseen
      → finished_weight k (set marks i Mark.Building) ≡ finished_weight k marks
  begun_weighs k [] i at = absurd (none-some Mark.Unseen at)
  begun_weighs k (mark ∷ marks) zero at =
      let P : Mark → Type 0 = λ m. finished_weight (suc k) marks ≡ finished_weight k (m ∷ marks) in
      subst P (sym (same_Some mark Mark.Unseen at)) refl
  begun_weighs k (Mark.Unseen ∷ marks) (suc i) at = begun_weighs (suc k) marks i at
  begun_weighs k (Mark.Building ∷ marks) (suc i) at = begun_weighs (suc k) marks i at
  begun_weighs k (Mark.Done node ∷ marks) (suc i) at =
      ap (λ (n : ℕ). weighs k + n) (begun_weighs (suc k) marks i at)

  pub done_weighs : (k : ℕ) (marks : List Mark) (i : ℕ) (node : NodeId) → slice_get marks i ≡ Some Mark.Building
      → finished_weight k (set marks i (Mark.Done node)) ≡ weighs (k + i) + finished_weight k marks
  done_weighs k [] i node at = absurd (none-some Mark.Building at)
  done_weighs k (mark ∷ marks) zero node at =
      let P : Mark → Type 0 =
      λ m. weighs k + finished_weight (suc k) marks ≡ weighs (k + 0) + finished_weight k (m ∷ marks) in
      let same : k ≡ k + 0 = omega arith in
      subst P (sym (same_Some mark Mark.Building at)) (ap (λ (n : ℕ). weighs n + finished_weight (suc k) marks) same)
  done_weighs k (Mark.Unseen ∷ marks) (suc i) node at =
      let same : suc k + i ≡ k + suc i = omega arith in
      done_weighs (suc k) marks i node at ∙ ap (λ (n : ℕ). weighs n + finished_weight (suc k) marks) same
  done_weighs k (Mark.Building ∷ marks) (suc i) node at =
      let same : suc k + i ≡ k + suc i = omega arith in
      done_weighs (suc k) marks i node at ∙ ap (λ (n : ℕ). weighs n + finished_weight (suc k) marks) same
  done_weighs k (Mark.Done other ∷ marks) (suc i) node at =
      let same : suc k + i ≡ k + suc i = omega arith in
      let rest = done_weighs (suc k) marks i node at in
      let named : weighs (suc k + i) ≡ weighs (k + suc i) = ap weighs same in
      omega (arith, rest, named)

  pub start_weighs : (k n : ℕ) → finished_weight k (replicate n Mark.Unseen) ≡ 0
  start_weighs k zero = refl
  start_weighs k (suc n) = start_weighs (suc k) n

  -- what the shapes of a list weigh that are not below k

  abbrev part : Bool → ℕ → ℕ
  part true n = n
  part false n = 0

  above : ℕ → List ℕ → ℕ
  above k [] = 0
  above k (x ∷ xs) = part (nat_le k x) (weighs x) + above k xs

  part_less : (k x : ℕ) → part (nat_le (suc k) x) (weighs x) ≤ part (nat_le k x) (weighs x)
  part_less k x = by_tests (nat_le (suc k) x) (nat_le k x) refl refl
    where
      by_tests : (b c : Bool) → nat_le (suc k) x ≡ b → nat_le k x ≡ c
          → part b (weighs x) ≤ part c (weighs x)
      by_tests false c more less = omega arith
      by_tests true true more less = omega arith
      by_tests true false more less =
          let high : suc k ≤ x = leb-true (suc k) x more in
          let low : nat_le k x ≡ true = le-leb k x (omega (arith, high)) in
          let both : true ≡ false = sym low ∙ less in
          absurd (cc)

  above_less : (k : ℕ) (ids : List ℕ) → above (suc k) ids ≤ above k ids
  unfolding above
  above_less k [] = omega arith
  above_less k (x ∷ xs) = omega (arith, part_less k x, above_less k xs)

  above_has : (k : ℕ) (ids : List ℕ) → Contains ids k → weighs k + above (suc k) ids ≤ above k ids
  unfolding above
  above_has k [] (i, inside, is) = absurd (omega (arith, inside))
  above_has k (x ∷ xs) (zero, inside, is) =
      let P : ℕ → Type 0 = λ y. weighs k + (part (nat_le (suc k) y) (weighs y) + above (suc k) xs)
      ≤ part (nat_le k y) (weighs y) + above k xs in
      let here : nat_le k k ≡ true = le-leb k k (omega arith) in
      let past : nat_le (suc k) k ≡ false = not_above k in
      subst P (sym is) (rw (here, past) (omega (arith, above_less k xs)))
    where
      not_above : (n : ℕ) → nat_le (suc n) n ≡ false
      not_above n = by_test (nat_le (suc n) n) refl
        where
          by_test : (b : Bool) → nat_le (suc n) n ≡ b → b ≡ false
          by_test true is = absurd (omega (arith, leb-true (suc n) n is))
          by_test false is = refl
  above_has k (x ∷ xs) (suc i, inside, is) =
      let rest : weighs k + above (suc k) xs ≤ above k xs = above_has k xs (i, omega (arith, inside), is) in
      omega (arith, rest, part_less k x)

  above_all : (k : ℕ) (ids : List ℕ) → above k ids ≤ sum_by weighs ids
  unfolding above
  above_all k [] = omega arith
  above_all k (x ∷ xs) = rw (sum_by-cons weighs x xs) (omega (arith, part_at_most (nat_le k x), above_all k xs))
    where
      part_at_most : (b : Bool) → part b (weighs x) ≤ weighs x
      part_at_most true = omega arith
      part_at_most false = omega arith

  finished_above : (ids : List ℕ) (k : ℕ) (marks : List Mark)
      → ((i : ℕ) (node : NodeId) → slice_get marks i ≡ Some (Mark.Done node) → Contains ids (k + i))
      → finished_weight k marks ≤ above k ids
  finished_above ids k [] has = omega arith
  finished_above ids k (mark ∷ marks) has = by_mark mark (λ node is. subst (Contains ids) same_zero (has zero node (ap Some is)))
      (finished_above ids (suc k) marks (λ i node at. subst (Contains ids) (same_suc i) (has (suc i) node at)))
    where
      same_zero : k + 0 ≡ k
      same_zero = omega arith

      same_suc : (i : ℕ) → k + suc i ≡ suc k + i
      same_suc i = omega arith

      by_mark : (mark : Mark) → ((node : NodeId) → mark ≡ Mark.Done node → Contains ids k)
          → finished_weight (suc k) marks ≤ above (suc k) ids → finished_weight k (mark ∷ marks) ≤ above k ids
      by_mark Mark.Unseen here rest = omega (arith, rest, above_less k ids)
      by_mark Mark.Building here rest = omega (arith, rest, above_less k ids)
      by_mark (Mark.Done node) here rest = omega (arith, rest, above_has k ids (here node refl))

  -- the finished shapes weigh no more than all of a list that has them
  pub finished_in : (ids : List ℕ) (marks : List Mark)
      → ((i : ℕ) (node : NodeId) → slice_get marks i ≡ Some (Mark.Done node) → Contains ids i)
      → finished_weight 0 marks ≤ sum_by weighs ids
  finished_in ids marks has =
      let same : (i : ℕ) → i ≡ 0 + i = λ i. omega arith in
      let all : finished_weight 0 marks ≤ above 0 ids =
      finished_above ids 0 marks (λ i node at. subst (Contains ids) (same i) (has i node at)) in
      omega (arith, all, above_all 0 ids)

-- the finished shapes weigh no more by one measure than by another if each of them does
pub finished_less : (f g : ℕ → ℕ) (k : ℕ) (marks : List Mark)
    → ((i : ℕ) (node : NodeId) → slice_get marks i ≡ Some (Mark.Done node) → f (k + i) ≤ g (k + i))
    → finished_weight f k marks ≤ finished_weight g k marks
finished_less f g k [] less = omega arith
finished_less f g k (mark ∷ marks) less =
    by_mark mark
    (λ node is. let P : ℕ → Type 0 = λ n. f n ≤ g n in subst P same_zero (less zero node (ap Some is)))
    (finished_less f g (suc k) marks
    (λ i node at. let P : ℕ → Type 0 = λ n. f n ≤ g n in subst P (same_suc i) (less (suc i) node at)))
  where
    same_zero : k + 0 ≡ k
    same_zero = omega arith

    same_suc : (i : ℕ) → k + suc i ≡ suc k + i
    same_suc i = omega arith

    by_mark : (mark : Mark) → ((node : NodeId) → mark ≡ Mark.Done node → f k ≤ g k)
        → finished_weight f (suc k) marks ≤ finished_weight g (suc k) marks
        → finished_weight f k (mark ∷ marks) ≤ finished_weight g k (mark ∷ marks)
    by_mark Mark.Unseen here rest = rest
    by_mark Mark.Building here rest = rest
    by_mark (Mark.Done node) here rest = omega (arith, rest, here node refl)
