-- What stands at a place of a list after a write or behind an addition, and how many marks are left unseen.
use Rattle.std.proofs.Common.{◌≡◌, ◌≢◌, ap, refl, ℕ, suc, zero, ◌+◌, ◌≤◌, ◌⊎◌, inl, inr, Bool, true, false, List, [], ◌∷◌, ◌++◌, length, set, replicate, arith, Some, slice_get}
use Rattle.std.specs.List.{All, AllZip}
use Rattle.std.proofs.lemmas.Option.{none-some, same_Some}
use Rattle.std.proofs.lemmas.List.Elements.{All-nil, All-cons}
use Rattle.fr_plan.specs.declared.nodes.NodeId.{NodeId}
use Rattle.fr_plan.specs.declared.outlines.Mark.{Mark}

module _ {X : Type 0} where
  -- additions

  pub slice_get_stays : (xs ys : List X) (i : ℕ) (x : X) → slice_get xs i ≡ Some x → slice_get (xs ++ ys) i ≡ Some x
  slice_get_stays [] ys i x at = absurd (none-some x at)
  slice_get_stays (y ∷ xs) ys zero x at = at
  slice_get_stays (y ∷ xs) ys (suc i) x at = slice_get_stays xs ys i x at

  pub slice_get_last : (xs : List X) (x : X) → slice_get (xs ++ x ∷ []) (length xs) ≡ Some x
  slice_get_last [] x = refl
  slice_get_last (y ∷ xs) x = slice_get_last xs x

  pub slice_get_either : (xs : List X) (x : X) (i : ℕ) (y : X) → slice_get (xs ++ x ∷ []) i ≡ Some y
      → (slice_get xs i ≡ Some y) ⊎ (x ≡ y)
  slice_get_either [] x zero y at = inr (same_Some x y at)
  slice_get_either [] x (suc i) y at = absurd (none-some y at)
  slice_get_either (z ∷ xs) x zero y at = inl at
  slice_get_either (z ∷ xs) x (suc i) y at = slice_get_either xs x i y at

  -- writes

  pub slice_get-set_same : (xs : List X) (i : ℕ) (x y : X) → slice_get xs i ≡ Some y → slice_get (set xs i x) i ≡ Some x
  slice_get-set_same [] i x y at = absurd (none-some y at)
  slice_get-set_same (z ∷ xs) zero x y at = refl
  slice_get-set_same (z ∷ xs) (suc i) x y at = slice_get-set_same xs i x y at

  pub slice_get-set_other : (xs : List X) (i j : ℕ) (x : X) → j ≢ i → slice_get (set xs i x) j ≡ slice_get xs j
  slice_get-set_other [] i j x other = refl
  slice_get-set_other (z ∷ xs) zero zero x other = absurd (other refl)
  slice_get-set_other (z ∷ xs) zero (suc j) x other = refl
  slice_get-set_other (z ∷ xs) (suc i) zero x other = refl
  slice_get-set_other (z ∷ xs) (suc i) (suc j) x other = slice_get-set_other xs i j x (λ same. other (ap suc same))

  pub slice_get-replicate : (n i : ℕ) (x y : X) → slice_get (replicate n x) i ≡ Some y → x ≡ y
  slice_get-replicate zero i x y at = absurd (none-some y at)
  slice_get-replicate (suc n) zero x y at = same_Some x y at
  slice_get-replicate (suc n) (suc i) x y at = slice_get-replicate n i x y at

-- lists place by place

module _ {A B : Type 0} (R : A → B → Type 0) where
  pub zip_push : (xs : List A) (ys : List B) (x : A) (y : B) → AllZip R xs ys → R x y
      → AllZip R (xs ++ x ∷ []) (ys ++ y ∷ [])
  zip_push [] [] x y all one = (one, tt)
  zip_push [] (b ∷ ys) x y all one = absurd all
  zip_push (a ∷ xs) [] x y all one = absurd all
  zip_push (a ∷ xs) (b ∷ ys) x y all one = (all.0, zip_push xs ys x y all.1 one)

  pub zip_all : (P : A → Type 0) → ((x : A) (y : B) → R x y → P x) → (xs : List A) (ys : List B) → AllZip R xs ys → All P xs
  zip_all P gives [] [] all = All-nil P
  zip_all P gives [] (b ∷ ys) all = absurd all
  zip_all P gives (a ∷ xs) [] all = absurd all
  zip_all P gives (a ∷ xs) (b ∷ ys) all = All-cons P a xs (gives a b all.0) (zip_all P gives xs ys all.1)

-- marks

abbrev pub is_unseen : Mark → Bool
is_unseen Mark.Unseen = true
is_unseen Mark.Building = false
is_unseen (Mark.Done node) = false

abbrev pub one_if_unseen : Mark → ℕ
one_if_unseen Mark.Unseen = 1
one_if_unseen Mark.Building = 0
one_if_unseen (Mark.Done node) = 0

-- how many shapes were not met yet
abbrev pub unseen_in : List Mark → ℕ
unseen_in [] = 0
unseen_in (mark ∷ marks) = one_if_unseen mark + unseen_in marks

-- the shape was met
pub record IsBegun (marks : List Mark) (i : ℕ) : Type 0 where
  pub mark : Mark
  pub here : slice_get marks i ≡ Some mark
  pub seen : is_unseen mark ≡ false

pub unseen_at_most : (marks : List Mark) → unseen_in marks ≤ length marks
unseen_at_most [] = omega arith
unseen_at_most (Mark.Unseen ∷ marks) = omega (arith, unseen_at_most marks)
unseen_at_most (Mark.Building ∷ marks) = omega (arith, unseen_at_most marks)
unseen_at_most (Mark.Done node ∷ marks) = omega (arith, unseen_at_most marks)

-- marking an unseen shape as being built leaves one fewer
pub unseen_fewer : (marks : List Mark) (i : ℕ) → slice_get marks i ≡ Some Mark.Unseen
    → unseen_in (set marks i Mark.Building) + 1 ≡ unseen_in marks
unseen_fewer [] i at = absurd (none-some Mark.Unseen at)
unseen_fewer (mark ∷ marks) zero at = rw (same_Some mark Mark.Unseen at) (omega arith)
unseen_fewer (mark ∷ marks) (suc i) at = omega (arith, unseen_fewer marks i at)

-- finishing a shape leaves no more
pub unseen_finished : (marks : List Mark) (i : ℕ) (node : NodeId) → unseen_in (set marks i (Mark.Done node)) ≤ unseen_in marks
unseen_finished [] i node = omega arith
unseen_finished (mark ∷ marks) zero node = omega arith
unseen_finished (mark ∷ marks) (suc i) node = omega (arith, unseen_finished marks i node)
