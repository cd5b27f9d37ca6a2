-- Lists whose items are equal as far as the shorter goes: their lengths decide.
use Rattle.std.proofs.Common.{◌≡◌, ℕ, zero, suc, ◌<◌, min, List, [], ◌∷◌, length, drop, refl, ap, ◌∙◌, arith}
use Rattle.std.specs.declared.cmp.Ordering.{Ordering}
use Rattle.std.specs.declared.cmp.Ordering.TheVariants.{Less, Equal, Greater}
use Rattle.std.specs.Ordering.{nat_cmp, MatchOrdering}
use Rattle.std.specs.Cmp.{ranks, nat_cmp_is}
use Rattle.fr_shape.specs.declared.value.Value.{Value}
use Rattle.fr_shape.specs.declared.value.Dyn.{Dyn}
use Rattle.fr_shape.specs.View.{vals_view, entries_view, dynamics_view, members_view}
use Rattle.fr_shape.specs.Compare.{compare_all, compare_entries, compare_dynamics, compare_members}

one_more : (a b : ℕ) → nat_cmp a b ≡ nat_cmp (suc a) (suc b)
one_more a b = nat_cmp_is (suc a) (suc b) (nat_cmp a b) (more (nat_cmp a b) (ranks a b))
  where
    more : (r : Ordering) → MatchOrdering r (a < b) (a ≡ b) (b < a) → MatchOrdering r (suc a < suc b) (suc a ≡ suc b) (suc b < suc a)
    more Less h = omega (arith, h)
    more Equal h = ap suc h
    more Greater h = omega (arith, h)

module _ {X : Type 0} (order : List X → List X → Ordering) (level : order [] [] ≡ Equal) (shorter : (y : X) (ys : List X) → order [] (y ∷ ys) ≡ Less) (longer : (x : X) (xs : List X) → order (x ∷ xs) [] ≡ Greater) where
  end : (xs ys : List X) (i : ℕ) → i ≡ min (length xs) (length ys) → order (drop i xs) (drop i ys) ≡ nat_cmp (length xs) (length ys)
  end [] [] zero e = level
  end [] [] (suc i) e = absurd (omega (arith, e))
  end [] (y ∷ ys) zero e = shorter y ys ∙ nat_cmp_is 0 (length (y ∷ ys)) Less (omega arith)
  end [] (y ∷ ys) (suc i) e = absurd (omega (arith, e))
  end (x ∷ xs) [] zero e = longer x xs ∙ nat_cmp_is (length (x ∷ xs)) 0 Greater (omega arith)
  end (x ∷ xs) [] (suc i) e = absurd (omega (arith, e))
  end (x ∷ xs) (y ∷ ys) zero e = absurd (omega (arith, e))
  end (x ∷ xs) (y ∷ ys) (suc i) e = end xs ys i (omega (arith, e)) ∙ one_more (length xs) (length ys)

pub all_end : (xs ys : List Value) (i : ℕ) → i ≡ min (length xs) (length ys) → compare_all (vals_view (drop i xs)) (vals_view (drop i ys)) ≡ nat_cmp (length xs) (length ys)
all_end = end (λ xs ys. compare_all (vals_view xs) (vals_view ys)) refl (λ y ys. refl) (λ x xs. refl)

pub entries_end : (xs ys : List (Value × Value)) (i : ℕ) → i ≡ min (length xs) (length ys) → compare_entries (entries_view (drop i xs)) (entries_view (drop i ys)) ≡ nat_cmp (length xs) (length ys)
entries_end = end (λ xs ys. compare_entries (entries_view xs) (entries_view ys)) refl (λ y ys. refl) (λ x xs. refl)

pub dynamics_end : (xs ys : List Dyn) (i : ℕ) → i ≡ min (length xs) (length ys) → compare_dynamics (dynamics_view (drop i xs)) (dynamics_view (drop i ys)) ≡ nat_cmp (length xs) (length ys)
dynamics_end = end (λ xs ys. compare_dynamics (dynamics_view xs) (dynamics_view ys)) refl (λ y ys. refl) (λ x xs. refl)

pub members_end : (xs ys : List (List ℕ × Dyn)) (i : ℕ) → i ≡ min (length xs) (length ys) → compare_members (members_view (drop i xs)) (members_view (drop i ys)) ≡ nat_cmp (length xs) (length ys)
members_end = end (λ xs ys. compare_members (members_view xs) (members_view ys)) refl (λ y ys. refl) (λ x xs. refl)
