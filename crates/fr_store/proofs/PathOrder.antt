-- The order of numbers, and of the walk over paths that begin alike.
use Rattle.std.proofs.Common.{◌≡◌, ℕ, ◌<◌, List, [], ◌∷◌, ◌++◌, length, length-append, refl, ◌∙◌, ap, arith}
use Rattle.fr_store.specs.Common.{Less, Ordering, PathStep, ordering_then, slice_cmp, step_itself, step_order, walk_order}
use Rattle.std.specs.declared.cmp.Ordering.TheVariants.{Equal}
use Rattle.std.specs.Ordering.{nat_cmp}
use Rattle.std.proofs.lemmas.Bool.Decides.{nat_tests}
use Rattle.std.proofs.lemmas.Grind.{common_steps}

-- Numbers.

pub number_less : (i j : ℕ) → i < j → nat_cmp i j ≡ Less
number_less i j less = grind (arith, common_steps, nat_tests)

pub number_equal : (i j : ℕ) → i ≡ j → nat_cmp i j ≡ Equal
number_equal i j e = grind (arith, common_steps, nat_tests)

front_steps : (p a b : List PathStep) → slice_cmp step_order (p ++ a) (p ++ b) ≡ slice_cmp step_order a b
front_steps [] a b = refl
front_steps (s ∷ p) a b =
    ap (λ (o : Ordering). ordering_then o (slice_cmp step_order (p ++ a) (p ++ b))) (step_itself s s refl) ∙ front_steps p a b

-- paths that begin alike are in the order of what comes after
pub first_front : (p a b : List PathStep) → walk_order (p ++ a) (p ++ b) ≡ walk_order a b
first_front p a b =
    ap (λ (o : Ordering). ordering_then (nat_cmp (length (p ++ b)) (length (p ++ a))) o) (front_steps p a b)
    ∙ ap (λ (o : Ordering). ordering_then o (slice_cmp step_order a b)) (go (length p) (length a) (length b))
  where
    go : (m i j : ℕ) → nat_cmp (length (p ++ b)) (length (p ++ a)) ≡ nat_cmp (length b) (length a)
    go m i j = grind (arith, common_steps, nat_tests, length-append p a, length-append p b)
