-- The first failing place in the order of the walk.
use Rattle.std.proofs.Common.{◌≡◌, ◌∷◌}
use Rattle.fr_model.proofs.Common.{inl, inr, zero, suc, List, [], Option, Some, None, refl, ◌∙◌, ap, arith, Contains, Ordering, walk_order, Failure, earlier_by, earlier, first_by_walk, IsOrAfter}
use Rattle.std.specs.Ordering.{ordering_reverse}
use Rattle.fr_path.specs.OrderLaws.{walk_total}
use Rattle.fr_model.proofs.Templates.{further, itself}

of_one : (o : Ordering) (f : Failure) → earlier_by o f f ≡ f
of_one Ordering.Less f = refl
of_one _ f = refl

earlier_first : (f g : Failure) → IsOrAfter f g → earlier_by (walk_order f.path g.path) f g ≡ f
earlier_first f g (inl same) = rw same (of_one (walk_order f.path f.path) f)
earlier_first f g (inr after) = rw after refl

earlier_last : (f g : Failure) → IsOrAfter f g → earlier_by (walk_order g.path f.path) g f ≡ f
earlier_last f g (inl same) = rw same (of_one (walk_order f.path f.path) f)
earlier_last f g (inr after) =
    let turned : walk_order g.path f.path ≡ Ordering.Greater = walk_total.antisymm g.path f.path ∙ ap ordering_reverse after in
    rw turned refl

one_of : (f : Failure) (fs : List Failure) (g : Failure) (found : Option Failure)
    → ((h : Failure) → found ≡ Some h → Contains fs h) → earlier f found ≡ g → Contains (f ∷ fs) g
one_of f fs g None others e = itself f fs g e
one_of f fs g (Some h) others e = go _ e
  where
    go : (o : Ordering) → earlier_by o f h ≡ g → Contains (f ∷ fs) g
    go Ordering.Less e = itself f fs g e
    go Ordering.Equal e = itself f fs g e
    go Ordering.Greater e = further f fs g (others g (ap Some e))

-- the first is one of them
pub first_is_one : (fs : List Failure) (g : Failure) → first_by_walk fs ≡ Some g → Contains fs g
first_is_one [] g e = cc
first_is_one (f ∷ fs) g e = let same : earlier f _ ≡ g = cc in one_of f fs g _ (λ h is. first_is_one fs h is) same

front_first : (f : Failure) (found : Option Failure) → ((g : Failure) → found ≡ Some g → IsOrAfter f g) → earlier f found ≡ f
front_first f None after = refl
front_first f (Some g) after = earlier_first f g (after g refl)

-- where every other comes after one of them, that is the first
pub first_is : (fs : List Failure) (f : Failure) → Contains fs f
    → ((g : Failure) → Contains fs g → IsOrAfter f g) → first_by_walk fs ≡ Some f
first_is [] f (k, below, is) after = absurd (omega arith)
first_is (front ∷ fs) f (zero, below, is) after =
    let same : front ≡ f = is in
    rw same (ap Some (front_first f _ (λ g found. after g (further front fs g (first_is_one fs g found)))))
first_is (front ∷ fs) f (suc k, below, is) after =
    let rest = first_is fs f (k, omega arith, is) (λ g has. after g (further front fs g has)) in
    rw rest (ap Some (earlier_last f front (after front (itself front fs front refl))))
