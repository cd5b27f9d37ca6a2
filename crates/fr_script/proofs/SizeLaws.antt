-- Counting off what the items of a list have, one after another.
use Rattle.std.proofs.Common.{◌≡◌, ℕ, ◌+◌, ◌<◌, List, [], ◌∷◌, ◌++◌, length, get_or, take, false, nat_le, sum_by, sym, ap, ◌∙◌, arith}
use Rattle.std.proofs.lemmas.Bool.{lt-leb}
use Rattle.std.proofs.lemmas.List.{take_more}
use Rattle.std.proofs.lemmas.List.Sums.{sum_by_push, sum_by-take-le}

module _ {X : Type 0} (f : X → ℕ) (xs : List X) (i : ℕ) (left limit : ℕ) (so_far : left + sum_by f (take i xs) ≡ limit) where
  module _ (x : X) (h : i < length xs) (is : x ≡ get_or xs i x) where
    with_next : sum_by f (take (i + 1) xs) ≡ sum_by f (take i xs) + f x
    with_next = ap (sum_by f) (take_more xs i x h ∙ ap (λ y. take i xs ++ y ∷ []) (sym is)) ∙ sum_by_push f (take i xs) x

    -- the next item's were counted off too
    pub counted_off : (fewer : ℕ) → fewer + f x ≡ left → fewer + sum_by f (take (i + 1) xs) ≡ limit
    counted_off fewer taken = omega (arith, with_next)

    -- the next item has more than what is left
    pub too_many : left < f x → limit < sum_by f xs
    too_many more = omega (arith, with_next, sum_by-take-le f xs (i + 1))

pub is_over : (total limit : ℕ) → limit < total → false ≡ nat_le total limit
is_over total limit more = sym (lt-leb total limit more)
