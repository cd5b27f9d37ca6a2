-- The first child of a product, and the others.
use Rattle.std.proofs.Common.{◌≡◌, ℕ, ◌==◌, false, List, [], ◌∷◌, length, get_or, drop, sym, ap, ◌∙◌, arith}
use Rattle.std.proofs.lemmas.Bool.{false≢true}
use Rattle.fr_shape.specs.declared.value.Value.{Value}
use Rattle.fr_shape.specs.Val.{Val, Vals, product, first}
use Rattle.fr_shape.specs.View.{view, vals_view}
use Rattle.fr_shape.specs.Tokens.{occurs, vals_occur}
use Rattle.fr_shape.specs.Released.{Room, RoseBy}
use Rattle.fr_shape.specs.TokenLaws.{both, Room_same, Room_fewer, Room_risen}

-- a list that isn't empty is its first and the others
pub first_and_others : (xs others : List Value) (x : Value) (len : ℕ) → len ≡ length xs → false ≡ (len == 0) → x ≡ get_or xs 0 x → others ≡ drop 1 xs → vals_view xs ≡ first (view x) (vals_view others)
first_and_others [] others x len counted some is rest = absurd (false≢true (some ∙ ap (λ (n : ℕ). n == 0) counted))
first_and_others (y ∷ ys) others x len counted some is rest =
    ap (λ (z : Value). first (view z) (vals_view ys)) (sym is) ∙ ap (λ (zs : List Value). first (view x) (vals_view zs)) (sym rest)

module _ (source child : Val) (others : Vals) (is : source ≡ product (first child others)) where
  -- where there is room for the product, there is for the others
  pub others_have_room : (ledger : List ℕ) → Room (occurs source) ledger → Room (vals_occur others) ledger
  others_have_room ledger = Room_fewer (vals_occur others) (occurs source) ledger (λ t. rw is (omega arith))

  -- and for the first child once they are released
  pub child_has_room : (before after : List ℕ) → RoseBy (vals_occur others) before after → Room (occurs source) before → Room (occurs child) after
  child_has_room before after rose room =
      Room_risen (vals_occur others) (occurs child) before after
      (Room_same (occurs source) (both (vals_occur others) (occurs child)) before (λ t. rw is (omega arith)) room) rose
