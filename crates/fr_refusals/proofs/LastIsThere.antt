-- Whether the last child of a begun place is there.
use Rattle.std.proofs.Common.{◌≡◌, ℕ, suc, ◌-◌, true, false, List, [], ◌∷◌, length, slice_get, Some, None, refl, ◌∙◌, ap, arith}
use Rattle.fr_shape.specs.Val.{Val}
use Rattle.fr_values.specs.Cells.{Cell, absent, slot_of_cell, value_of_cell}
use Rattle.fr_refusals.specs.Looks.{ends_absent, is_absent}

pub ends_so : (cells : List Cell) (count : ℕ) → count ≡ length cells → ¬ (count ≡ 0)
    → (c : Cell) × (slice_get cells (count - 1) ≡ Some c) × (ends_absent cells ≡ is_absent c)
ends_so [] count is some = absurd (some is)
ends_so (c ∷ []) count is some =
    let first : count - 1 ≡ 0 = omega (arith, is) in
    (c, ap (slice_get (c ∷ [])) first, refl)
ends_so (c ∷ d ∷ cells) count is some =
    let rest = ends_so (d ∷ cells) (length (d ∷ cells)) refl (λ none. absurd (omega (arith, none))) in
    let next : count - 1 ≡ suc (length (d ∷ cells) - 1) = omega (arith, is) in
    (rest.0, ap (slice_get (c ∷ d ∷ cells)) next ∙ rest.1, rest.2)

pub ends_some : (cells : List Cell) → ends_absent cells ≡ true → suc (length cells - 1) ≡ length cells
ends_some [] h = cc
ends_some (c ∷ cells) h = omega arith

pub absent_cell : (c : Cell) → value_of_cell c ≡ None → slot_of_cell c ≡ None → is_absent c ≡ true
absent_cell absent v s = refl
absent_cell _ v s = cc

pub given_cell : (c : Cell) (u : Val) → value_of_cell c ≡ Some u → is_absent c ≡ false
given_cell absent u v = cc
given_cell _ u v = refl

pub placed_cell : (c : Cell) (n : ℕ) → slot_of_cell c ≡ Some n → is_absent c ≡ false
placed_cell absent n s = cc
placed_cell _ n s = refl
