-- Laws of the values that places come to, for proofs.
use Rattle.std.proofs.Common.{◌≡◌, suc, Bool, true, false, List, [], ◌∷◌, length, Option, Some, None, refl, sym, ◌∙◌, ap}
use Rattle.std.specs.Prelude.{if◌then◌else◌}
use Rattle.fr_store.specs.Below.{Cell, Tracker, Val, Vals, begun_body, can_make, count_vals, first, made, no_vals, one_more, value_as, value_of, values_of}
use Rattle.fr_values.specs.Cells.{given}

-- what is begun and has a value makes it of its children's
pub made_value : (tracker : Tracker) (cells : List Cell) {v : Val} → value_of (begun_body tracker cells) ≡ Some v
    → made tracker (values_of cells) ≡ Some v
made_value tracker cells {v} e = go (can_make tracker cells) e
  where
    go : (can : Bool) → (if can then made tracker (values_of cells) else None) ≡ Some v → made tracker (values_of cells) ≡ Some v
    go true e = e
    go false e = absurd (cc)

-- it has a value of each child
pub made_of : (tracker : Tracker) (values : Option Vals) {v : Val} → made tracker values ≡ Some v → (vs : Vals)
    × (values ≡ Some vs) × (value_as tracker vs ≡ v)
made_of tracker (Some vs) e = (vs, refl, cc)
made_of tracker None e = absurd (cc)

pub more_is : (v : Val) (rest : Option Vals) {vs : Vals} → one_more (Some v) rest ≡ Some vs → (us : Vals) × (rest ≡ Some us)
    × (first v us ≡ vs)
more_is v (Some us) e = (us, refl, cc)
more_is v None e = absurd (cc)

pub values_count : (cells : List Cell) {vs : Vals} → values_of cells ≡ Some vs → count_vals vs ≡ length cells
values_count [] {vs} e = let same : no_vals ≡ vs = cc in ap count_vals (sym same)
values_count (given v ∷ cells) {vs} e =
    let rest = more_is v (values_of cells) e in
    ap count_vals (sym rest.2) ∙ ap suc (values_count cells rest.1)
values_count (_ ∷ cells) e = absurd (cc)
