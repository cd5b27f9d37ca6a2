use Rattle.std.proofs.Common.{◌≡◌, Bool, true, false, not, refl, sym, ap, ◌∙◌}
use Rattle.fr_shape.proofs.NoneTwice.{found_none}
use Rattle.fr_shape.proofs.repeated.are_distinct.Goals as goal

twice : (b : Bool) → not (not b) ≡ b
twice true = refl
twice false = refl

pub returns : goal.returns
returns g c =
    sym (twice c.is_none.result) ∙ sym (ap not c.is_none.ensures)
    ∙ found_none g.met.K.Eq.laws c.args.keys.now c.in_ok-first_repeated.field-0 c.in_ok-first_repeated.ensures
