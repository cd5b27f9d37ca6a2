use Rattle.std.proofs.Common.{◌∙◌, ap, sym, ◌++◌, ◌∷◌, [], ℕ, List, arith, add-one}
use Rattle.std.specs.List.{range_with_len}
use Rattle.fr_plan.proofs.ByKey.{range_more}
use Rattle.fr_plan.proofs.shape_fields.numbers_below.Goals as goal

pub loop-number-preserved : goal.loop-number-preserved
loop-number-preserved c =
    c.in_ok-push.ensures.items
    ∙ ap (λ (numbers : List ℕ). numbers ++ c.loop-number.number ∷ []) c.loop-number.invariant
    ∙ ap (λ (n : ℕ). range_with_len 0 c.loop-number.number ++ n ∷ []) (omega arith)
    ∙ sym (range_more 0 c.loop-number.number)
    ∙ ap (range_with_len 0) (sym (add-one c.loop-number.number))

pub returns : goal.returns
returns c =
    c.loop-number.invariant ∙ ap (range_with_len 0) (omega (arith, c.in-Ok.ensures.1, c.loop-number-test.false))
