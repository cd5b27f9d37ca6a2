use Rattle.std.proofs.Common.{◌≡◌, ◌+◌, length, take, sum_by}
use Rattle.fr_script.proofs.sizes.count_off_variants.Given as goal

-- what is left and what was counted off are together the limit
abbrev pub invariant-loop-variant : goal.invariant-loop-variant
invariant-loop-variant l =
    l.left + sum_by (λ variant. 1 + length variant.fields) (take l.variant-index l.variants) ≡ l.limit
