use Rattle.std.proofs.Common.{◌≡◌, ◌++◌, drop}
use Rattle.fr_shape.specs.Describing.{numbered_variants}
use Rattle.fr_shape.proofs.describing.numbered_variants.Given as goal

-- what is made and what is left come to all

abbrev pub invariant-loop-i : goal.invariant-loop-i
invariant-loop-i l =
    l.made ++ numbered_variants l.i (drop l.i l.variants) ≡ numbered_variants 0 l.variants
