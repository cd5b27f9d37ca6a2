use Rattle.std.proofs.Common.{◌≡◌, ◌++◌, drop}
use Rattle.fr_shape.specs.Describing.{numbered_fields}
use Rattle.fr_shape.proofs.describing.numbered_fields.Given as goal

-- what is made and what is left come to all

abbrev pub invariant-loop-i : goal.invariant-loop-i
invariant-loop-i l =
    l.made ++ numbered_fields l.i-counter (drop l.i-counter l.shapes) ≡ numbered_fields 0 l.shapes
