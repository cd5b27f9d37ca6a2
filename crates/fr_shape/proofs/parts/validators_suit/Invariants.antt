use Rattle.std.proofs.Common.{◌≡◌, drop}
use Rattle.std.specs.List.{list_all}
use Rattle.fr_shape.specs.Checked.{suits}
use Rattle.fr_shape.proofs.parts.validators_suit.Given as goal

abbrev pub invariant-loop-validator : goal.invariant-loop-validator
invariant-loop-validator l =
    list_all (suits l.def) l.validators ≡ list_all (suits l.def) (drop l.validator-index l.validator-items)
