use Rattle.std.proofs.Common.{◌≡◌, map, drop, ◌++◌}
use Rattle.fr_plan.specs.Plans.{precomputed}
use Rattle.fr_plan.proofs.fields.validators_of.Given as goal

abbrev pub invariant-loop-validator : goal.invariant-loop-validator
invariant-loop-validator l =
    l.validators.items ++ map (precomputed l.kind) (drop l.validator-index l.validator-items)
    ≡ map (precomputed l.kind) l.field.validators
