use Rattle.std.proofs.Common.{◌≡◌, drop}
use Rattle.std.specs.List.{list_all}
use Rattle.fr_shape.specs.Checked.{custom_hooks}
use Rattle.fr_shape.specs.Tests.{hook_passes}
use Rattle.fr_shape.proofs.parts.custom_hooks_pass.Given as goal

abbrev pub invariant-loop-validator : goal.invariant-loop-validator
invariant-loop-validator l =
    list_all hook_passes (custom_hooks l.validators)
    ≡ list_all hook_passes (custom_hooks (drop l.validator-index l.validator-items))
