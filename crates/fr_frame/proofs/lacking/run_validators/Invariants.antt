use Rattle.std.proofs.Common.{◌≡◌, drop}
use Rattle.fr_frame.specs.Common.{first_refused, view}
use Rattle.fr_frame.proofs.lacking.run_validators.Given as goal

abbrev pub invariant-loop-validator : goal.invariant-loop-validator
invariant-loop-validator g l =
    first_refused (g.H.Hooks.means l.hooks) l.field l.validators (view l.value)
    ≡ first_refused (g.H.Hooks.means l.hooks) l.field (drop l.validator-index l.validators) (view l.value)
