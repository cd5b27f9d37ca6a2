use Rattle.std.proofs.Common.{◌≡◌, drop}
use Rattle.fr_frame.specs.Common.{first_asked}
use Rattle.fr_frame.proofs.ValidLaws.{refuses}
use Rattle.fr_frame.proofs.validating.test_values.Given as goal

abbrev pub invariant-loop-i : goal.invariant-loop-i
invariant-loop-i g l =
    first_asked (refuses (g.H.Hooks.means l.hooks) l.plan l.told) 0 l.children
    ≡ first_asked (refuses (g.H.Hooks.means l.hooks) l.plan l.told) l.i (drop l.i l.children)
