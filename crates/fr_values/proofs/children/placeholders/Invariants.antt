use Rattle.std.proofs.Common.{◌≡◌, length}
use Rattle.fr_values.specs.Common.{All, unit, view}
use Rattle.fr_values.proofs.children.placeholders.Given as goal

abbrev pub invariant-loop-i : goal.invariant-loop-i
invariant-loop-i l = All (λ value. view value ≡ unit) l.values.items × (length l.values.items ≡ l._i)
