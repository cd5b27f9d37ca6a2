use Rattle.std.proofs.Common.{◌≡◌, drop}
use Rattle.fr_shape.specs.View.{vals_view}
use Rattle.fr_shape.specs.Same.{none_twice}
use Rattle.fr_shape.proofs.distinct.few_apart.Given as goal

abbrev pub invariant-loop-i : goal.invariant-loop-i
invariant-loop-i l = none_twice (vals_view l.values) ≡ none_twice (vals_view (drop l.i l.values))
