use Rattle.std.proofs.Common.{◌≡◌, drop}
use Rattle.fr_shape.specs.View.{entries_view}
use Rattle.fr_shape.specs.Same.{none_twice, keys}
use Rattle.fr_shape.proofs.distinct.few_keys_apart.Given as goal

abbrev pub invariant-loop-i : goal.invariant-loop-i
invariant-loop-i l = none_twice (keys (entries_view l.entries)) ≡ none_twice (keys (entries_view (drop l.i l.entries)))
