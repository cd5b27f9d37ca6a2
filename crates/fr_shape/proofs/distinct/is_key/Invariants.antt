use Rattle.std.proofs.Common.{◌≡◌, drop}
use Rattle.fr_shape.specs.View.{view, entries_view}
use Rattle.fr_shape.specs.Same.{is_among, keys}
use Rattle.fr_shape.proofs.distinct.is_key.Given as goal

abbrev pub invariant-loop-entry : goal.invariant-loop-entry
invariant-loop-entry l =
    is_among (view l.key) (keys (entries_view l.entries))
    ≡ is_among (view l.key) (keys (entries_view (drop l.entry-index l.entries)))
