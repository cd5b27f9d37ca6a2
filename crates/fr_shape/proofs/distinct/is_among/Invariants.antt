use Rattle.std.proofs.Common.{◌≡◌, drop}
use Rattle.fr_shape.specs.View.{view, vals_view}
use Rattle.fr_shape.specs.Same.{is_among}
use Rattle.fr_shape.proofs.distinct.is_among.Given as goal

abbrev pub invariant-loop-other : goal.invariant-loop-other
invariant-loop-other l =
    is_among (view l.value) (vals_view l.values) ≡ is_among (view l.value) (vals_view (drop l.other-index l.values))
