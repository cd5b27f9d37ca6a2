use Rattle.std.proofs.Common.{◌≡◌, drop}
use Rattle.fr_shape.specs.View.{vals_view, entries_view}
use Rattle.fr_shape.specs.Same.{all_same, entries_same}
use Rattle.fr_shape.proofs.comparing.+comparing.Given as goal

-- so far all are, so what is left decides

abbrev pub invariant-all_same-loop-i : goal.invariant-all_same-loop-i
invariant-all_same-loop-i l =
    all_same (vals_view l.a) (vals_view l.b) ≡ all_same (vals_view (drop l.i l.left)) (vals_view (drop l.i l.right))

abbrev pub invariant-entries_same-loop-i : goal.invariant-entries_same-loop-i
invariant-entries_same-loop-i l =
    entries_same (entries_view l.a) (entries_view l.b)
    ≡ entries_same (entries_view (drop l.i l.left)) (entries_view (drop l.i l.right))
