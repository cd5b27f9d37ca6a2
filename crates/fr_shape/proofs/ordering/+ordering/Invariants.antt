use Rattle.std.proofs.Common.{◌≡◌, drop}
use Rattle.fr_shape.specs.View.{vals_view, entries_view}
use Rattle.fr_shape.specs.Compare.{compare_all, compare_entries}
use Rattle.fr_shape.proofs.ordering.+ordering.Given as goal

-- so far all are equal, so what is left decides

abbrev pub invariant-compare_all-loop-i : goal.invariant-compare_all-loop-i
invariant-compare_all-loop-i l =
    compare_all (vals_view l.a) (vals_view l.b) ≡ compare_all (vals_view (drop l.i l.left)) (vals_view (drop l.i l.right))

abbrev pub invariant-compare_entries-loop-i : goal.invariant-compare_entries-loop-i
invariant-compare_entries-loop-i l =
    compare_entries (entries_view l.a) (entries_view l.b)
    ≡ compare_entries (entries_view (drop l.i l.left)) (entries_view (drop l.i l.right))
