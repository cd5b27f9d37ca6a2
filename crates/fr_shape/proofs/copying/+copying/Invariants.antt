use Rattle.std.proofs.Common.{◌≡◌, map, take}
use Rattle.fr_shape.specs.View.{view, entry_view}
use Rattle.fr_shape.proofs.copying.+copying.Given as goal

-- the copies so far are of the items so far

abbrev pub invariant-copy_values-loop-value : goal.invariant-copy_values-loop-value
invariant-copy_values-loop-value l = map view l.copies ≡ map view (take l.value-index l.value-items)

abbrev pub invariant-copy_entries-loop-entry : goal.invariant-copy_entries-loop-entry
invariant-copy_entries-loop-entry l =
    map entry_view l.copies ≡ map entry_view (take l.entry-index l.entry-items)
