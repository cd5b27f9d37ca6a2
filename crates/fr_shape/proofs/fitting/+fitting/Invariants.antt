use Rattle.std.proofs.Common.{◌≡◌, drop}
use Rattle.fr_shape.specs.View.{vals_view, entries_view}
use Rattle.fr_shape.specs.Fits.{all_fit, fields_fit, entries_fit}
use Rattle.fr_shape.proofs.fitting.+fitting.Given as goal

-- so far all fit, so what is left decides

abbrev pub invariant-all_fit-loop-value : goal.invariant-all_fit-loop-value
invariant-all_fit-loop-value l =
    all_fit l.table l.id.0 (vals_view l.values) ≡ all_fit l.table l.id.0 (vals_view (drop l.value-index l.value-items))

abbrev pub invariant-fields_fit-loop-i : goal.invariant-fields_fit-loop-i
invariant-fields_fit-loop-i l =
    fields_fit l.table l.fn.fields (vals_view l.fn.values)
    ≡ fields_fit l.table (drop l.i l.fields) (vals_view (drop l.i l.values))

abbrev pub invariant-entries_fit-loop-entry : goal.invariant-entries_fit-loop-entry
invariant-entries_fit-loop-entry l =
    entries_fit l.table l.key.0 l.value.0 (entries_view l.entries)
    ≡ entries_fit l.table l.key.0 l.value.0 (entries_view (drop l.entry-index l.entry-items))
