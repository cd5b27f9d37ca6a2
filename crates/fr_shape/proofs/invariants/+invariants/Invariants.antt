use Rattle.std.proofs.Common.{◌≡◌, drop}
use Rattle.fr_shape.specs.View.{vals_view, entries_view}
use Rattle.fr_shape.specs.Invariants.{all_keep, fields_keep, entries_keep}
use Rattle.fr_shape.proofs.invariants.+invariants.Given as goal

-- so far all keep them, so what is left decides

abbrev pub invariant-all_keep-loop-value : goal.invariant-all_keep-loop-value
invariant-all_keep-loop-value g l =
    all_keep (g.H.Hooks.means l.hooks).check l.table l.id.0 (vals_view l.values)
    ≡ all_keep (g.H.Hooks.means l.hooks).check l.table l.id.0 (vals_view (drop l.value-index l.value-items))

abbrev pub invariant-fields_keep-loop-i : goal.invariant-fields_keep-loop-i
invariant-fields_keep-loop-i g l =
    fields_keep (g.H.Hooks.means l.hooks).check l.table l.fn.fields (vals_view l.fn.values)
    ≡ fields_keep (g.H.Hooks.means l.hooks).check l.table (drop l.i l.fields) (vals_view (drop l.i l.values))

abbrev pub invariant-entries_keep-loop-entry : goal.invariant-entries_keep-loop-entry
invariant-entries_keep-loop-entry g l =
    entries_keep (g.H.Hooks.means l.hooks).check l.table l.key.0 l.value.0 (entries_view l.entries)
    ≡ entries_keep (g.H.Hooks.means l.hooks).check l.table l.key.0 l.value.0 (entries_view (drop l.entry-index l.entry-items))
