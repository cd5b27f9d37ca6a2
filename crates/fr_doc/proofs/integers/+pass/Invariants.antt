use Rattle.std.proofs.Common.{◌≡◌, drop, option_map}
use Rattle.fr_shape.specs.View.{vals_view, entries_view}
use Rattle.fr_doc.specs.Integers.{vals_integers, entries_integers, number, last_after}
use Rattle.fr_doc.proofs.integers.+pass.Given as goal

-- so far all keep the rule, so what is left decides

abbrev pub invariant-pass_values-loop-value : goal.invariant-pass_values-loop-value
invariant-pass_values-loop-value l =
    last_after l.rule (option_map number l.fn.last) (vals_integers (vals_view l.values))
    ≡ last_after l.rule (option_map number l.met) (vals_integers (vals_view (drop l.value-index l.value-items)))

abbrev pub invariant-pass_entries-loop-entry : goal.invariant-pass_entries-loop-entry
invariant-pass_entries-loop-entry l =
    last_after l.rule (option_map number l.fn.last) (entries_integers (entries_view l.entries))
    ≡ last_after l.rule (option_map number l.met) (entries_integers (entries_view (drop l.entry-index l.entry-items)))
