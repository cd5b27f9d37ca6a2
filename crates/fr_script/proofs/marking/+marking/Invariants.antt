use Rattle.std.proofs.Common.{◌≡◌, drop}
use Rattle.fr_shape.specs.Tokens.{vals_tokens, entries_tokens}
use Rattle.fr_shape.specs.View.{vals_view, entries_view}
use Rattle.fr_script.specs.Marks.{tokens_marked}
use Rattle.fr_script.proofs.marking.+marking.Given as goal

-- so far all were marked, so what is left decides

abbrev pub invariant-mark_values-loop-value : goal.invariant-mark_values-loop-value
invariant-mark_values-loop-value l =
    tokens_marked (vals_tokens (vals_view l.values)) l.initial.marks
    ≡ tokens_marked (vals_tokens (vals_view (drop l.value-index l.value-items))) l.marks

abbrev pub invariant-mark_entries-loop-entry : goal.invariant-mark_entries-loop-entry
invariant-mark_entries-loop-entry l =
    tokens_marked (entries_tokens (entries_view l.entries)) l.initial.marks
    ≡ tokens_marked (entries_tokens (entries_view (drop l.entry-index l.entry-items))) l.marks
