use Rattle.std.proofs.Common.{◌≡◌, true, drop}
use Rattle.fr_shape.specs.View.{vals_view, entries_view}
use Rattle.fr_shape.specs.Tokens.{vals_tokens, entries_tokens}
use Rattle.fr_shape.specs.InTurn.{can_release, released}
use Rattle.fr_shape.proofs.releasing.+releasing.Given as goal

-- what is left can be released, and leads to the same ledger
abbrev pub invariant-release_values-loop-value : goal.invariant-release_values-loop-value
invariant-release_values-loop-value l = record {
  can : can_release (vals_tokens (vals_view (drop l.value-index l.value-items))) l.ledger ≡ true;
  same_end : released (vals_tokens (vals_view (drop l.value-index l.value-items))) l.ledger
      ≡ released (vals_tokens (vals_view l.values)) l.initial.ledger;
}

abbrev pub invariant-release_entries-loop-entry : goal.invariant-release_entries-loop-entry
invariant-release_entries-loop-entry l = record {
  can : can_release (entries_tokens (entries_view (drop l.entry-index l.entry-items))) l.ledger ≡ true;
  same_end : released (entries_tokens (entries_view (drop l.entry-index l.entry-items))) l.ledger
      ≡ released (entries_tokens (entries_view l.entries)) l.initial.ledger;
}
