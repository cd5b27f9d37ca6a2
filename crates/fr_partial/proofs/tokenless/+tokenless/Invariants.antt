use Rattle.std.proofs.Common.{◌≡◌, drop}
use Rattle.fr_shape.specs.View.{vals_view, entries_view}
use Rattle.fr_shape.specs.Tokens.{vals_tokens, entries_tokens}
use Rattle.fr_shape.specs.Lists.{is_nil}
use Rattle.fr_partial.proofs.tokenless.+tokenless.Given as goal

abbrev pub invariant-are_tokenless-loop-value : goal.invariant-are_tokenless-loop-value
invariant-are_tokenless-loop-value l =
    is_nil (vals_tokens (vals_view l.values)) ≡ is_nil (vals_tokens (vals_view (drop l.value-index l.value-items)))

abbrev pub invariant-are_entries_tokenless-loop-entry : goal.invariant-are_entries_tokenless-loop-entry
invariant-are_entries_tokenless-loop-entry l =
    is_nil (entries_tokens (entries_view l.entries))
    ≡ is_nil (entries_tokens (entries_view (drop l.entry-index l.entry-items)))
