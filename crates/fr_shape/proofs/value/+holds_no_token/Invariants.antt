use Rattle.std.proofs.Common.{◌≡◌, drop}
use Rattle.fr_shape.specs.View.{vals_view, entries_view}
use Rattle.fr_shape.specs.Tokens.{vals_tokens, entries_tokens}
use Rattle.fr_shape.specs.Lists.{is_nil}
use Rattle.fr_shape.proofs.value.+holds_no_token.Given as goal

abbrev pub invariant-hold_no_token-loop-value : goal.invariant-hold_no_token-loop-value
invariant-hold_no_token-loop-value l =
    is_nil (vals_tokens (vals_view l.values)) ≡ is_nil (vals_tokens (vals_view (drop l.value-index l.value-items)))

abbrev pub invariant-entries_hold_no_token-loop-entry : goal.invariant-entries_hold_no_token-loop-entry
invariant-entries_hold_no_token-loop-entry l =
    is_nil (entries_tokens (entries_view l.entries))
    ≡ is_nil (entries_tokens (entries_view (drop l.entry-index l.entry-items)))
