use Rattle.std.proofs.Common.{◌≡◌, true, ℕ, List, ◌++◌, drop, Some}
use Rattle.fr_shape.specs.Tokens.{vals_tokens}
use Rattle.fr_values.specs.Common.{are_octets, bytes_of, vals_view}
use Rattle.fr_values.proofs.converting.bytes_in.Given as goal

-- what is left are octets, and its bytes follow those so far
abbrev pub invariant-loop-item : goal.invariant-loop-item
invariant-loop-item l =
    (are_octets (vals_view (drop l.item-index l.item-items)) ≡ true)
    × (vals_tokens (vals_view l.fn.items) ≡ vals_tokens (vals_view (drop l.item-index l.item-items)))
    × ((rest : List ℕ) → bytes_of (vals_view (drop l.item-index l.item-items)) ≡ Some rest
    → bytes_of (vals_view l.fn.items) ≡ Some (l.bytes ++ rest))
