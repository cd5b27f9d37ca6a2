use Rattle.std.proofs.Common.{◌≡◌, ◌≤◌, ◌+◌, ◌++◌, length, map, vec_len, vec_capacity}
use Rattle.fr_values.specs.Common.{Conserved, into_iter_items, into_iter_len, names_of, vals_occur, vals_view}
use Rattle.fr_shape.specs.View.{member_view}
use Rattle.fr_values.proofs.DynamicParts.{pairs_in}
use Rattle.fr_values.proofs.dynamics.put_members.Given as goal

abbrev pub invariant-loop-value : goal.invariant-loop-value
invariant-loop-value l = record {
  made : map member_view l.members.items ++ pairs_in (names_of (into_iter_items l.names_left)) (into_iter_items l.rest) ≡ pairs_in (names_of l.fn.names.items) l.fn.values.items;
  count : into_iter_len l.rest ≡ length (into_iter_items l.rest);
  names : into_iter_len l.names_left ≡ length (into_iter_items l.names_left);
  space : vec_len l.members + into_iter_len l.names_left ≤ vec_capacity l.members;
  conserved : Conserved (vals_occur (vals_view l.fn.values.items)) l.fn.ledger (vals_occur (vals_view (into_iter_items l.rest))) l.ledger;
}

abbrev pub decreases-loop-value : goal.decreases-loop-value
decreases-loop-value l = into_iter_len l.rest
