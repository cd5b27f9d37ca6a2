use Rattle.std.proofs.Common.{◌≡◌, ◌≤◌, ◌+◌, ◌++◌, length, map, vec_len, vec_capacity}
use Rattle.fr_values.specs.Common.{Conserved, dyn_view, into_iter_items, into_iter_len, vals_occur, vals_view}
use Rattle.fr_values.proofs.DynamicParts.{dynamic_of}
use Rattle.fr_values.proofs.dynamics.put_elements.Given as goal

abbrev pub invariant-loop-value : goal.invariant-loop-value
invariant-loop-value l = record {
  made : map dyn_view l.elements.items ++ map dynamic_of (into_iter_items l.rest) ≡ map dynamic_of l.fn.values.items;
  count : into_iter_len l.rest ≡ length (into_iter_items l.rest);
  space : vec_len l.elements + into_iter_len l.rest ≤ vec_capacity l.elements;
  conserved : Conserved (vals_occur (vals_view l.fn.values.items)) l.fn.ledger (vals_occur (vals_view (into_iter_items l.rest))) l.ledger;
}

abbrev pub decreases-loop-value : goal.decreases-loop-value
decreases-loop-value l = into_iter_len l.rest
