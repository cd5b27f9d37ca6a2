use Rattle.std.proofs.Common.{◌≡◌, ◌≤◌, ◌+◌, length, drop, vec_len, vec_capacity}
use Rattle.fr_values.specs.Common.{Conserved, both, into_iter_items, into_iter_len, item_places, items_in, vals_occur, vals_view}
use Rattle.fr_values.proofs.gathering.keep_items.Given as goal

abbrev pub invariant-loop-item : goal.invariant-loop-item
invariant-loop-item l = record {
  distinct : items_in (vals_view l.kept.items) (vals_view (into_iter_items l.rest)) ≡ items_in (vals_view l.fn.kept.items) (vals_view l.fn.items.items);
  placed : drop l.i l.places ≡ item_places (vals_view l.kept.items) (vals_view (into_iter_items l.rest));
  count : into_iter_len l.rest ≡ length (into_iter_items l.rest);
  space : vec_len l.kept + into_iter_len l.rest ≤ vec_capacity l.kept;
  conserved : Conserved (both (vals_occur (vals_view l.fn.kept.items)) (vals_occur (vals_view l.fn.items.items))) l.fn.ledger (both (vals_occur (vals_view l.kept.items)) (vals_occur (vals_view (into_iter_items l.rest)))) l.ledger;
}

abbrev pub decreases-loop-item : goal.decreases-loop-item
decreases-loop-item l = into_iter_len l.rest
