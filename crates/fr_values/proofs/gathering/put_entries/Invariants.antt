use Rattle.std.proofs.Common.{◌≡◌, ◌≤◌, ◌+◌, ◌*◌, length, drop, vec_len, vec_capacity}
use Rattle.fr_values.specs.Common.{Conserved, both, entries_in, entries_occur, entries_view, entry_places, into_iter_items, into_iter_len, vals_occur, vals_view}
use Rattle.fr_values.proofs.gathering.put_entries.Given as goal

abbrev pub invariant-loop-key : goal.invariant-loop-key
invariant-loop-key l = record {
  merged : entries_in (entries_view l.entries.items) (vals_view (into_iter_items l.rest)) ≡ entries_in (entries_view l.fn.entries.items) (vals_view (into_iter_items l.fn.rest));
  placed : drop l.i l.places ≡ entry_places (entries_view l.entries.items) (vals_view (into_iter_items l.rest));
  count : into_iter_len l.rest ≡ length (into_iter_items l.rest);
  space : 2 * vec_len l.entries + into_iter_len l.rest ≤ 2 * vec_capacity l.entries + 1;
  conserved : Conserved (both (entries_occur (entries_view l.fn.entries.items)) (vals_occur (vals_view (into_iter_items l.fn.rest)))) l.fn.ledger (both (entries_occur (entries_view l.entries.items)) (vals_occur (vals_view (into_iter_items l.rest)))) l.ledger;
}

abbrev pub decreases-loop-key : goal.decreases-loop-key
decreases-loop-key l = into_iter_len l.rest
