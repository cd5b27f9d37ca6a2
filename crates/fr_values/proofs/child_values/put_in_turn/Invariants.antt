use Rattle.std.proofs.Common.{◌≡◌, ◌≤◌, ◌+◌, ◌*◌, ◌++◌, length, vec_len, vec_capacity}
use Rattle.fr_values.specs.Common.{into_iter_items, into_iter_len, parts_of_entries}
use Rattle.fr_values.proofs.child_values.put_in_turn.Given as goal

abbrev pub invariant-loop-key : goal.invariant-loop-key
invariant-loop-key l = record {
  put : l.values.items ++ parts_of_entries (into_iter_items l.rest) ≡ l.fn.values.items ++ parts_of_entries l.fn.entries.items;
  count : into_iter_len l.rest ≡ length (into_iter_items l.rest);
  space : vec_len l.values + 2 * into_iter_len l.rest ≤ vec_capacity l.values;
  capacity : vec_capacity l.values ≡ vec_capacity l.fn.values;
}

abbrev pub decreases-loop-key : goal.decreases-loop-key
decreases-loop-key l = into_iter_len l.rest
