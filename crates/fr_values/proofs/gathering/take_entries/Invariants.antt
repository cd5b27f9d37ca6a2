use Rattle.std.proofs.Common.{◌≡◌, ◌++◌, ◌+◌, ◌*◌, length, vec_capacity}
use Rattle.fr_values.specs.Common.{into_iter_items, into_iter_len, parts_of_entries}
use Rattle.fr_values.proofs.gathering.take_entries.Given as goal

abbrev pub invariant-loop-taken : goal.invariant-loop-taken
invariant-loop-taken l = record {
  taken : parts_of_entries l.fn.entries.items ++ into_iter_items l.fn.rest ≡ parts_of_entries l.entries.items ++ into_iter_items l.rest;
  count : length l.entries.items ≡ l._taken;
  left : into_iter_len l.rest ≡ length (into_iter_items l.rest);
  enough : 2 * l._taken + into_iter_len l.rest ≡ 2 * length l.fn.entries.items + into_iter_len l.fn.rest;
  capacity : vec_capacity l.entries ≡ vec_capacity l.fn.entries;
}
