use Rattle.std.proofs.Common.{◌≡◌, ◌+◌, ◌++◌, length, map, take}
use Rattle.fr_values.specs.Common.{into_iter_items, into_iter_len}
use Rattle.fr_values.proofs.DynamicParts.{member_cell}
use Rattle.fr_values.proofs.dynamics.enter_members.Given as goal

abbrev pub invariant-loop-member : goal.invariant-loop-member
invariant-loop-member l = record {
  entered : take l.i l.children ++ map member_cell (into_iter_items l.rest) ≡ map member_cell l.fn.members.items;
  count : into_iter_len l.rest ≡ length (into_iter_items l.rest);
  number : l.i + into_iter_len l.rest ≡ length l.children;
}

abbrev pub decreases-loop-member : goal.decreases-loop-member
decreases-loop-member l = into_iter_len l.rest
