use Rattle.std.proofs.Common.{◌≡◌, ◌+◌, ◌++◌, length, map, take}
use Rattle.fr_values.specs.Common.{into_iter_items, into_iter_len}
use Rattle.fr_values.proofs.DynamicParts.{element_cell}
use Rattle.fr_values.proofs.dynamics.enter_elements.Given as goal

abbrev pub invariant-loop-element : goal.invariant-loop-element
invariant-loop-element l = record {
  entered : take l.i l.children ++ map element_cell (into_iter_items l.rest) ≡ map element_cell l.fn.elements.items;
  count : into_iter_len l.rest ≡ length (into_iter_items l.rest);
  number : l.i + into_iter_len l.rest ≡ length l.children;
}

abbrev pub decreases-loop-element : goal.decreases-loop-element
decreases-loop-element l = into_iter_len l.rest
