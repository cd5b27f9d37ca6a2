use Rattle.std.proofs.Common.{◌≡◌, length}
use Rattle.fr_frame.specs.Common.{FreesItems, children_with, held_items, with_items}
use Rattle.fr_frame.proofs.DrainLaws.{HoldsFrom}
use Rattle.fr_frame.proofs.draining.put_items.Given as goal

-- the children that are to come out are those there are now with the items that are left, from number `at` on
abbrev pub invariant-loop-slot : goal.invariant-loop-slot
invariant-loop-slot l = record {
  freed : FreesItems l.list.0 l.fn.entries l.entries;
  held : HoldsFrom l.list.0 l.at l.fn.entries l.entries;
  children : with_items (held_items l.fn.entries) l.list.0 0 l.at l.children l.slots
      ≡ children_with (held_items l.fn.entries) l.list.0 l.fn.children l.fn.items.value.items;
}

abbrev pub decreases-loop-slot : goal.decreases-loop-slot
decreases-loop-slot l = length l.slots
