use Rattle.std.proofs.Common.{◌≡◌, take, true}
use Rattle.std.specs.BTreeSet as sorted
use Rattle.std.specs.List.{list_any}
use Rattle.fr_shape.specs.Distinct.{distinct}
use Rattle.fr_shape.proofs.repeated.first_repeated.Given as goal

abbrev pub invariant-loop-i : goal.invariant-loop-i
invariant-loop-i g l = record {
  distinct : distinct g.K.PartialEq.eq (take l.i l.keys) ≡ true;
  holds : (q : g.row.K.Denot) → sorted.contains g.K.Ord.cmp l.earlier q ≡ list_any (g.K.PartialEq.eq q) (take l.i l.keys);
}
