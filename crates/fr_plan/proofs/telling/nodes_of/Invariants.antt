use Rattle.std.proofs.Common.{◌≡◌, take, length}
use Rattle.fr_plan.specs.Nodes.{AreNodes}
use Rattle.fr_plan.proofs.telling.nodes_of.Given as goal

abbrev pub invariant-loop-i : goal.invariant-loop-i
invariant-loop-i l = record {
  told : AreNodes l.table l.lists (take l.i l.outlines) l.nodes;
  long : length l.nodes ≡ l.i;
}
