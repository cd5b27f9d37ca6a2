use Rattle.std.proofs.Common.{◌≡◌, length}
use Rattle.fr_plan.proofs.ShapeFields.{AreKeptBelow}
use Rattle.fr_plan.proofs.shape_fields.all_kept.Given as goal

abbrev pub invariant-loop-i : goal.invariant-loop-i
invariant-loop-i l = record {
  long : length l.kept ≡ l.i;
  kept : AreKeptBelow l.i l.table l.marks l.kept;
}
