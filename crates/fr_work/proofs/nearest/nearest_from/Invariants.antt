use Rattle.std.proofs.Common.{◌-◌}
use Rattle.fr_work.proofs.NearestLaws.{IsNearing}
use Rattle.fr_work.proofs.nearest.nearest_from.Given as goal

abbrev pub invariant-loop-level : goal.invariant-loop-level
invariant-loop-level l =
    IsNearing l.frames.table.now l.frames.root.0 l.plan l.frames.slots l.frames.stack l.at.0 (l.levels - l._level)
