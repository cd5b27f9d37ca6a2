use Rattle.std.proofs.Common.{sym, subst}
use Rattle.fr_frame.specs.Common.{AreUnplaced}
use Rattle.fr_frame.proofs.FillingHoles.{none_placed}
use Rattle.fr_frame.proofs.filling.struct_of_fills.Goals as goal

pub fill_holes-requires-clause-closed : goal.fill_holes-requires-clause-closed
fill_holes-requires-clause-closed c = subst AreUnplaced (sym c.in_ok-children.ensures.absent) (none_placed c.args.count)
