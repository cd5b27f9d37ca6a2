use Rattle.std.proofs.Common.{◌≡◌, drop}
use Rattle.std.specs.Cmp.Lexicographic.{slice_cmp}
use Rattle.fr_path.specs.Order.{step_order}
use Rattle.fr_path.proofs.paths.Path.cmp_walk.Given as goal

abbrev pub invariant-loop-i : goal.invariant-loop-i
invariant-loop-i l = slice_cmp step_order l.left l.right ≡ slice_cmp step_order (drop l.i l.left) (drop l.i l.right)
