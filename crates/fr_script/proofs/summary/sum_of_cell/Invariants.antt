use Rattle.std.proofs.Common.{◌≡◌, ◌+◌, ◌≤◌, min, drop}
use Rattle.fr_shape.specs.View.{vals_view}
use Rattle.fr_script.specs.Summaries.{numbers_in}
use Rattle.fr_script.proofs.summary.sum_of_cell.Given as goal

abbrev pub invariant-loop-part : goal.invariant-loop-part
invariant-loop-part l = record {
  sum :
      min (l.sum + numbers_in (vals_view (drop l.part-index l.part-items))) 18446744073709551615
      ≡ min (numbers_in (vals_view l.part-items)) 18446744073709551615;
  low : l.sum ≤ 18446744073709551615;
}
