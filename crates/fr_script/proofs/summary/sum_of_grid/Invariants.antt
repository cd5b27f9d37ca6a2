use Rattle.std.proofs.Common.{◌≡◌, ◌+◌, ◌≤◌, min, drop}
use Rattle.fr_shape.specs.View.{vals_view}
use Rattle.fr_script.specs.Summaries.{sum_of_cells}
use Rattle.fr_script.proofs.summary.sum_of_grid.Given as goal

abbrev pub invariant-loop-cell : goal.invariant-loop-cell
invariant-loop-cell l = record {
  sum :
      min (l.sum + sum_of_cells (vals_view (drop l.cell-index l.cell-items))) 18446744073709551615
      ≡ min (sum_of_cells (vals_view l.cell-items)) 18446744073709551615;
  low : l.sum ≤ 18446744073709551615;
}
