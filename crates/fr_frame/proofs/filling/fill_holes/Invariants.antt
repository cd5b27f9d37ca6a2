use Rattle.std.proofs.Common.{◌≡◌}
use Rattle.fr_frame.specs.Common.{as_fields, column_of, shape_of}
use Rattle.fr_frame.specs.Asking.{defaulted_first}
use Rattle.fr_frame.proofs.filling.fill_holes.Given as goal

abbrev pub invariant-loop-i : goal.invariant-loop-i
invariant-loop-i l =
    l.children
    ≡ defaulted_first (column_of l.fn.column) l.table (shape_of l.plan l.fn.node) (as_fields l.fn.selected) 0 l.i l.initial.children
