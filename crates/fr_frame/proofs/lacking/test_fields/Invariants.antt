use Rattle.std.proofs.Common.{◌≡◌, drop}
use Rattle.fr_frame.specs.Common.{as_fields, ask, cells_or_holes, child_count, first_asked, option_copied, shape_of}
use Rattle.fr_frame.proofs.lacking.test_fields.Given as goal

abbrev pub invariant-loop-i : goal.invariant-loop-i
invariant-loop-i g l =
    first_asked (ask l.fn.question (g.H.Hooks.means l.hooks) l.table (shape_of l.plan l.fn.node) (as_fields l.fn.selected)) 0
    (cells_or_holes (child_count l.table (shape_of l.plan l.fn.node)) (option_copied l.fn.children))
    ≡ first_asked (ask l.fn.question (g.H.Hooks.means l.hooks) l.table (shape_of l.plan l.fn.node) (as_fields l.fn.selected)) l.i
    (drop l.i (cells_or_holes (child_count l.table (shape_of l.plan l.fn.node)) (option_copied l.fn.children)))
