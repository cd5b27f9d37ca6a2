use Rattle.fr_moves.specs.Common.{ItemsKind, as_items, begun_as, closed_slice, top_tree}
use Rattle.fr_moves.proofs.KeepLaws.{became_marked, changed_as}
use Rattle.fr_moves.proofs.SlicePointerLaws.{closed_alike, open_there}
use Rattle.fr_moves.proofs.slices.close_slice.Goals as goal

pub reform-requires-clause-is_open : goal.reform-requires-clause-is_open
reform-requires-clause-is_open c = record { plan = c.requires.are_open.plan; is_open = c.requires.are_open.are_open.shown }

pub reform-requires-clause-slice : goal.reform-requires-clause-slice
reform-requires-clause-slice c = open_there (top_tree c.args.frames.now) c.requires.open_slice

pub returns-clause-changed : goal.returns-clause-changed
returns-clause-changed c plan open_now =
    changed_as (begun_as (as_items ItemsKind.ClosedSlice)) closed_slice (closed_alike (top_tree c.args.frames.now))
    (became_marked open_now c.reform.ensures.marks (c.reform.ensures.reformed plan open_now.shown))
