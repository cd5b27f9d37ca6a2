use Rattle.std.proofs.Common.{sym, ◌∙◌}
use Rattle.fr_frame.specs.Common.{as_tracker, cells_occur, occurs, view}
use Rattle.fr_frame.proofs.BodyValues.{as_before, begun_occurs, boxes_as_it_is}
use Rattle.fr_frame.proofs.assembling.value_of_begun.Goals as goal

pub returns-in-Ok-clause-conserved : goal.returns-in-Ok-clause-conserved
returns-in-Ok-clause-conserved c =
    as_before (cells_occur c.args.children) (occurs (view c.value_made.result)) c.args.ledger.now
    (begun_occurs (as_tracker c.args.tracker.now) c.args.children (view c.value_made.result)
    (boxes_as_it_is (as_tracker c.args.tracker.now) (sym c.boxes.ensures ∙ c.if-not-boxes.false)) c.value_made.ensures)
