use Rattle.fr_frame.specs.Common.{as_tracker}
use Rattle.fr_frame.proofs.BodyValues.{one_listed}
use Rattle.fr_frame.proofs.assembling.value_made.Goals as goal

pub value_in_box-requires-clause-one : goal.value_in_box-requires-clause-one
value_in_box-requires-clause-one c around =
    one_listed (as_tracker c.args.tracker.now) c.args.children c.into_values.result.items around c.requires.there
    c.into_values.ensures.values
