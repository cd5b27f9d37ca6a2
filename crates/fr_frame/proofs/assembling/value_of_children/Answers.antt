use Rattle.std.proofs.Common.{List, map, sym, ◌∙◌, ap, refl}
use Rattle.fr_frame.specs.Common.{Room_same, Value, as_tracker, cells_occur, given, occurs, vals_occur, vals_view, view}
use Rattle.fr_shape.specs.TokenLaws.{Conserved_same}
use Rattle.fr_model.specs.Complete.{value_as}
use Rattle.fr_frame.proofs.BodyValues.{as_before, begun_occurs, boxless_value}
use Rattle.fr_values.specs.CellLaws.{values_occur, cells_by_values}
use Rattle.fr_frame.proofs.assembling.value_of_children.Goals as goal

pub returns-then-not-gathers-clause-conserved : goal.returns-then-not-gathers-clause-conserved
returns-then-not-gathers-clause-conserved c =
    as_before (cells_occur c.args.children) (occurs (view c.value_of_parts.result)) c.args.ledger.now
    (begun_occurs (as_tracker c.args.tracker.now) c.args.children (view c.value_of_parts.result)
    (sym c.gathers.ensures ∙ c.if-not-gathers.true)
    (boxless_value (as_tracker c.args.tracker.now) c.args.children (vals_view c.into_parts-parts.result.0)
    (view c.value_of_parts.result) c.requires.no_box c.into_parts-parts.ensures.values (c.value_of_parts.ensures
    ∙ ap (λ (vs : List Value). value_as (as_tracker c.args.tracker.now) (vals_view vs)) c.into_values.ensures.values)))

pub value_gathered-requires-clause-room : goal.value_gathered-requires-clause-room
value_gathered-requires-clause-room c =
    Room_same (cells_occur c.args.children) (vals_occur (vals_view c.into_parts-parts.result.0)) c.args.ledger.now
    (λ t. values_occur c.args.children (vals_view c.into_parts-parts.result.0) t c.into_parts-parts.ensures.values)
    c.requires.room

pub returns-in-Ok-clause-conserved : goal.returns-in-Ok-clause-conserved
returns-in-Ok-clause-conserved c =
    Conserved_same (vals_occur (vals_view c.into_parts-parts.result.0)) (cells_occur c.args.children) c.args.ledger.now
    (occurs (view c.in-Ok.value)) (occurs (view c.in-Ok.value)) c.value_gathered.new.ledger
    (λ t. sym (values_occur c.args.children (vals_view c.into_parts-parts.result.0) t c.into_parts-parts.ensures.values))
    (λ t. refl) c.in-Ok.ensures.conserved

pub returns-in-Err-clause-handed_back : goal.returns-in-Err-clause-handed_back
returns-in-Err-clause-handed_back c =
    c.of_parts.ensures.there ∙ ap (map (λ (v : Value). given (view v))) c.in-Err.ensures.handed_back
    ∙ sym (cells_by_values c.args.children c.into_parts-parts.result.0 c.into_parts-parts.ensures.values)
