use Rattle.std.proofs.Common.{List, ap, sym, ◌∙◌}
use Rattle.fr_frame.specs.Common.{Cell, PartialValue, as_tracker, body_occurs, body_of, cells_occur, view}
use Rattle.fr_frame.proofs.BodyValues.{none_occur, parts_occur}
use Rattle.fr_frame.proofs.partial_values.open.Goals as goal

pub returns-in_ok-children-in-Entered-clause-tokens : goal.returns-in_ok-children-in-Entered-clause-tokens
returns-in_ok-children-in-Entered-clause-tokens c t =
    ap (λ (p : PartialValue). body_occurs (body_of p) t) c.put_first.ensures
    ∙ ap (λ (cs : List Cell). cells_occur cs t) c.in_ok-children-in-Entered.ensures.absent ∙ none_occur c.args.count t
    ∙ sym (ap (λ (p : PartialValue). body_occurs (body_of p) t) c.in-Entered.is)

pub returns-in_ok-over-in-Whole-clause-tokens : goal.returns-in_ok-over-in-Whole-clause-tokens
returns-in_ok-over-in-Whole-clause-tokens c t =
    ap (λ (p : PartialValue). body_occurs (body_of p) t) c.replace.ensures.after
    ∙ parts_occur (as_tracker c.args.tracker) (view c.in-Whole.value) c.in_ok-over-in-Whole.children t c.in_ok-over-in-Whole.ensures.parts
    ∙ sym (ap (λ (p : PartialValue). body_occurs (body_of p) t) c.in-Whole.is)
