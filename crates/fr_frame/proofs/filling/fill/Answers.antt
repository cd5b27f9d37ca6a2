use Rattle.std.proofs.Common.{sym, ◌∙◌, ap, subst}
use Rattle.fr_frame.specs.Common.{Body, IsClosed, PartialValue, as_tracker, begun_body, body_occurs, body_of, column_of, defaulted, entered_body, shape_of}
use Rattle.fr_frame.proofs.FillingHoles.{has_filled, others_stay}
use Rattle.fr_frame.proofs.filling.fill.Goals as goal

pub returns-in_ok-filled-in-Entered-clause-tokens : goal.returns-in_ok-filled-in-Entered-clause-tokens
returns-in_ok-filled-in-Entered-clause-tokens c t =
    ap (λ (partial : PartialValue). body_occurs (body_of partial) t) c.put_first.ensures
    ∙ ap (λ (body : Body). body_occurs body t) c.in_ok-filled-in-Entered.ensures.filled
    ∙ (has_filled (column_of c.args.column) c.args.table.now (shape_of c.args.plan.now c.args.node) c.requires.checked entered_body).same_tokens t
    ∙ ap (λ (partial : PartialValue). body_occurs (body_of partial) t) (sym c.in-Entered.is)

pub returns-in_ok-filled-in-Entered-clause-closed : goal.returns-in_ok-filled-in-Entered-clause-closed
returns-in_ok-filled-in-Entered-clause-closed c =
    subst (λ (partial : PartialValue). IsClosed (body_of partial)) (sym c.put_first.ensures)
    (subst IsClosed (sym c.in_ok-filled-in-Entered.ensures.filled)
    ((has_filled (column_of c.args.column) c.args.table.now (shape_of c.args.plan.now c.args.node) c.requires.checked entered_body).closed tt))

pub returns-in-None-clause-filled : goal.returns-in-None-clause-filled
returns-in-None-clause-filled c =
    ap (begun_body (as_tracker c.in-Begun.tracker))
    (others_stay (column_of c.args.column) c.args.table.now (shape_of c.args.plan.now c.args.node) (as_tracker c.in-Begun.tracker)
    (sym c.in-None.ensures) 0 c.in-Begun.children)
    ∙ ap (λ (partial : PartialValue). defaulted (column_of c.args.column) c.args.table.now (shape_of c.args.plan.now c.args.node) (body_of partial))
    (sym c.in-Begun.is)
