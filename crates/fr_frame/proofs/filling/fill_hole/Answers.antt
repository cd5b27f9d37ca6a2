use Rattle.std.proofs.Common.{Option, sym, ◌∙◌, ap}
use Rattle.fr_frame.specs.Common.{Val, column_of, defaulted_nth, field_fill, is_some, option_map, value_at, view}
use Rattle.fr_frame.proofs.FillingHoles.{copied_some, not_some, nth_there, nth_nothing, nth_fill}
use Rattle.fr_frame.proofs.filling.fill_hole.Goals as goal

pub returns-then-is_some-clause-filled : goal.returns-then-is_some-clause-filled
returns-then-is_some-clause-filled c =
    sym (nth_there (field_fill (column_of c.args.column) c.args.table.now c.args.told.now.field) c.args.i c.args.children.now
    (ap is_some (sym c.value.ensures.value) ∙ copied_some view c.value.result ∙ sym c.if-is_some.ensures))

pub returns-in-Some-clause-filled : goal.returns-in-Some-clause-filled
returns-in-Some-clause-filled c =
    c.put.ensures.put ∙ nth_fill (view c.in-Some.copy) c.args.i c.args.children.now (not_some (value_at c.args.children.now c.args.i)
    (ap is_some (sym c.value.ensures.value) ∙ copied_some view c.value.result ∙ sym c.if-is_some.ensures)) c.requires.closed
    ∙ ap (λ (fill : Option Val). defaulted_nth fill c.args.i c.args.children.now)
    (sym (ap (option_map view) c.in-Some.is) ∙ c.in_ok-copy.ensures)

pub returns-in_default-clause-filled : goal.returns-in_default-clause-filled
returns-in_default-clause-filled c =
    sym (nth_nothing c.args.i c.args.children.now) ∙ ap (λ (fill : Option Val). defaulted_nth fill c.args.i c.args.children.now)
    (sym (ap (option_map view) c.in_default.is) ∙ c.in_ok-copy.ensures)
