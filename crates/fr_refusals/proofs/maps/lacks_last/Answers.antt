use Rattle.std.proofs.Common.{sym, ap, ◌∙◌}
use Rattle.std.specs.Option.{option_and_then}
use Rattle.fr_values.specs.Cells.{slot_of_cell, value_of_cell}
use Rattle.fr_refusals.proofs.LastIsThere.{absent_cell, ends_so, given_cell, placed_cell}
use Rattle.fr_refusals.proofs.maps.lacks_last.Goals as goal

pub returns-in-None-None : goal.returns-in-None-None
returns-in-None-None c =
    let ends = ends_so c.args.children.now c.len-count.result c.len-count.ensures.count c.if-count-eq0.false in
    sym (ends.2 ∙ absent_cell ends.0 (sym (c.in-None-None.ensures.value ∙ ap (option_and_then value_of_cell) ends.1))
    (sym (c.in-None-None.ensures'.slot ∙ ap (option_and_then slot_of_cell) ends.1)))

pub returns-in-Some-default : goal.returns-in-Some-default
returns-in-Some-default c =
    let ends = ends_so c.args.children.now c.len-count.result c.len-count.ensures.count c.if-count-eq0.false in
    sym (ends.2 ∙ placed_cell ends.0 _ (sym (c.in-Some-default.ensures.slot ∙ ap (option_and_then slot_of_cell) ends.1)))

pub returns-in-Some-default-2 : goal.returns-in-Some-default-2
returns-in-Some-default-2 c =
    let ends = ends_so c.args.children.now c.len-count.result c.len-count.ensures.count c.if-count-eq0.false in
    let got = rw c.in-Some-default.is-0 at c.value.ensures.value in
    sym (ends.2 ∙ given_cell ends.0 _ (sym (got ∙ ap (option_and_then value_of_cell) ends.1)))
