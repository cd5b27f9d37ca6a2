use Rattle.std.proofs.Common.{map, sym, ◌∙◌, arith}
use Rattle.fr_values.specs.Common.{into_iter_items}
use Rattle.std.proofs.lemmas.List.{nil_from_length}
use Rattle.fr_values.proofs.DynamicParts.{element_cell, element_cells, entered_all}
use Rattle.fr_values.proofs.dynamics.enter_elements.Goals as goal

pub returns : goal.returns
returns c =
    let rest = into_iter_items c.loop-element.rest in
    let done = c.in_default.ensures.cases.0 in
    entered_all element_cell c.loop-element.children c.loop-element.i rest (map element_cell c.args.elements.items)
    (nil_from_length rest (omega (arith, c.loop-element.invariant.count))) (omega (arith, c.loop-element.invariant.number))
    c.loop-element.invariant.entered ∙ sym (element_cells c.args.elements.items)
