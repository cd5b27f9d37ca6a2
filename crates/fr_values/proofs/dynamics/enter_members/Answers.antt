use Rattle.std.proofs.Common.{map, sym, ◌∙◌, arith}
use Rattle.fr_values.specs.Common.{into_iter_items}
use Rattle.std.proofs.lemmas.List.{nil_from_length}
use Rattle.fr_values.proofs.DynamicParts.{member_cell, member_cells, entered_all}
use Rattle.fr_values.proofs.dynamics.enter_members.Goals as goal

pub returns : goal.returns
returns c =
    let rest = into_iter_items c.loop-member.rest in
    let done = c.in_default.ensures.cases.0 in
    entered_all member_cell c.loop-member.children c.loop-member.i rest (map member_cell c.args.members.items)
    (nil_from_length rest (omega (arith, c.loop-member.invariant.count))) (omega (arith, c.loop-member.invariant.number))
    c.loop-member.invariant.entered ∙ sym (member_cells c.args.members.items)
