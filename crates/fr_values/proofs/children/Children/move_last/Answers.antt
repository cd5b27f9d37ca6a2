use Rattle.std.proofs.Common.{ap, sym, ◌∙◌, length, List, slice_get, arith}
use Rattle.fr_values.specs.Common.{Cell, absent, without_cell}
use Rattle.fr_values.specs.Cells.{swapped}
use Rattle.fr_values.proofs.SetChildren.{next_number, one_back, one_get, one_last, one_length, one_next, with_one, without_length}
use Rattle.fr_values.proofs.children.Children.move_last.Goals as goal

pub loop-at-init : goal.loop-at-init
loop-at-init c = sym (one_back c.args.i absent c.args.self.now c.requires)

pub move_back-requires-clause-inside : goal.move_back-requires-clause-inside
move_back-requires-clause-inside c =
    omega (
      arith,
      c.len-last.ensures.count,
      ap length c.loop-at.invariant ∙ one_length c.loop-at.at absent (without_cell c.args.i c.args.self.now),
      without_length c.args.i c.args.self.now absent c.requires,
    )

pub move_back-requires-clause-absent : goal.move_back-requires-clause-absent
move_back-requires-clause-absent c =
    ap (λ (cs : List Cell). slice_get cs c.loop-at.at) c.loop-at.invariant
    ∙ one_get c.loop-at.at absent (without_cell c.args.i c.args.self.now) (omega (arith, c.len-last.ensures.count, without_length c.args.i c.args.self.now absent c.requires))

pub loop-at-preserved : goal.loop-at-preserved
loop-at-preserved c =
    c.move_back.ensures ∙ ap (swapped c.loop-at.at) c.loop-at.invariant
    ∙ one_next c.loop-at.at absent (without_cell c.args.i c.args.self.now) (omega (arith, c.len-last.ensures.count, without_length c.args.i c.args.self.now absent c.requires))
    ∙ ap (λ n. with_one n absent (without_cell c.args.i c.args.self.now)) (next_number c.loop-at.at)

pub returns-clause-moved : goal.returns-clause-moved
returns-clause-moved c =
    c.loop-at.invariant ∙ one_last c.loop-at.at absent (without_cell c.args.i c.args.self.now)
    (omega (arith, c.len-last.ensures.count, without_length c.args.i c.args.self.now absent c.requires))

pub returns-clause-last : goal.returns-clause-last
returns-clause-last c =
    omega (arith, c.len-last.ensures.count, without_length c.args.i c.args.self.now absent c.requires)
