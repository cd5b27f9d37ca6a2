use Rattle.std.proofs.Common.{◌≡◌, ℕ, List, [], ◌∷◌, ◌++◌, length, ap, sym, ◌∙◌}
use Rattle.fr_values.specs.Common.{Cell, absent, has_same_cell, view, without_cell}
use Rattle.fr_values.proofs.SetChildren.{comes_behind, comes_last, item_kept, item_released, same_moved, there_already}
use Rattle.fr_values.proofs.children.Children.end_item.Goals as goal

-- it is behind the others
behind : (i : ℕ) (all before moved : List Cell) → before ≡ all → moved ≡ without_cell i before ++ absent ∷ []
    → moved ≡ without_cell i all ++ absent ∷ []
behind i all before moved e is = is ∙ ap (λ (cs : List Cell). without_cell i cs ++ absent ∷ []) e

pub returns-then-is_there-clause-ended : goal.returns-then-is_there-clause-ended
returns-then-is_there-clause-ended c =
    c.pop.ensures.rest (without_cell c.args.i c.args.self.now) absent
    (behind c.args.i c.args.self.now c.index_more.new.self c.move_last-last.new.self c.index_more.ensures
    c.move_last-last.ensures.moved) ∙ there_already (view c.args.value) c.args.i c.args.self.now c.requires.absent
    (ap (has_same_cell (view c.args.value)) (sym c.index_more.ensures) ∙ sym c.has_same-is_there.ensures ∙ c.if-is_there.true)

pub returns-then-is_there-clause-conserved : goal.returns-then-is_there-clause-conserved
returns-then-is_there-clause-conserved c =
    item_released (view c.args.value) c.args.i c.args.self.now c.pop.new.self c.args.ledger.now c.release.new.ledger
    c.requires.absent (c.pop.ensures.rest (without_cell c.args.i c.args.self.now) absent
    (behind c.args.i c.args.self.now c.index_more.new.self c.move_last-last.new.self c.index_more.ensures
    c.move_last-last.ensures.moved)) c.release.ensures.released

pub returns-else-is_there-clause-ended : goal.returns-else-is_there-clause-ended
returns-else-is_there-clause-ended c =
    c.put_new.ensures ∙ comes_last (view c.args.value) c.args.i c.args.self.now c.move_last-last.new.self c.move_last-last.result
    c.requires.absent
    (ap (has_same_cell (view c.args.value)) (sym c.index_more.ensures) ∙ sym c.has_same-is_there.ensures ∙ c.if-is_there.false)
    (behind c.args.i c.args.self.now c.index_more.new.self c.move_last-last.new.self c.index_more.ensures
    c.move_last-last.ensures.moved)
    (c.move_last-last.ensures.last ∙ ap (λ (cs : List Cell). length (without_cell c.args.i cs)) c.index_more.ensures)

pub returns-else-is_there-clause-conserved : goal.returns-else-is_there-clause-conserved
returns-else-is_there-clause-conserved c =
    item_kept (view c.args.value) c.args.i c.args.self.now c.put_new.new.self c.args.ledger.now c.requires.absent
    (comes_behind (view c.args.value) c.args.i c.args.self.now c.put_new.new.self c.requires.absent
    (ap (has_same_cell (view c.args.value)) (sym c.index_more.ensures) ∙ sym c.has_same-is_there.ensures ∙ c.if-is_there.false)
    (c.put_new.ensures ∙ comes_last (view c.args.value) c.args.i c.args.self.now c.move_last-last.new.self c.move_last-last.result
    c.requires.absent
    (ap (has_same_cell (view c.args.value)) (sym c.index_more.ensures) ∙ sym c.has_same-is_there.ensures ∙ c.if-is_there.false)
    (behind c.args.i c.args.self.now c.index_more.new.self c.move_last-last.new.self c.index_more.ensures
    c.move_last-last.ensures.moved)
    (c.move_last-last.ensures.last ∙ ap (λ (cs : List Cell). length (without_cell c.args.i cs)) c.index_more.ensures)))

pub put_new-requires-clause-new : goal.put_new-requires-clause-new
put_new-requires-clause-new c =
    same_moved (view c.args.value) c.args.i c.args.self.now c.move_last-last.new.self c.requires.absent
    (behind c.args.i c.args.self.now c.index_more.new.self c.move_last-last.new.self c.index_more.ensures c.move_last-last.ensures.moved)
    ∙ ap (has_same_cell (view c.args.value)) (sym c.index_more.ensures) ∙ sym c.has_same-is_there.ensures ∙ c.if-is_there.false
