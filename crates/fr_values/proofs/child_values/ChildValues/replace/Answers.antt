use Rattle.std.proofs.Common.{◌-◌, ◌*◌, ◌++◌, List, get_or, set, length, ap, arith, sym, ◌∙◌}
use Rattle.fr_values.specs.Common.{Value, parts_of_entries}
use Rattle.fr_values.proofs.EntriesInTurn.{parts_count, part_behind, put_behind}
use Rattle.fr_values.proofs.child_values.ChildValues.replace.Goals as goal

pub index_mut-requires : goal.index_mut-requires
index_mut-requires c =
    omega (arith, ap (λ vs. length vs) c.self.view_is, ap (λ vs. length vs) c.spread.ensures.kept, parts_count c.spread.new.entries.items c.spread.new.values.items)

pub returns-clause-replaced : goal.returns-clause-replaced
returns-clause-replaced c =
    ap (λ (v : Value). parts_of_entries c.spread.new.entries.items ++ set c.spread.new.values.items (c.args.i - 2 * c.len.result) v) c.replace.ensures.after
    ∙ put_behind c.spread.new.entries.items c.spread.new.values.items (2 * c.len.result) c.args.i c.args.value (omega arith) (omega arith)
    ∙ ap (λ (vs : List Value). set vs c.args.i c.args.value) (c.spread.ensures.kept ∙ c.self.view_is)

pub returns-clause-held : goal.returns-clause-held
returns-clause-held c =
    let x = c.replace.result in
    part_behind c.spread.new.entries.items c.spread.new.values.items (2 * c.len.result) c.args.i x (omega arith) (omega arith)
    (ap (λ (v : Value). v) c.replace.ensures.value ∙ c.index_mut.ensures.value
    ∙ ap (λ (v : Value). get_or c.spread.new.values.items (c.args.i - 2 * c.len.result) v) (sym c.replace.ensures.value))
    ∙ ap (λ (vs : List Value). get_or vs c.args.i x) (c.spread.ensures.kept ∙ c.self.view_is)
