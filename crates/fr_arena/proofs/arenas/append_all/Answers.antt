use Rattle.std.proofs.Common.{◌≡◌, ◌++◌, sym, ◌∙◌}
use Rattle.fr_arena.proofs.Items.{all_items}
use Rattle.fr_arena.proofs.arenas.append_all.Goals as goal

pub returns-clause-appended : goal.returns-clause-appended
returns-clause-appended g c =
    let ran = c.extend.ensures.ran in
    all_items g.I.IntoIterator.into_iter_gives g.I.IntoIter.Iterator.next_gives c.args.more (λ xs. c.extend.new.self.items ≡ c.args.values.now.items ++ xs) c.extend.result
    (sym c.is_err.ensures.value ∙ c.if-is_err.false) (ran.0, ran.1, ran.2, ran.3.0, ran.4)
