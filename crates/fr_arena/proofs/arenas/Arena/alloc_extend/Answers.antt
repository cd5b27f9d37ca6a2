use Rattle.std.proofs.Common.{◌≡◌, ◌++◌, length, rules}
use Rattle.fr_arena.specs.Ranges.{indices_from}
use Rattle.fr_arena.proofs.Items.{items_follow, range_behind}
use Rattle.fr_arena.proofs.arenas.Arena.alloc_extend.Goals as goal

pub returns-clause-range : goal.returns-clause-range
returns-clause-range g c =
    let now = c.append_all.new.values.items in
    let was = c.self.inside.values.items in
    items_follow g.I.IntoIterator.into_iter_gives g.I.IntoIter.Iterator.next_gives c.args.values
    (λ xs. now ≡ was ++ xs)
    (λ xs. (now ≡ c.args.self.now ++ xs) × (c.new.result ≡ indices_from (length c.args.self.now) (length xs)))
    (λ xs grew.
    let both = range_behind c.args.self.now was now xs c.len-start.result c.len.result c.self.view_is (search rules) (search rules) grew in
    (both.0, search (c.new.ensures, both.1, rules)))
    c.in_ok-append_all.ensures.appended
