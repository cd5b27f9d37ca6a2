use Rattle.std.proofs.Common.{◌≡◌, ◌+◌, Option, Some, length, sym, subst, rules, arith}
use Rattle.fr_frame.specs.Common.{IfSome, Vals, cells_of_vals, entries_of, entries_view, in_turn, the_lemmas, view}
use Rattle.fr_frame.proofs.ChildrenOfMaps.{entry_count}
use Rattle.fr_frame.proofs.splitting.count_entries.Goals as goal

pub returns : goal.returns
returns c =
    let shown : entries_of (view c.args.value.now) ≡ Some (in_turn (entries_view c.in-Map.entries)) = search (rules, the_lemmas) in
    subst (λ (o : Option Vals). IfSome o (λ vs. c.len.result + c.len.result ≡ length (cells_of_vals vs))) (sym shown)
    (omega (arith, c.len.ensures.count, entry_count c.in-Map.entries))
