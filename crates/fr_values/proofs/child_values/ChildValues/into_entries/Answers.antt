use Rattle.std.proofs.Common.{length, ap, arith}
use Rattle.fr_values.proofs.EntriesInTurn.{parts_count}
use Rattle.fr_values.proofs.child_values.ChildValues.into_entries.Goals as goal

pub returns-in-Ok-clause-room : goal.returns-in-Ok-clause-room
returns-in-Ok-clause-room c =
    omega (arith, c.in-Ok.ensures.ok, ap (λ vs. length vs) c.self.view_is, ap (λ vs. length vs) c.spread.ensures.kept, parts_count c.spread.new.entries.items c.spread.new.values.items)
