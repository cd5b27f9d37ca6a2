use Rattle.std.proofs.Common.{length, ap, arith}
use Rattle.fr_values.proofs.EntriesInTurn.{parts_count}
use Rattle.fr_values.proofs.child_values.ChildValues.len.Goals as goal

pub returns : goal.returns
returns c = record {
  count = omega (arith, ap (λ vs. length vs) c.self.view_is, parts_count c.self.inside.entries.items c.self.inside.values.items);
}
