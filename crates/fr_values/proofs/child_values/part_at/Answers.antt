use Rattle.std.proofs.Common.{◌/◌, arith}
use Rattle.fr_values.proofs.EntriesInTurn.{key_at, value_at}
use Rattle.fr_values.proofs.child_values.part_at.Goals as goal

pub returns-then-i-eq0 : goal.returns-then-i-eq0
returns-then-i-eq0 c =
    key_at c.args.entries.now c.args.i (c.args.i / 2) c.index-entries-i.result (omega arith) (omega arith) c.index-entries-i.is

pub returns-else-i-eq0 : goal.returns-else-i-eq0
returns-else-i-eq0 c =
    value_at c.args.entries.now c.args.i (c.args.i / 2) c.index-entries-i.result (omega arith) (omega arith) c.index-entries-i.is
