use Rattle.std.proofs.Common.{◌≤◌, vec_len}
use Rattle.fr_values.proofs.value_index.ValueIndex.first_absorbed.Given as goal

abbrev pub invariant-loop-from : goal.invariant-loop-from
invariant-loop-from l = l.from ≤ vec_len l.self.runs

abbrev pub decreases-loop-from : goal.decreases-loop-from
decreases-loop-from l = l.from
