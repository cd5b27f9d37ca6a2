use Rattle.std.proofs.Common.{◌≡◌, ◌++◌, ◌-◌, ◌≤◌, drop}
use Rattle.fr_values.specs.Common.{joined, numbers_from, runs_of}
use Rattle.fr_values.proofs.value_index.ValueIndex.numbers_from.Given as goal

abbrev pub invariant-loop-number : goal.invariant-loop-number
invariant-loop-number l = record {
  behind : l.self.len ≤ l.number;
  pushed : l.numbers.items ≡ numbers_from l.self.len (l.number - l.self.len);
}

abbrev pub invariant-loop-i : goal.invariant-loop-i
invariant-loop-i l =
    l.numbers.items ++ joined (drop l.i (runs_of l.self)) ≡ numbers_from l.self.len (l.end - l.self.len) ++ joined (drop l.from (runs_of l.self))
