use Rattle.std.proofs.Common.{◌≡◌, ℕ, ◌<◌, ◌≤◌, ◌*◌, ◌&&◌}
use Rattle.std.specs.FinSet as set
use Rattle.std.specs.Prelude.{nat_lt}
use Rattle.fr_values.proofs.children.widened.Given as goal

-- the numbers below i are copied, and no others
abbrev pub invariant-loop-i : goal.invariant-loop-i
invariant-loop-i l = record {
  copied : (j : ℕ) → set.contains l.wide.members j ≡ (nat_lt j l.i && set.contains l.given.members j);
  twice : 2 * l.capacity ≤ l.wide.capacity;
  some : 0 < l.wide.capacity;
}
