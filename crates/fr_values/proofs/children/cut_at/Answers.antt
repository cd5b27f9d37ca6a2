use Rattle.std.proofs.Common.{arith}
use Rattle.fr_values.proofs.children.cut_at.Goals as goal

pub returns-then-number-len : goal.returns-then-number-len
returns-then-number-len c = record {
  cut = c.cut_at.ensures.cut;
  within = λ h. omega (arith, c.cut_at-then-number-len.ensures.below, c.len-then-number-len.ensures.count);
  kept = c.cut_at-then-number-len.ensures.kept;
}
