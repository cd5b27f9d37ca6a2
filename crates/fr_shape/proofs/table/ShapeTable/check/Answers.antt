use Rattle.std.proofs.Common.{ℕ, ◌≤◌, arith, below_more}
use Rattle.fr_shape.specs.Checked.{EachKeeps}
use Rattle.fr_shape.specs.Faults.{keeps}
use Rattle.fr_shape.proofs.table.ShapeTable.check.Goals as goal

pub loop-rule-preserved : goal.loop-rule-preserved
loop-rule-preserved c r low high =
    below_more (λ (k : ℕ). 1 ≤ k → EachKeeps c.args.self.now (keeps c.args.self.now k)) c.loop-rule.rule
    (λ k h l. c.loop-rule.invariant k l h) (λ l. c.in-None.ensures.broken) r high low

pub returns-clause-ok : goal.returns-clause-ok
returns-clause-ok c = record {
  ids = c.loop-rule.invariant 1 (omega arith) (omega arith);
  names = c.loop-rule.invariant 2 (omega arith) (omega arith);
  sizes = c.loop-rule.invariant 3 (omega arith) (omega arith);
  variants = c.loop-rule.invariant 4 (omega arith) (omega arith);
  validators = c.loop-rule.invariant 5 (omega arith) (omega arith);
  templates = c.loop-rule.invariant 6 (omega arith) (omega arith);
  conversions = c.loop-rule.invariant 7 (omega arith) (omega arith);
  hooks = c.loop-rule.invariant 8 (omega arith) (omega arith);
  options = c.loop-rule.invariant 9 (omega arith) (omega arith);
}
