use Rattle.std.proofs.Common.{◌-◌, length}
use Rattle.fr_rules.proofs.Bucketed.{DescribesFront}
use Rattle.fr_rules.proofs.buckets.buckets_of.Given as goal

abbrev pub invariant-loop-start : goal.invariant-loop-start
invariant-loop-start l = DescribesFront l.prefix_len l.sorted l.start l.buckets.items

abbrev pub decreases-loop-start : goal.decreases-loop-start
decreases-loop-start l = length l.sorted - l.start
