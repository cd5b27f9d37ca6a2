use Rattle.std.proofs.Common.{◌+◌, sym, subst}
use Rattle.fr_rules.proofs.Bucketed.{DescribesFront, describes_more}
use Rattle.fr_rules.proofs.buckets.buckets_of.Goals as goal

pub loop-start-preserved : goal.loop-start-preserved
loop-start-preserved c =
    let bucket = c.bucket_from-bucket in
    subst (DescribesFront c.args.prefix_len c.args.sorted.now (c.loop-start.start + bucket.result.len)) (sym c.in_ok-push.ensures.items)
    (describes_more c.args.prefix_len c.args.sorted.now c.loop-start.start c.loop-start.buckets.items bucket.result c.loop-start.invariant
    bucket.ensures.start bucket.ensures.some bucket.ensures.within bucket.ensures.run bucket.ensures.others)
