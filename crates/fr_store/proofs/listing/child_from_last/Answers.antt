use Rattle.std.proofs.Common.{arith}
use Rattle.fr_store.proofs.ChildOrder.{halves}
use Rattle.fr_store.proofs.listing.child_from_last.Goals as goal

pub overflow_mul-result : goal.overflow_mul-result
overflow_mul-result c =
    record { fits = omega (arith, (halves c.args.count).0, c.count_entries-values.ensures, c.ranges.count.fits) }

pub overflow_add-result : goal.overflow_add-result
overflow_add-result c = record {
  fits = omega (arith, (halves c.args.count).0, c.count_entries-values.ensures, c.if-i-values.true, c.ranges.count.fits);
}

pub overflow_mul-result-else-i-values : goal.overflow_mul-result-else-i-values
overflow_mul-result-else-i-values c = record {
  fits = omega
      (arith, (halves c.args.count).1, c.count_entries-values.ensures, c.if-i-values.false, c.requires, c.ranges.count.fits);
}
