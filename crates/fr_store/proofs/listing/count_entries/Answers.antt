use Rattle.std.proofs.Common.{arith}
use Rattle.fr_store.proofs.ChildOrder.{halves}
use Rattle.fr_store.proofs.listing.count_entries.Goals as goal

pub returns : goal.returns
returns c = let two = halves c.args.count in omega (arith, two.0, two.1)
