use Rattle.std.proofs.Common.{arith}
use Rattle.fr_shape.proofs.Faults.{hooks_split}
use Rattle.fr_shape.proofs.rules.hooks_in_range.Goals as goal

pub returns-then-all_proxies_pass : goal.returns-then-all_proxies_pass
returns-then-all_proxies_pass c = grind (arith, hooks_split c.args.table.now c.args.shape.now)

pub returns-else-all_proxies_pass : goal.returns-else-all_proxies_pass
returns-else-all_proxies_pass c = grind (arith, hooks_split c.args.table.now c.args.shape.now)
