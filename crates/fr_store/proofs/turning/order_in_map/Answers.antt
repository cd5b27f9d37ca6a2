use Rattle.fr_store.proofs.OrderLaws.{key_order, value_order}
use Rattle.fr_store.proofs.turning.order_in_map.Goals as goal

pub returns-then-i-eq0 : goal.returns-then-i-eq0
returns-then-i-eq0 c = key_order c.args.i c.if-i-eq0.true

pub returns-else-i-eq0 : goal.returns-else-i-eq0
returns-else-i-eq0 c = value_order c.args.i c.if-i-eq0.false
