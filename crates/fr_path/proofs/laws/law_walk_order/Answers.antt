use Rattle.fr_path.specs.OrderLaws.{walk_total, walk_tie, walk_itself}
use Rattle.fr_path.proofs.laws.law_walk_order.Goals as goal

pub returns-clause-swapped : goal.returns-clause-swapped
returns-clause-swapped c = walk_total.antisymm

pub returns-clause-transitive : goal.returns-clause-transitive
returns-clause-transitive c = walk_total.trans

pub returns-clause-equal : goal.returns-clause-equal
returns-clause-equal c = λ p q. (walk_tie p q, walk_itself p q)
