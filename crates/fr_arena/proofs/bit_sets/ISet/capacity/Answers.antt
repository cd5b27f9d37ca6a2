use Rattle.fr_arena.proofs.Members.{within_capacity}
use Rattle.fr_arena.proofs.bit_sets.ISet.capacity.Goals as goal

pub returns-clause-within : goal.returns-clause-within
returns-clause-within c = within_capacity _ _ c.self.view_is
