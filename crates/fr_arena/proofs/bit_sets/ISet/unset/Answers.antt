use Rattle.fr_arena.proofs.Members.{unset_is, unset_by_index}
use Rattle.fr_arena.proofs.bit_sets.ISet.unset.Goals as goal

pub returns-clause-value : goal.returns-clause-value
returns-clause-value c = unset_is _ _ _ c.args.index _ c.self.view_is c.requires.inside c.get-word.ensures c.put.ensures

pub returns-clause-by_index : goal.returns-clause-by_index
returns-clause-by_index c = unset_by_index _ _ _ c.args.index _ c.self.view_is c.requires.inside c.get-word.ensures c.put.ensures
