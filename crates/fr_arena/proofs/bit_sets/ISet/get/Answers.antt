use Rattle.fr_arena.proofs.Members.{get_is}
use Rattle.fr_arena.proofs.bit_sets.ISet.get.Goals as goal

pub returns : goal.returns
returns c = record {
  member =
      get_is _ _ c.self.view_is c.args.index _ c.get.ensures;
}
