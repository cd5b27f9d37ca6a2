use Rattle.std.proofs.Common.{rules}
use Rattle.fr_arena.proofs.Chunks.{rope_chunks}
use Rattle.fr_arena.proofs.ropes.ListRope.chunk_count.Goals as goal

pub returns : goal.returns
returns g c = record {
  chunks =
      rope_chunks c.self.inside.chunk_capacity c.self.invariant.chunked c.self.inside.len c.self.inside.initialized c.len.result c.self.inside.chunks.items
      c.args.self.now c.self.view_is c.self.invariant.filled c.self.invariant.counted (search rules);
}
