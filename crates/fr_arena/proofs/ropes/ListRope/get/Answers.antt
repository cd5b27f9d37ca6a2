use Rattle.std.proofs.Common.{rules}
use Rattle.fr_arena.proofs.Chunks.{chunk_of_item, place_of_item, found_item}
use Rattle.fr_arena.proofs.ropes.ListRope.get.Goals as goal

pub index-requires : goal.index-requires
index-requires g c =
    let there = chunk_of_item c.self.inside.chunk_capacity c.self.invariant.chunked c.self.inside.len c.self.inside.initialized c.args.i c.self.inside.chunks.items c.args.self.now
    c.self.view_is c.self.invariant.filled c.self.invariant.counted c.requires.inside in
    search (there, rules)

pub index-requires-2 : goal.index-requires-2
index-requires-2 g c =
    let there = place_of_item c.self.inside.chunk_capacity c.self.invariant.chunked c.self.inside.len c.self.inside.initialized c.args.i c.self.inside.chunks.items c.args.self.now
    c.self.view_is c.self.invariant.filled c.self.invariant.counted c.requires.inside c.index.result.now c.index.ensures in
    search (there, rules)

pub returns : goal.returns
returns g c = record {
  item =
      found_item c.self.inside.chunk_capacity c.self.invariant.chunked c.self.inside.len c.self.inside.initialized c.args.i c.self.inside.chunks.items c.args.self.now
      c.self.view_is c.self.invariant.filled c.self.invariant.counted c.requires.inside c.index.result.now c.index-2.result.now c.index.ensures c.index-2.ensures;
}
