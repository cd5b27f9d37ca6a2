use Rattle.std.proofs.Common.{rules}
use Rattle.fr_arena.proofs.ropes.push_chunk.Goals as goal

pub returns-clause-appended : goal.returns-clause-appended
returns-clause-appended g c = record {
  chunk = c.push_reserved.new.self;
  added = search rules;
  holds = search rules;
  room = search rules;
}
