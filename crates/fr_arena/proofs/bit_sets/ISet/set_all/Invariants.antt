use Rattle.fr_arena.specs.Words.{words_of}
use Rattle.fr_arena.proofs.Fills.{AreAdded}
use Rattle.fr_arena.proofs.bit_sets.ISet.set_all.Given as goal

-- the numbers below the count in the words so far were added
abbrev pub invariant-loop-at : goal.invariant-loop-at
invariant-loop-at l = AreAdded (words_of l.self-inside.words) l.fn.self l.count l.at
