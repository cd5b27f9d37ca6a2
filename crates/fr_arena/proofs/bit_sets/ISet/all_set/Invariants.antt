use Rattle.fr_arena.specs.Words.{words_of}
use Rattle.fr_arena.proofs.Fills.{AreThere}
use Rattle.fr_arena.proofs.bit_sets.ISet.all_set.Given as goal

-- the numbers below the count in the words so far are there
abbrev pub invariant-loop-at : goal.invariant-loop-at
invariant-loop-at l = AreThere (words_of l.self-inside.words) l.count l.at
