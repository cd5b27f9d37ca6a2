use Rattle.std.proofs.Common.{arith}
use Rattle.fr_arena.proofs.Fills.{none_added, within_words, more_added, all_added, union_of}
use Rattle.fr_arena.proofs.bit_sets.ISet.set_all.Goals as goal

pub loop-at-init : goal.loop-at-init
loop-at-init c = none_added _ _ _ c.self.view_is

pub get-word-requires : goal.get-word-requires
get-word-requires c = within_words _ _ _ _ _ c.loop-at.invariant c.loop-at-test.true c.div_ceil-at-end.ensures c.requires.inside

pub put-requires : goal.put-requires
put-requires c = within_words _ _ _ _ _ c.loop-at.invariant c.loop-at-test.true c.div_ceil-at-end.ensures c.requires.inside

pub loop-at-preserved : goal.loop-at-preserved
loop-at-preserved c = more_added _ _ _ _ _ _ _ (within_words _ _ _ _ _ c.loop-at.invariant c.loop-at-test.true c.div_ceil-at-end.ensures c.requires.inside) c.get-word.ensures c.word_of_all_below.ensures c.put.ensures c.loop-at.invariant

pub returns-clause-value : goal.returns-clause-value
returns-clause-value c = union_of _ _ _ _ (omega arith) c.loop-at.invariant

pub returns-clause-by_index : goal.returns-clause-by_index
returns-clause-by_index c = all_added _ _ _ _ (omega arith) c.loop-at.invariant
