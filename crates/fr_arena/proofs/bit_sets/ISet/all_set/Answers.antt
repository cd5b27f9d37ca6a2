use Rattle.std.proofs.Common.{refl, arith}
use Rattle.fr_arena.proofs.Fills.{none_there, more_there, all_there, not_there}
use Rattle.fr_arena.proofs.bit_sets.ISet.all_set.Goals as goal

pub loop-at-init : goal.loop-at-init
loop-at-init c = none_there _ _

pub returns-then-get-wanted : goal.returns-then-get-wanted
returns-then-get-wanted c = record {
  all =
      (λ h. cc, λ all. absurd (not_there _ _ _ _ _ _ c.self.view_is c.get.ensures c.word_of_all_below-wanted.ensures c.if-get-wanted.true all));
}

pub loop-at-preserved : goal.loop-at-preserved
loop-at-preserved c = more_there _ _ _ _ _ c.get.ensures c.word_of_all_below-wanted.ensures c.if-get-wanted.false c.loop-at.invariant

pub returns : goal.returns
returns c = record {
  all =
      (λ _. all_there _ _ _ _ c.self.view_is (omega arith) c.loop-at.invariant, λ _. refl);
}
