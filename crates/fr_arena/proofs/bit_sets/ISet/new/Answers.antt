use Rattle.std.proofs.Common.{◌≡◌, ap, ◌∙◌}
use Rattle.std.specs.FinSet as set
use Rattle.fr_arena.specs.BitSets.{BitSet}
use Rattle.fr_arena.specs.Words.{members_of}
use Rattle.fr_arena.proofs.Members.{no_members, none_by_index}
use Rattle.fr_arena.proofs.bit_sets.ISet.new.Goals as goal

pub returns-then-count-le64-clause-by_index : goal.returns-then-count-le64-clause-by_index
returns-then-count-le64-clause-by_index c = none_by_index _ (ap (λ (b : BitSet). b.members) c.default.ensures)

none : (c : goal.In_ok-words) → members_of c.in_ok-words.words.items ≡ set.empty
none c = ap members_of (c.in_ok-words.ensures.items_if_clones_equal (λ _ same. same)) ∙ no_members _

pub returns-clause-empty : goal.returns-clause-empty
returns-clause-empty c = none c

pub returns-clause-by_index : goal.returns-clause-by_index
returns-clause-by_index c = none_by_index _ (none c)
