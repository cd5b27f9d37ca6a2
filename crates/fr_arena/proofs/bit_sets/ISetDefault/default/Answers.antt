use Rattle.fr_arena.proofs.Members.{no_members}
use Rattle.fr_arena.proofs.bit_sets.ISetDefault.default.Goals as goal

pub returns : goal.returns
returns c = λ i. record { capacity = 64; members = no_members 1 i }
