use Rattle.std.proofs.Common.{◌≡◌, ℕ, List, map, take}
use Rattle.fr_values.specs.Common.{Dyn}
use Rattle.fr_values.proofs.dynamics.keys_of.Given as goal

abbrev pub invariant-loop-member : goal.invariant-loop-member
invariant-loop-member l = l.keys ≡ map (λ (m : List ℕ × Dyn). m.0) (take l.member-index l.members)
