use Rattle.std.proofs.Common.{◌≡◌, ℕ, List, map, drop}
use Rattle.std.specs.Str.{bytes_eq}
use Rattle.fr_shape.specs.declared.value.Dyn.{Dyn}
use Rattle.fr_shape.specs.Distinct.{distinct}
use Rattle.fr_shape.proofs.distinct.few_names_apart.Given as goal

abbrev pub invariant-loop-i : goal.invariant-loop-i
invariant-loop-i l =
    distinct bytes_eq (map (λ (m : List ℕ × Dyn). m.0) l.members)
    ≡ distinct bytes_eq (map (λ (m : List ℕ × Dyn). m.0) (drop l.i l.members))
