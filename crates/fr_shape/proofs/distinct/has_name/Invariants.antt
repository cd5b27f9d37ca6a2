use Rattle.std.proofs.Common.{◌≡◌, ℕ, List, map, drop}
use Rattle.std.specs.List.{list_any}
use Rattle.std.specs.Str.{bytes_eq}
use Rattle.fr_shape.specs.declared.value.Dyn.{Dyn}
use Rattle.fr_shape.proofs.distinct.has_name.Given as goal

abbrev pub invariant-loop-member : goal.invariant-loop-member
invariant-loop-member l =
    list_any (bytes_eq l.name) (map (λ (m : List ℕ × Dyn). m.0) l.members)
    ≡ list_any (bytes_eq l.name) (map (λ (m : List ℕ × Dyn). m.0) (drop l.member-index l.members))
