use Rattle.std.proofs.Common.{◌≡◌, ℕ, List, map, take}
use Rattle.std.specs.Borrow.{Bor}
use Rattle.fr_shape.specs.declared.value.Dyn.{Dyn}
use Rattle.fr_shape.proofs.distinct.many_names_apart.Given as goal

abbrev pub invariant-loop-member : goal.invariant-loop-member
invariant-loop-member l =
    map (λ (name : Bor (List ℕ)). name.now) l.names.items
    ≡ map (λ (m : List ℕ × Dyn). m.0) (take l.member-index l.member-items)
