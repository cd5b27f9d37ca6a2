use Rattle.std.proofs.Common.{◌≡◌, ℕ, List, map, take}
use Rattle.std.specs.Borrow.{Bor}
use Rattle.fr_shape.specs.declared.shape.Shape.{Shape}
use Rattle.fr_shape.proofs.names.first_repeated_name.Given as goal

abbrev pub invariant-loop-shape : goal.invariant-loop-shape
invariant-loop-shape l =
    map (λ (name : Bor (List ℕ)). name.now) l.names.items
    ≡ map (λ (shape : Shape). shape.name) (take l.shape-index l.shape-items)
