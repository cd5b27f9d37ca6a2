use Rattle.std.proofs.Common.{◌≡◌, ℕ, List, map, take}
use Rattle.std.specs.Borrow.{Bor}
use Rattle.fr_shape.specs.Named.{name_of}
use Rattle.fr_shape.proofs.names.many_names_apart.Given as goal

abbrev pub invariant-loop-variant : goal.invariant-loop-variant
invariant-loop-variant l =
    map (λ (name : Bor (List ℕ)). name.now) l.names.items
    ≡ map name_of (take l.variant-index l.variant-items)
