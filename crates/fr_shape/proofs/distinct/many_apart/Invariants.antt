use Rattle.std.proofs.Common.{◌≡◌, map, take}
use Rattle.fr_shape.specs.declared.contents.ByContents.{ByContents}
use Rattle.fr_shape.specs.View.{view}
use Rattle.fr_shape.proofs.distinct.many_apart.Given as goal

abbrev pub invariant-loop-value : goal.invariant-loop-value
invariant-loop-value l =
    map (λ (key : ByContents). view key.0.now) l.keys.items ≡ map view (take l.value-index l.value-items)
