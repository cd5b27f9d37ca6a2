use Rattle.std.proofs.Common.{◌≡◌, map, take}
use Rattle.fr_shape.specs.declared.contents.ByContents.{ByContents}
use Rattle.fr_shape.specs.declared.value.Value.{Value}
use Rattle.fr_shape.specs.View.{view}
use Rattle.fr_shape.proofs.distinct.many_keys_apart.Given as goal

abbrev pub invariant-loop-entry : goal.invariant-loop-entry
invariant-loop-entry l =
    map (λ (key : ByContents). view key.0.now) l.keys.items
    ≡ map (λ (e : Value × Value). view e.0) (take l.entry-index l.entry-items)
