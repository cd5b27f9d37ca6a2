use Rattle.std.proofs.Common.{◌≡◌, drop}
use Rattle.std.specs.List.{list_any}
use Rattle.std.specs.Str.{bytes_eq}
use Rattle.fr_shape.specs.declared.shape.Shape.{Shape}
use Rattle.fr_shape.proofs.rules.name_is_new.Given as goal

abbrev pub invariant-loop-other : goal.invariant-loop-other
invariant-loop-other l =
    list_any (λ (e : Shape). bytes_eq e.name l.shape.name) l.earlier
    ≡ list_any (λ (e : Shape). bytes_eq e.name l.shape.name) (drop l.other-index l.earlier)
