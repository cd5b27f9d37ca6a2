use Rattle.std.proofs.Common.{◌≡◌, drop, map}
use Rattle.std.specs.List.{list_any}
use Rattle.std.specs.Str.{bytes_eq}
use Rattle.fr_shape.specs.Named.{name_of}
use Rattle.fr_shape.proofs.names.is_name.Given as goal

abbrev pub invariant-loop-variant : goal.invariant-loop-variant
invariant-loop-variant l =
    list_any (bytes_eq l.name) (map name_of l.variants)
    ≡ list_any (bytes_eq l.name) (map name_of (drop l.variant-index l.variants))
