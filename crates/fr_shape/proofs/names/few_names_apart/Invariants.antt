use Rattle.std.proofs.Common.{◌≡◌, drop, map}
use Rattle.fr_shape.specs.Checked.{names_apart}
use Rattle.fr_shape.specs.Named.{name_of}
use Rattle.fr_shape.proofs.names.few_names_apart.Given as goal

abbrev pub invariant-loop-i : goal.invariant-loop-i
invariant-loop-i l = names_apart (map name_of l.variants) ≡ names_apart (map name_of (drop l.i l.variants))
