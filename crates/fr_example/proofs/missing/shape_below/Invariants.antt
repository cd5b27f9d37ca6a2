use Rattle.std.proofs.Common.{◌≡◌, drop}
use Rattle.fr_shape.specs.Named.{first_declared}
use Rattle.fr_example.proofs.missing.shape_below.Given as goal

-- none of the fields so far has the name
abbrev pub invariant-loop-field : goal.invariant-loop-field
invariant-loop-field l =
    first_declared l.name 0 l.field-items ≡ first_declared l.name l.field-index (drop l.field-index l.field-items)
