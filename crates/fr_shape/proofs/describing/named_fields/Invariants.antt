use Rattle.std.proofs.Common.{◌≡◌, take}
use Rattle.fr_shape.specs.Describing.{named_fields}
use Rattle.fr_shape.proofs.describing.named_fields.Given as goal

-- the fields so far are made

abbrev pub invariant-loop-name : goal.invariant-loop-name
invariant-loop-name l = l.made ≡ named_fields (take l.name-index l.fields)
