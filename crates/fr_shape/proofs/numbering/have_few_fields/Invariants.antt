use Rattle.std.proofs.Common.{◌≡◌, drop}
use Rattle.std.specs.List.{list_all}
use Rattle.fr_shape.specs.Numbered.{has_few_fields}
use Rattle.fr_shape.proofs.numbering.have_few_fields.Given as goal

-- those left pass where all do

abbrev pub invariant-loop-variant : goal.invariant-loop-variant
invariant-loop-variant l = list_all has_few_fields l.variants ≡ list_all has_few_fields (drop l.variant-index l.variants)
