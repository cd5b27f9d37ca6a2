use Rattle.std.proofs.Common.{◌≡◌, drop}
use Rattle.std.specs.List.{list_all}
use Rattle.fr_shape.specs.Numbered.{parts_are_few}
use Rattle.fr_shape.proofs.numbering.shapes_have_few_parts.Given as goal

-- those left pass where all do

abbrev pub invariant-loop-shape : goal.invariant-loop-shape
invariant-loop-shape l =
    list_all (λ shape. parts_are_few shape.def) l.table
    ≡ list_all (λ shape. parts_are_few shape.def) (drop l.shape-index l.shape-items)
