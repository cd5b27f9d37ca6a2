use Rattle.std.proofs.Common.{◌≡◌, drop}
use Rattle.std.specs.List.{list_all}
use Rattle.fr_shape.specs.declared.shape.VariantDef.{VariantDef}
use Rattle.fr_shape.specs.Checked.{fields_of}
use Rattle.fr_shape.specs.Tests.{field_passes}
use Rattle.fr_shape.proofs.parts.fields_pass.Given as goal

abbrev pub invariant-loop-variant : goal.invariant-loop-variant
invariant-loop-variant l =
    list_all (field_passes l.table l.test) (fields_of l.def)
    ≡ list_all (λ (variant : VariantDef). list_all (field_passes l.table l.test) variant.fields) (drop l.variant-index l.variant-items)
