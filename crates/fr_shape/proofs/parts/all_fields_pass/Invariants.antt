use Rattle.std.proofs.Common.{◌≡◌, drop}
use Rattle.std.specs.List.{list_all}
use Rattle.fr_shape.specs.Tests.{field_passes}
use Rattle.fr_shape.proofs.parts.all_fields_pass.Given as goal

abbrev pub invariant-loop-field : goal.invariant-loop-field
invariant-loop-field l =
    list_all (field_passes l.table l.test) l.fields
    ≡ list_all (field_passes l.table l.test) (drop l.field-index l.field-items)
