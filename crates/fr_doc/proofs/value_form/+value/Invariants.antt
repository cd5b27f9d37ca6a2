use Rattle.std.proofs.Common.{map}
use Rattle.fr_shape.specs.View.{view}
use Rattle.fr_doc.proofs.Loops.{IsSoFar}
use Rattle.fr_doc.specs.Reading.{entry_view}
use Rattle.fr_doc.specs.ValueForms.{value_form, entry_form}
use Rattle.fr_doc.proofs.value_form.+value.Given as goal

abbrev pub invariant-read_values-loop-item : goal.invariant-read_values-loop-item
invariant-read_values-loop-item l = IsSoFar value_form l.item-items l.item-index (map view l.values)

abbrev pub invariant-read_map-loop-item : goal.invariant-read_map-loop-item
invariant-read_map-loop-item l = IsSoFar entry_form l.item-items l.item-index (map entry_view l.entries)
