use Rattle.fr_doc.proofs.Loops.{IsSoFar}
use Rattle.fr_doc.specs.FieldForms.{field_form}
use Rattle.fr_doc.proofs.field_form.read_fields.Given as goal

abbrev pub invariant-loop-item : goal.invariant-loop-item
invariant-loop-item l = IsSoFar field_form l.item-items l.item-index l.fields
