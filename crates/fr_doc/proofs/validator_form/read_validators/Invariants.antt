use Rattle.fr_doc.proofs.Loops.{IsSoFar}
use Rattle.fr_doc.specs.ValidatorForms.{validator_form}
use Rattle.fr_doc.proofs.validator_form.read_validators.Given as goal

abbrev pub invariant-loop-item : goal.invariant-loop-item
invariant-loop-item l = IsSoFar validator_form l.item-items l.item-index l.validators
