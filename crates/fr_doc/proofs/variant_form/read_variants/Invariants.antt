use Rattle.fr_doc.proofs.Loops.{IsSoFar}
use Rattle.fr_doc.specs.VariantForms.{described_variant_form}
use Rattle.fr_doc.proofs.variant_form.read_variants.Given as goal

abbrev pub invariant-loop-item : goal.invariant-loop-item
invariant-loop-item l = IsSoFar described_variant_form l.item-items l.item-index l.variants
