use Rattle.fr_doc.proofs.Loops.{IsSoFar}
use Rattle.fr_doc.specs.Numerals.{byte}
use Rattle.fr_doc.proofs.dyn_form.read_bytes.Given as goal

abbrev pub invariant-loop-item : goal.invariant-loop-item
invariant-loop-item l = IsSoFar byte l.item-items l.item-index l.bytes
