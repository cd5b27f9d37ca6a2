use Rattle.fr_doc.proofs.TableLoop.{IsReadTo}
use Rattle.fr_doc.specs.ShapeForms.{shape_at}
use Rattle.fr_script.proofs.document.read_shapes.Given as goal

abbrev pub invariant-loop-i : goal.invariant-loop-i
invariant-loop-i l = IsReadTo shape_at l.item-items l.i l.shapes
