use Rattle.std.proofs.Common.{map}
use Rattle.fr_shape.specs.View.{dyn_view}
use Rattle.fr_doc.proofs.Loops.{IsSoFar}
use Rattle.fr_doc.specs.DynForms.{dyn_form, dyn_member_form}
use Rattle.fr_doc.specs.Reading.{member_view}
use Rattle.fr_doc.proofs.dyn_form.+dynamic.Given as goal

abbrev pub invariant-read_dyn_members-loop-item : goal.invariant-read_dyn_members-loop-item
invariant-read_dyn_members-loop-item l = IsSoFar dyn_member_form l.item-items l.item-index (map member_view l.members)

abbrev pub invariant-read_dyns-loop-item : goal.invariant-read_dyns-loop-item
invariant-read_dyns-loop-item l = IsSoFar dyn_form l.item-items l.item-index (map dyn_view l.dyns)
