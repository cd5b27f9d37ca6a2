use Rattle.fr_doc.proofs.TableLoop.{IsReadTo}
use Rattle.fr_model.specs.Commands.{calls_of}
use Rattle.fr_script.specs.Documents.{call_at}
use Rattle.fr_script.proofs.command_form.script_of.Given as goal

abbrev pub invariant-loop-i : goal.invariant-loop-i
invariant-loop-i l = IsReadTo call_at l.item-items l.i (calls_of l.script)
