use Rattle.std.proofs.Common.{◌≡◌, [], Some, sym, ap, subst, ◌∙◌}
use Rattle.fr_model.specs.Commands.{calls_of}
use Rattle.fr_script.specs.Marks.{AreMarks}
use Rattle.fr_script.proofs.BroughtLaws.{unmarked_invalid}
use Rattle.fr_script.proofs.FirstInvalids.{is_first}
use Rattle.fr_script.proofs.ValidScripts.{valid_where_none_invalid}
use Rattle.fr_script.proofs.validity.is_valid_script.Goals as goal

pub returns-in-None-clause-valid : goal.returns-in-None-clause-valid
returns-in-None-clause-valid c =
    let are : AreMarks c.args.ledger.now [] c.as_mut_slice.result.now = subst (AreMarks c.args.ledger.now []) (sym c.as_mut_slice.ensures.value) c.in-Ok.ensures in
    valid_where_none_invalid c.args.ledger.now c.args.table.now (calls_of c.args.script.now)
    (sym (unmarked_invalid c.args.ledger.now c.args.table.now (calls_of c.args.script.now) [] c.as_mut_slice.result.now 0 are) ∙ sym c.in-None.ensures)

pub returns-clause-invalid : goal.returns-clause-invalid
returns-clause-invalid c n same =
    let are : AreMarks c.args.ledger.now [] c.as_mut_slice.result.now = subst (AreMarks c.args.ledger.now []) (sym c.as_mut_slice.ensures.value) c.in-Ok.ensures in
    let number : c.in-Some.i ≡ n = cc in
    is_first c.args.ledger.now c.args.table.now (calls_of c.args.script.now) n
    (sym (unmarked_invalid c.args.ledger.now c.args.table.now (calls_of c.args.script.now) [] c.as_mut_slice.result.now 0 are) ∙ sym c.in-Some.ensures ∙ ap Some number)
