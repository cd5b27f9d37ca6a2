use Rattle.std.proofs.Common.{sym, ap, ◌∙◌}
use Rattle.std.proofs.lemmas.List.{drop_all}
use Rattle.fr_model.specs.Commands.{calls_of}
use Rattle.fr_script.specs.Marks.{first_unmarked}
use Rattle.fr_script.proofs.BroughtLaws.{not_valid, go_on}
use Rattle.fr_script.proofs.validity.find_invalid.Goals as goal

pub loop-i-init : goal.loop-i-init
loop-i-init c = ap (λ script. first_unmarked c.args.table.now c.args.marks.now 0 (calls_of script)) (sym c.as_slice-command-items.ensures.items)

pub returns-then-not-mark_command : goal.returns-then-not-mark_command
returns-then-not-mark_command c =
    sym (c.loop-i.invariant ∙ not_valid c.args.table.now c.loop-i.marks c.as_slice-command-items.result.now c.loop-i.i c.command-item.result c.loop-i-test.true c.command-item.is c.if-not-mark_command.ensures)

pub loop-i-preserved : goal.loop-i-preserved
loop-i-preserved c =
    c.loop-i.invariant ∙ go_on c.args.table.now c.loop-i.marks c.as_slice-command-items.result.now c.loop-i.i c.command-item.result c.loop-i-test.true c.command-item.is c.mark_command.new.marks c.if-not-mark_command.ensures

pub returns : goal.returns
returns c =
    sym (c.loop-i.invariant ∙ ap (λ script. first_unmarked c.args.table.now c.loop-i.marks c.loop-i.i (calls_of script)) (drop_all c.loop-i.i c.as_slice-command-items.result.now c.loop-i-test.false))
