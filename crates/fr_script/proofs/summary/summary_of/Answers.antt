use Rattle.std.proofs.Common.{◌≡◌, ℕ, min, List, length, ap, sym, ◌∙◌, arith}
use Rattle.fr_shape.specs.Val.{Val}
use Rattle.fr_model.specs.Commands.{calls_of}
use Rattle.fr_script.specs.Reports.{line_of}
use Rattle.fr_script.specs.Summaries.{sum_of_grid}
use Rattle.fr_script.proofs.GridTokens.{generated_length}
use Rattle.fr_script.proofs.SummaryLaws.{in_table, script_valid, script_length, made, never_refused, settled_as, summary_is}
use Rattle.fr_script.proofs.summary.summary_of.Goals as goal

pub build_script-requires-clause-root : goal.build_script-requires-clause-root
build_script-requires-clause-root c = in_table c.in_ok-table.table c.in_ok-table.ensures

pub build_script-requires-clause-valid : goal.build_script-requires-clause-valid
build_script-requires-clause-valid c =
    script_valid c.in_ok-table.table (calls_of c.in_ok-script.script) c.in_ok-ledger.ledger c.args.count c.requires
    c.in_ok-table.ensures c.in_ok-script.ensures c.in_ok-ledger.ensures.zeros

pub build_script-requires-clause-few : goal.build_script-requires-clause-few
build_script-requires-clause-few c =
    omega (arith, script_length c.in_ok-script.script c.args.count c.in_ok-script.ensures, c.requires)

pub returns-in-Ok : goal.returns-in-Ok
returns-in-Ok c =
    c.in_ok-line_of-in-Ok.ensures
    ∙ ap line_of
    (c.in_ok-json-in-Ok.ensures
    ∙ summary_is c.args.count c.len-commands.result c.len.result c.sum_of_grid.result c.in-Ok.built.value
    c.build_script.new.ledger c.requires
    (made c.in_ok-table.table (calls_of c.in_ok-script.script) c.args.count c.in_ok-table.ensures c.in_ok-script.ensures
    c.in-Ok.built.value c.in-Ok.ensures.journal)
    (c.len-commands.ensures.count
    ∙ (script_length c.in_ok-script.script c.args.count c.in_ok-script.ensures ∙ sym (generated_length c.args.count)))
    (settled_as (calls_of c.in_ok-script.script) c.args.count c.in_ok-ledger.ledger c.in-Ok.built.value
    c.build_script.new.ledger c.in_ok-script.ensures c.in_ok-ledger.ensures.zeros c.in-Ok.ensures.settled)
    (c.len.ensures.count ∙ ap (λ (tokens : List ℕ). length tokens) c.in_ok-released-in-Ok.ensures)
    (c.sum_of_grid.ensures ∙ ap (λ (v : Val). min (sum_of_grid v) 18446744073709551615) c.value.ensures.value))

pub unreachable-requires : goal.unreachable-requires
unreachable-requires c =
    never_refused c.in_ok-table.table (calls_of c.in_ok-script.script) c.args.count c.in_ok-table.ensures
    c.in_ok-script.ensures c.in-Err.error.kind (sym c.is_want_of_memory.ensures ∙ c.if-is_want_of_memory.false)
    c.in-Err.ensures.journal
