use Rattle.std.proofs.Common.{sym}
use Rattle.fr_script.proofs.RuleLaws.{checked_passes, broken_refused}
use Rattle.fr_script.proofs.document.test_rules.Goals as goal

pub returns-in-Ok : goal.returns-in-Ok
returns-in-Ok c = sym (checked_passes c.args.table.now c.in-Ok.ensures.ok)

pub returns-in-Err : goal.returns-in-Err
returns-in-Err c =
    let told = c.in-Err.ensures in
    let fault = c.in-Err.fault in
    sym
    (broken_refused c.args.table.now fault.rule fault.entry told.rule_is_known.0 told.rule_is_known.1 told.rule_broken
    told.smaller_rules_hold told.earlier_entries_keep)
