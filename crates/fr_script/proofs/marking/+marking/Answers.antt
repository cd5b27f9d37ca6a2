use Rattle.std.proofs.Common.{Some, None, ◌∙◌}
use Rattle.fr_script.proofs.MarkedTokens.{values_from, key_from, entry_from}
use Rattle.fr_script.proofs.marking.+marking.Goals as goal

pub mark_values-returns-then-not-mark_value : goal.mark_values-returns-then-not-mark_value
mark_values-returns-then-not-mark_value t c =
    c.loop-value.invariant ∙ values_from c.as_slice-value-items.result.now c.loop-value.value-index c.value-item.result c.loop-value-test.true c.value-item.is c.loop-value.marks None c.if-not-mark_value.ensures

pub mark_values-loop-value-preserved : goal.mark_values-loop-value-preserved
mark_values-loop-value-preserved t c =
    c.loop-value.invariant ∙ values_from c.as_slice-value-items.result.now c.loop-value.value-index c.value-item.result c.loop-value-test.true c.value-item.is c.loop-value.marks (Some c.mark_value.new.marks) c.if-not-mark_value.ensures

pub mark_entries-returns-then-not-mark_value : goal.mark_entries-returns-then-not-mark_value
mark_entries-returns-then-not-mark_value t c =
    c.loop-entry.invariant ∙ key_from c.as_slice-entry-items.result.now c.loop-entry.entry-index c.entry-item.result c.loop-entry-test.true c.entry-item.is c.loop-entry.marks None c.if-not-mark_value.ensures

pub mark_entries-returns-then-not-mark_value-2 : goal.mark_entries-returns-then-not-mark_value-2
mark_entries-returns-then-not-mark_value-2 t c =
    c.loop-entry.invariant ∙ entry_from c.as_slice-entry-items.result.now c.loop-entry.entry-index c.entry-item.result c.loop-entry-test.true c.entry-item.is c.loop-entry.marks c.mark_value.new.marks None c.if-not-mark_value.ensures c.if-not-mark_value-2.ensures

pub mark_entries-loop-entry-preserved : goal.mark_entries-loop-entry-preserved
mark_entries-loop-entry-preserved t c =
    c.loop-entry.invariant ∙ entry_from c.as_slice-entry-items.result.now c.loop-entry.entry-index c.entry-item.result c.loop-entry-test.true c.entry-item.is c.loop-entry.marks c.mark_value.new.marks (Some c.mark_value-in-loop-entry.new.marks) c.if-not-mark_value.ensures c.if-not-mark_value-2.ensures
