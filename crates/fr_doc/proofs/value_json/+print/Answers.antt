use Rattle.std.proofs.Common.{ap, ◌∙◌}
use Rattle.serde_json.specs.Data.{array}
use Rattle.fr_doc.proofs.Printing.{all_printed, printed, vals_printed, printed_entry, entries_printed}
use Rattle.fr_doc.proofs.value_json.+print.Goals as goal

pub print_values-returns : goal.print_values-returns
print_values-returns t c =
    all_printed printed c.loop-value.items c.args.values.now _ c.loop-value.value-index c.loop-value-test.false c.loop-value.invariant c.as_slice-value-items.ensures.items ∙ ap array (vals_printed c.args.values.now)

pub print_entries-returns : goal.print_entries-returns
print_entries-returns t c =
    all_printed printed_entry c.loop-key.items c.args.entries.now _ c.loop-key.key-index c.loop-key-test.false c.loop-key.invariant c.as_slice-key-items.ensures.items ∙ ap array (entries_printed c.args.entries.now)
