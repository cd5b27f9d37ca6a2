use Rattle.std.proofs.Common.{◌≡◌, map, take}
use Rattle.serde_json.specs.View.{view as data_of}
use Rattle.fr_doc.proofs.Printing.{printed, printed_entry}
use Rattle.fr_doc.proofs.value_json.+print.Given as goal

abbrev pub invariant-print_values-loop-value : goal.invariant-print_values-loop-value
invariant-print_values-loop-value l = map data_of l.items.items ≡ map printed (take l.value-index l.value-items)

abbrev pub invariant-print_entries-loop-key : goal.invariant-print_entries-loop-key
invariant-print_entries-loop-key l = map data_of l.items.items ≡ map printed_entry (take l.key-index l.key-items)
