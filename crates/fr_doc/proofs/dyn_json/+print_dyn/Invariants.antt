use Rattle.std.proofs.Common.{◌≡◌, map, take}
use Rattle.serde_json.specs.View.{view as data_of}
use Rattle.fr_doc.proofs.Printing.{printed_dyn, printed_member}
use Rattle.fr_doc.proofs.dyn_json.+print_dyn.Given as goal

abbrev pub invariant-print_dyns-loop-value : goal.invariant-print_dyns-loop-value
invariant-print_dyns-loop-value l = map data_of l.items.items ≡ map printed_dyn (take l.value-index l.value-items)

abbrev pub invariant-print_members-loop-key : goal.invariant-print_members-loop-key
invariant-print_members-loop-key l = map data_of l.items.items ≡ map printed_member (take l.key-index l.key-items)
