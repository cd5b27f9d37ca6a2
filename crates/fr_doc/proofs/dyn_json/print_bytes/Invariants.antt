use Rattle.std.proofs.Common.{◌≡◌, map, take}
use Rattle.serde_json.specs.View.{view as data_of}
use Rattle.fr_doc.specs.Printed.{natural}
use Rattle.fr_doc.proofs.dyn_json.print_bytes.Given as goal

abbrev pub invariant-loop-byte : goal.invariant-loop-byte
invariant-loop-byte l = map data_of l.items.items ≡ map natural (take l.byte-index l.bytes)
