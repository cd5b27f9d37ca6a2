use Rattle.std.proofs.Common.{◌≡◌, map, take}
use Rattle.serde_json.specs.View.{view as data_of}
use Rattle.fr_doc.specs.Printed.{natural}
use Rattle.fr_script.proofs.report.json_of_numbers.Given as goal

abbrev pub invariant-loop-number : goal.invariant-loop-number
invariant-loop-number l = map data_of l.items.items ≡ map natural (take l.number-index l.numbers)
