use Rattle.std.proofs.Common.{map, ap, ◌∙◌}
use Rattle.std.proofs.lemmas.List.{take_all}
use Rattle.serde_json.specs.Data.{array}
use Rattle.serde_json.specs.View.{items_of}
use Rattle.serde_json.proofs.Views.{view-Array}
use Rattle.fr_doc.specs.Printed.{natural}
use Rattle.fr_script.proofs.report.json_of_numbers.Goals as goal

pub returns : goal.returns
returns c =
    view-Array c.loop-number.items
    ∙ ap (λ ds. array (items_of ds))
    (c.loop-number.invariant
    ∙ ap (map natural) (take_all c.loop-number.number-index c.args.numbers.now c.loop-number-test.false))
