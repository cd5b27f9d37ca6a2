use Rattle.std.proofs.Common.{sym, arith}
use Rattle.std.proofs.lemmas.List.{length-map}
use Rattle.fr_model.specs.Commands.{call_of}
use Rattle.fr_script.proofs.InOrder.{sizes_known}
use Rattle.fr_script.specs.Reading.{document_view}
use Rattle.fr_script.proofs.document.read_with_tree.Goals as goal

pub test_rules-requires : goal.test_rules-requires
test_rules-requires c =
    let few = sizes_known (document_view c.in_ok-document.document) c.in_default.field-0 (sym c.in_default.ensures) in
    let few_shapes = few.few_shapes in
    omega arith

pub test_script-requires : goal.test_script-requires
test_script-requires c =
    let few = sizes_known (document_view c.in_ok-document.document) c.in_default.field-0 (sym c.in_default.ensures) in
    let few_calls = few.few_calls in
    let counted = length-map c.in_ok-document.document.script call_of in
    omega arith
