use Rattle.std.proofs.Common.{ap}
use Rattle.std.specs.Option.{ok_or}
use Rattle.serde_json.specs.View.{view as data_of}
use Rattle.fr_doc.specs.declared.fault.DocFault.{DocFault}
use Rattle.fr_script.proofs.Trees.{tree_read, no_tree}
use Rattle.fr_script.proofs.document.read_tree.Goals as goal

pub returns-in-Ok : goal.returns-in-Ok
returns-in-Ok c =
    let text = c.in-Ok.ensures.ok in
    ap (λ o. ok_or o DocFault.NotJson) (tree_read c.args.bytes.now (data_of c.in-Ok.json) text.0 text.1)

pub returns-in_default : goal.returns-in_default
returns-in_default c =
    ap (λ o. ok_or o DocFault.NotJson) (no_tree c.args.bytes.now (c.in-Err.ensures.err (λ memory. c.in_default.not-Memory (c.classify.ensures.memory.1 memory))))
