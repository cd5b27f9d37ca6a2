use Rattle.std.proofs.Common.{ap, ◌∙◌, refl}
use Rattle.serde_json.specs.Data.{array}
use Rattle.fr_doc.proofs.Printing.{all_printed, bytes_printed}
use Rattle.fr_doc.specs.Printed.{natural}
use Rattle.fr_doc.proofs.dyn_json.print_bytes.Goals as goal

pub returns : goal.returns
returns c =
    all_printed natural c.loop-byte.items c.args.bytes.now c.args.bytes.now c.loop-byte.byte-index c.loop-byte-test.false c.loop-byte.invariant refl ∙ ap array (bytes_printed c.args.bytes.now)
