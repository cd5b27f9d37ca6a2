use Rattle.std.proofs.Common.{sym, arith}
use Rattle.fr_facet.proofs.StructsInStep.{counts_apart}
use Rattle.fr_facet.proofs.structs.are_fields.Goals as goal

pub returns-then-fields-wanted : goal.returns-then-fields-wanted
returns-then-fields-wanted c = sym (counts_apart c.args.wanted.now c.args.fields.now (λ same. omega arith))
