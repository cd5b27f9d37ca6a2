use Rattle.std.proofs.Common.{◌≢◌, [], arith}
use Rattle.std.proofs.lemmas.Grind.{common_steps}
use Rattle.fr_facet.proofs.StructParts.{some_left}
use Rattle.fr_facet.proofs.structs.UnitParts.from_values.Goals as goal

pub returns-clause-read : goal.returns-clause-read
returns-clause-read c =
    let some : c.args.values.items ≢ [] = grind (arith, common_steps) in
    some_left c.args.values.items some
