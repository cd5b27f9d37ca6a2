use Rattle.std.proofs.Common.{arith}
use Rattle.fr_shape.proofs.Faults.{parts_split}
use Rattle.fr_shape.proofs.rules.parts_pass.Goals as goal

pub returns-then-option_passes-2 : goal.returns-then-option_passes-2
returns-then-option_passes-2 c = grind (arith, parts_split c.args.table.now c.args.test c.args.shape.now)

pub returns-else-option_passes-2 : goal.returns-else-option_passes-2
returns-else-option_passes-2 c = grind (arith, parts_split c.args.table.now c.args.test c.args.shape.now)
