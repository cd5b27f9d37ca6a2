use Rattle.fr_shape.specs.InvariantLaws.{settled_by_shape}
use Rattle.fr_shape.proofs.settling.settle_def.Goals as goal

pub returns-in-Some : goal.returns-in-Some
returns-in-Some c = settled_by_shape c.args.table.now c.args.id.0 _ c.in-Some.ensures

pub returns-in-None : goal.returns-in-None
returns-in-None c = settled_by_shape c.args.table.now c.args.id.0 _ c.in-None.ensures
