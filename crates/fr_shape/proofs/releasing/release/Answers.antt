use Rattle.fr_shape.specs.View.{view}
use Rattle.fr_shape.proofs.InTurn.{value_rose}
use Rattle.fr_shape.proofs.releasing.release.Goals as goal

pub returns : goal.returns
returns c = record {
  released = rw c.release_value.ensures (value_rose (view c.args.v) c.args.ledger.now c.requires.room);
}
