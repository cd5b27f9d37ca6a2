use Rattle.std.proofs.Common.{arith}
use Rattle.fr_frame.proofs.ReleaseLaws.{releasing_ends}
use Rattle.fr_frame.proofs.slots.Slots.release.Goals as goal

pub returns : goal.returns
returns c = record {
  released =
      releasing_ends c.args.self c.loop-i.self c.args.ledger.now c.loop-i.ledger c.loop-i.i c.loop-i.invariant (omega arith);
}
