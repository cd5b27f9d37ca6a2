use Rattle.std.proofs.Common.{sym, subst}
use Rattle.fr_partial.specs.Common.{Builder, Room, holds}
use Rattle.fr_partial.proofs.partial.Partial.refuse.Goals as goal

pub refuse-requires : goal.refuse-requires
refuse-requires g c = record {
  room = subst (λ (b : Builder _). Room (holds b) c.args.ledger.now) (sym c.self.view_is) c.requires.room;
}
