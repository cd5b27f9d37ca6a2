use Rattle.std.proofs.Common.{Ok, Err, arith}
use Rattle.fr_shape.specs.TokenLaws.{Room_same}
use Rattle.fr_partial.proofs.partial.Partial.set_from_function.Goals as goal

pub take-requires-clause-room : goal.take-requires-clause-room
take-requires-clause-room g c = c.requires.room (Ok c.in-Ok.value) c.in-Ok.ensures

pub refuse-requires : goal.refuse-requires
refuse-requires g c = record { room = Room_same _ _ _ (λ t. omega arith) (c.requires.room (Err c.in-Err.kind) c.in-Err.ensures) }
