use Rattle.std.proofs.Common.{◌≡◌, Some, refl, sym, ◌∙◌, ap}
use Rattle.fr_moves.specs.Common.{Conserved_same, Room_same, Val, view}
use Rattle.fr_moves.proofs.HandingLaws.{not_handed, said_of_it}
use Rattle.fr_moves.specs.StateLaws.{open_then}
use Rattle.fr_moves.proofs.ending.take_root.Goals as goal

pub take_value-requires-clause-are_open : goal.take_value-requires-clause-are_open
take_value-requires-clause-are_open g c =
    record { plan = c.args.plan.now; are_open = open_then c.in-Ok.ensures.completed.changed }

pub take_value-requires-clause-at_root : goal.take_value-requires-clause-at_root
take_value-requires-clause-at_root g c = c.in-Ok.ensures.completed.changed.stands.cursor ∙ c.requires.at_root

pub take_value-requires-clause-room : goal.take_value-requires-clause-room
take_value-requires-clause-room g c =
    Room_same _ _ c.args.ledger.now (λ t. sym (c.complete_strictly.ensures.tokens t)) c.requires.room

pub release-requires : goal.release-requires
release-requires g c = record {
  room = Room_same _ _ c.args.ledger.now (λ t. sym (c.complete_strictly.ensures.tokens t)) c.requires.room;
}

pub returns-in-Ok-take_value-clause-value : goal.returns-in-Ok-take_value-clause-value
returns-in-Ok-take_value-clause-value g c =
    c.in-Ok.ensures.completed.meant ∙ ap (λ (v : Val). Some v)
    (said_of_it c.in-Ok.ensures.completed (λ (v : Val). v ≡ view c.in-Ok-take_value.value) c.in-Ok-take_value.ensures.value)

pub returns-in-Ok-take_value-clause-conserved : goal.returns-in-Ok-take_value-clause-conserved
returns-in-Ok-take_value-clause-conserved g c =
    Conserved_same _ _ _ _ _ _ c.complete_strictly.ensures.tokens (λ t. refl) c.in-Ok-take_value.ensures.conserved

pub returns-in-Ok-clause-why : goal.returns-in-Ok-clause-why
returns-in-Ok-clause-why g c = not_handed c.in-Ok.ensures.completed c.in-Err-take_value.is c.take_value.ensures.memory
