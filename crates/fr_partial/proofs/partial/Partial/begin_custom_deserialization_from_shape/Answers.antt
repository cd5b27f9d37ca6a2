use Rattle.std.proofs.Common.{refl, subst}
use Rattle.fr_partial.specs.Common.{Call, IsCall}
use Rattle.fr_partial.proofs.CallLaws.{called, meant_of, room_of}
use Rattle.fr_partial.proofs.partial.Partial.begin_custom_deserialization_from_shape.Goals as goal

pub run-requires-clause-meant : goal.run-requires-clause-meant
run-requires-clause-meant g c =
    meant_of c.self.view_is Call.BeginCustomDeserializationFromShape _
    (c.begin_from_shape_move-decided.ensures.decides Call.BeginCustomDeserializationFromShape (record { nothing = refl; means = λ hooks. refl }))

pub run-requires-clause-room : goal.run-requires-clause-room
run-requires-clause-room g c =
    room_of c.self.view_is Call.BeginCustomDeserializationFromShape _
    (c.begin_from_shape_move-decided.ensures.decides Call.BeginCustomDeserializationFromShape (record { nothing = refl; means = λ hooks. refl }))
    (λ t. refl) _ _ c.requires.room

pub returns-in-Ok-clause-call : goal.returns-in-Ok-clause-call
returns-in-Ok-clause-call g c =
    subst (λ (result : _). IsCall (g.H.Hooks.means c.args.self.hooks) c.args.self Call.BeginCustomDeserializationFromShape result c.args.ledger.now c.run.new.ledger) c.in-Ok.is
    (called c.self.view_is Call.BeginCustomDeserializationFromShape _
    (c.begin_from_shape_move-decided.ensures.decides Call.BeginCustomDeserializationFromShape (record { nothing = refl; means = λ hooks. refl }))
    _ (λ t. refl) _ c.run.ensures.call)

pub returns-in-Err-clause-call : goal.returns-in-Err-clause-call
returns-in-Err-clause-call g c =
    subst (λ (result : _). IsCall (g.H.Hooks.means c.args.self.hooks) c.args.self Call.BeginCustomDeserializationFromShape result c.args.ledger.now c.run.new.ledger) c.in-Err.is
    (called c.self.view_is Call.BeginCustomDeserializationFromShape _
    (c.begin_from_shape_move-decided.ensures.decides Call.BeginCustomDeserializationFromShape (record { nothing = refl; means = λ hooks. refl }))
    _ (λ t. refl) _ c.run.ensures.call)
