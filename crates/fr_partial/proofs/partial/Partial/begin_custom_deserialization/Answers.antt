use Rattle.std.proofs.Common.{refl}
use Rattle.fr_partial.specs.Common.{Call}
use Rattle.fr_partial.proofs.CallLaws.{called, meant_of, room_of}
use Rattle.fr_partial.proofs.partial.Partial.begin_custom_deserialization.Goals as goal

pub run-requires-clause-meant : goal.run-requires-clause-meant
run-requires-clause-meant g c =
    meant_of c.self.view_is Call.BeginCustomDeserialization _
    (c.begin_by_field_move-decided.ensures.decides Call.BeginCustomDeserialization (record { nothing = refl; means = λ hooks. refl }))

pub run-requires-clause-room : goal.run-requires-clause-room
run-requires-clause-room g c =
    room_of c.self.view_is Call.BeginCustomDeserialization _
    (c.begin_by_field_move-decided.ensures.decides Call.BeginCustomDeserialization (record { nothing = refl; means = λ hooks. refl }))
    (λ t. refl) _ _ c.requires.room

pub returns : goal.returns
returns g c = record {
  call =
      called c.self.view_is Call.BeginCustomDeserialization _
      (c.begin_by_field_move-decided.ensures.decides Call.BeginCustomDeserialization (record { nothing = refl; means = λ hooks. refl }))
      _ (λ t. refl) _ c.run.ensures.call;
}
