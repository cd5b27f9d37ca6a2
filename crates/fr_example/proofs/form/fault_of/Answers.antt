use Rattle.std.proofs.Common.{◌∙◌}
use Rattle.fr_example.proofs.FormCalls.{given_up}
use Rattle.fr_example.proofs.TextsWithoutTokens.{no_room}
use Rattle.fr_example.proofs.form.fault_of.Goals as goal

pub abandon-requires : goal.abandon-requires
abandon-requires g c = record { room = no_room _ _ c.in-Ok.ensures.tokens }

pub returns-in-Ok-clause-released : goal.returns-in-Ok-clause-released
returns-in-Ok-clause-released g c = given_up _ _ _ c.abandon.ensures.released c.in-Ok.ensures.tokens ∙ c.parse.ensures.released
