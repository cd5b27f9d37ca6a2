use Rattle.fr_partial.specs.Common.{Call}
use Rattle.fr_partial.proofs.CallLaws.{decided_of, meant_of, was_decided}
use Rattle.fr_partial.proofs.partial.Partial.set_shape.Goals as goal

pub run-requires-clause-meant : goal.run-requires-clause-meant
run-requires-clause-meant g c =
    meant_of c.self.view_is (Call.Set c.args.value.shape c.args.value.value) _ c.set_shape_move-decided.ensures.decides

pub returns-clause-call : goal.returns-clause-call
returns-clause-call g c =
    let call = Call.Set c.args.value.shape c.args.value.value in
    c.run.ensures.call call (decided_of c.self.view_is call _ c.set_shape_move-decided.ensures.decides (g.H.Hooks.means c.args.self.hooks)) _
    (was_decided call _ _ _ c.set_shape_move-decided.ensures.unreleased c.set_shape_move-decided.ensures.released)
