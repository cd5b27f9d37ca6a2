use Rattle.std.proofs.Common.{refl, ap, ◌∙◌, subst}
use Rattle.fr_partial.specs.Common.{Builder, Call, cursor_tree, takes_no_memory}
use Rattle.fr_work.specs.Deciding.{NeedsMessageAlone}
use Rattle.fr_partial.proofs.CallLaws.{called, decided_of, meant_of}
use Rattle.fr_partial.proofs.partial.Partial.end.Goals as goal
use Rattle.fr_model.specs.Step.{is_source_place}

pub run-requires-clause-meant : goal.run-requires-clause-meant
run-requires-clause-meant g c = meant_of c.self.view_is Call.End _ c.end_move-decided.ensures.decides

pub returns-clause-call : goal.returns-clause-call
returns-clause-call g c = called c.self.view_is Call.End _ c.end_move-decided.ensures.decides _ (λ t. refl) _ c.run.ensures.call

pub returns-clause-memory : goal.returns-clause-memory
returns-clause-memory g c strict apart none passes =
    c.run.ensures.message Call.End
    (decided_of c.self.view_is Call.End _ c.end_move-decided.ensures.decides (g.H.Hooks.means c.args.self.hooks))
    (subst (λ (b : Builder _). NeedsMessageAlone (cursor_tree b.state) c.end_move-decided.result) c.self.view_is
    (c.end_move-decided.ensures.memory (ap (λ (b : Builder _). b.state.mode) c.self.view_is ∙ strict)
    (ap (λ (b : Builder _). is_source_place b.state) c.self.view_is ∙ apart)
    (ap (λ (b : Builder _). takes_no_memory (cursor_tree b.state)) c.self.view_is ∙ none))) passes
