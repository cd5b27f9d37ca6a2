use Rattle.std.proofs.Common.{◌≡◌, refl, ap, ◌∙◌}
use Rattle.fr_work.specs.Common.{Call, Parts, Site, site, strict}
use Rattle.fr_work.proofs.work.Work.defer.Goals as goal

pub defer-requires-clause-meant : goal.defer-requires-clause-meant
defer-requires-clause-meant c =
    let mode : (site c.deref_mut.result.now).state.mode ≡ strict
    = ap (λ (p : Parts). (site p).state.mode) c.deref_mut.ensures.value ∙ ap (λ (s : Site). s.state.mode) c.self.view_is
    ∙ c.requires.strict in (
      Call.BeginDeferred,
      record { fitting = tt; same_tokens = λ t. refl; may = mode; late = λ late. cc; means = λ hooks. rw mode refl },
    )
