use Rattle.std.proofs.Common.{◌≡◌, refl, inl, sym, ap, ◌∙◌}
use Rattle.fr_work.specs.Common.{deferred, mode_of, strict}
use Rattle.fr_work.proofs.work.Work.begin_deferred_move.Goals as goal

pub returns-in-Strict-clause-decides : goal.returns-in-Strict-clause-decides
returns-in-Strict-clause-decides c =
    let mode : c.args.self.now.state.mode ≡ strict = sym c.mode.ensures.mode ∙ ap mode_of c.in-Strict.is in
    record { fitting = tt; same_tokens = λ t. refl; may = mode; late = λ late. cc; means = λ hooks. rw mode refl }

pub returns-in-Deferred-clause-decides : goal.returns-in-Deferred-clause-decides
returns-in-Deferred-clause-decides c =
    let mode : c.args.self.now.state.mode ≡ deferred c.in-Deferred.field-0 = sym c.mode.ensures.mode ∙ ap mode_of c.in-Deferred.is in
    inl ((λ out. cc), λ hooks. rw mode refl)
