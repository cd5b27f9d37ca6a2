use Rattle.std.proofs.Common.{ap, is_some, sym, ◌∙◌}
use Rattle.fr_work.proofs.FieldStepLaws.{chosen_so, copied_some}
use Rattle.fr_work.proofs.work.Work.selected_variant.Goals as goal

pub returns-in-Some-clause-begun : goal.returns-in-Some-clause-begun
returns-in-Some-clause-begun c =
    sym (copied_some c.variant_numbered.result) ∙ ap is_some c.variant_numbered.ensures.variant
    ∙ chosen_so c.args.self.now c.law_sound.ensures.in_order c.in-Some.number c.in-Some.ensures.selected
