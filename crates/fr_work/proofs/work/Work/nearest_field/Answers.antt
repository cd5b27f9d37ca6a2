use Rattle.std.proofs.Common.{ap, is_some, sym, ◌∙◌}
use Rattle.fr_work.proofs.FieldStepLaws.{copied_some, none_just, nearest_named}
use Rattle.fr_work.proofs.work.Work.nearest_field.Goals as goal

pub returns-clause-none : goal.returns-clause-none
returns-clause-none c =
    none_just c.nearest_here.result _
    (sym (copied_some c.nearest_here.result) ∙ ap is_some c.nearest_here.ensures.field
    ∙ nearest_named c.args.self.now.shapes c.args.self.now.root c.args.self.now.state c.law_sound.ensures.in_order)
