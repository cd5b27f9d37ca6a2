use Rattle.std.proofs.Common.{ap, is_some, sym, ◌∙◌}
use Rattle.fr_work.proofs.FieldStepLaws.{copied_some, none_just, parent_so}
use Rattle.fr_work.proofs.work.Work.parent_field.Goals as goal

pub returns-clause-none : goal.returns-clause-none
returns-clause-none c =
    none_just c.field_here.result _
    (sym (copied_some c.field_here.result) ∙ ap is_some c.field_here.ensures.field
    ∙ parent_so c.args.self.now.shapes c.args.self.now.root c.args.self.now.state c.law_sound.ensures.in_order)
