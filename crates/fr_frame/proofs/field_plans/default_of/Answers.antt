use Rattle.std.proofs.Common.{◌∙◌}
use Rattle.fr_frame.proofs.RulesOnChildren.{told_takes}
use Rattle.fr_frame.proofs.field_plans.default_of.Goals as goal

pub returns-in-Template : goal.returns-in-Template
returns-in-Template c =
    c.template.ensures.meant ∙ told_takes c.args.table.now c.args.meant c.in-Template.default c.requires.named c.in-Template.ensures.rule
