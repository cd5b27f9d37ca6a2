use Rattle.std.proofs.Common.{◌∙◌}
use Rattle.fr_values.specs.Common.{view}
use Rattle.fr_values.proofs.SetChildren.{none_same, value_same}
use Rattle.fr_values.proofs.children.Children.is_same.Goals as goal

pub returns-in-Some : goal.returns-in-Some
returns-in-Some c x is =
    c.same.ensures.same
    ∙ value_same (view c.args.value.now) (view c.in-Some.held.now) c.args.self.now c.args.i x c.in-Some.ensures.value is

pub returns-in-None : goal.returns-in-None
returns-in-None c x is = none_same (view c.args.value.now) c.args.self.now c.args.i x c.in-None.ensures.value is
