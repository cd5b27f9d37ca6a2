use Rattle.std.proofs.Common.{List, set, ap, ◌∙◌}
use Rattle.fr_values.specs.Common.{Val, in_slot}
use Rattle.fr_values.proofs.children.Children.take.Goals as goal

pub returns-clause-rest : goal.returns-clause-rest
returns-clause-rest c =
    c.hand_out.ensures.marked ∙ ap (λ (v : Val). set c.args.self.now c.args.i (in_slot v)) c.nothing.ensures
