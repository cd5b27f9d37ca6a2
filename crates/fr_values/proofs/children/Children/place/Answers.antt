use Rattle.std.proofs.Common.{List, set, ap, ◌∙◌}
use Rattle.fr_values.specs.Common.{Val, in_slot}
use Rattle.fr_values.proofs.children.Children.place.Goals as goal

pub returns-clause-placed : goal.returns-clause-placed
returns-clause-placed c =
    c.hand_out.ensures.marked ∙ ap (λ (v : Val). set c.args.self.now c.args.i (in_slot v)) c.in_place.ensures
