use Rattle.std.proofs.Common.{List, set, ap, ◌∙◌}
use Rattle.fr_values.specs.Common.{Cell, given, placed, view}
use Rattle.fr_values.specs.CellLaws.{slot_child}
use Rattle.fr_values.proofs.SetChildren.{moved_given, moved_nothing, no_child, value_child}
use Rattle.fr_values.proofs.children.Children.move_back.Goals as goal

pub returns-in-Some : goal.returns-in-Some
returns-in-Some c =
    c.place-nothing.ensures.placed ∙ ap (λ (cs : List Cell). set cs c.args.i (placed c.in-Some.slot)) c.clear.ensures.cleared
    ∙ moved_given c.args.self.now c.args.i c.args.next (placed c.in-Some.slot) c.requires.next c.requires.absent
    (slot_child c.args.self.now c.args.next c.in-Some.slot c.in-Some.ensures.slot)

pub returns-in-Some-take : goal.returns-in-Some-take
returns-in-Some-take c =
    c.put.ensures.put ∙ ap (λ (cs : List Cell). set cs c.args.i (given (view c.in-Some-take.value))) c.take.ensures.rest
    ∙ moved_given c.args.self.now c.args.i c.args.next (given (view c.in-Some-take.value)) c.requires.next c.requires.absent
    (value_child c.args.self.now c.args.next (view c.in-Some-take.value) c.in-Some-take.ensures.taken)

pub returns-in_default-take : goal.returns-in_default-take
returns-in_default-take c =
    c.take.ensures.rest ∙ moved_nothing c.args.self.now c.args.i c.args.next c.requires.next c.requires.absent
    (no_child c.args.self.now c.args.next c.requires.inside c.in_default.ensures.slot c.in_default-take.ensures.taken)
