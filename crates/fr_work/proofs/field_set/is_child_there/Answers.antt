use Rattle.std.proofs.Common.{ap, is_some, ◌∙◌, arith}
use Rattle.fr_work.proofs.ToldLaws.{given_there, past_end, placed_there}
use Rattle.fr_work.proofs.field_set.is_child_there.Goals as goal

pub returns-then-i-len : goal.returns-then-i-len
returns-then-i-len c = past_end c.args.i c.args.children.now (omega (arith, c.len.ensures.count, c.if-i-len.true))

pub returns-in-Some : goal.returns-in-Some
returns-in-Some c = given_there c.args.i c.args.children.now _ c.in-Some.ensures.value

pub returns-in-None : goal.returns-in-None
returns-in-None c =
    c.is_some.ensures ∙ ap is_some c.slot.ensures.slot ∙ placed_there c.args.i c.args.children.now c.in-None.ensures.value
