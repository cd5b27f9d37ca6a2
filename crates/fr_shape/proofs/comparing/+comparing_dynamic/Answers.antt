use Rattle.std.proofs.Common.{length, ap, sym, ◌∙◌}
use Rattle.fr_shape.proofs.Apart.{members_apart}
use Rattle.fr_shape.proofs.comparing.+comparing_dynamic.Goals as goal

pub same_members-returns-then-left-right : goal.same_members-returns-then-left-right
same_members-returns-then-left-right t c =
    members_apart c.args.a.now c.args.b.now
    (λ e. c.if-left-right.true (ap length c.as_slice-left.ensures.items ∙ e ∙ sym (ap length c.as_slice-right.ensures.items)))
