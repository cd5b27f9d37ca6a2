use Rattle.std.proofs.Common.{ap, subst, ◌∙◌}
use Rattle.fr_frame.specs.Common.{IsSeenAs, Slot}
use Rattle.fr_frame.proofs.AddItemLaws.{seen_made}
use Rattle.fr_frame.proofs.list_items.begin_rope.Goals as goal

pub returns-clause-seen : goal.returns-clause-seen
returns-clause-seen c =
    subst (λ (was : Slot). IsSeenAs was (Slot.List c.in-Used.place c.in-Ok.items)) c.in-Used.ensures.value
    (seen_made c.in-Used.place c.in-Ok.items (ap (λ rope. rope.items) (c.in-Ok.ensures.ok ∙ c.new.ensures.empty)))
