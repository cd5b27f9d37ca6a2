use Rattle.std.proofs.Common.{IsSome}
use Rattle.fr_frame.specs.Common.{Node, value_of}
use Rattle.fr_frame.specs.declared.places.Taker.{Taker}
use Rattle.fr_frame.proofs.HandLaws.{handed_on, left_still, may_still, stays}
use Rattle.fr_frame.proofs.places.SlotId.hand_over.Goals as goal

pub give-requires-clause-owned : goal.give-requires-clause-owned
give-requires-clause-owned c =
    may_still c.args.slots.now c.make_whole.new.slots c.args.self.0 c.in-Ok.ensures.made c.args.taker Taker.Above c.in-Above.is
    c.requires.may

pub end-requires-clause-owned : goal.end-requires-clause-owned
end-requires-clause-owned c =
    may_still c.args.slots.now c.make_whole.new.slots c.args.self.0 c.in-Ok.ensures.made c.args.taker Taker.Set c.in-Set.is
    c.requires.may

pub returns-in-Above-clause-handed : goal.returns-in-Above-clause-handed
returns-in-Above-clause-handed c =
    handed_on c.args.slots.now c.make_whole.new.slots c.args.self.0 c.in-Ok.ensures.made c.args.taker Taker.Above
    c.give.new.slots c.in-Above.is c.give.ensures.given

pub returns-in-Set-clause-handed : goal.returns-in-Set-clause-handed
returns-in-Set-clause-handed c =
    handed_on c.args.slots.now c.make_whole.new.slots c.args.self.0 c.in-Ok.ensures.made c.args.taker Taker.Set
    c.end.new.slots c.in-Set.is c.end.ensures.ended

pub returns-in-Above-taker-clause-left : goal.returns-in-Above-taker-clause-left
returns-in-Above-taker-clause-left c =
    left_still c.args.slots.now c.make_whole.new.slots c.args.self.0 c.in-Err.ensures.refused c.args.taker
    c.release_frame.new.slots c.in-Above-taker.is c.release_frame.ensures.left

pub returns-in-Itself-taker-clause-left : goal.returns-in-Itself-taker-clause-left
returns-in-Itself-taker-clause-left c =
    stays c.args.slots.now c.make_whole.new.slots c.args.self.0 c.in-Err.ensures.refused (λ (at : Node). IsSome (value_of at.body))
    c.args.taker c.in-Itself-taker.is c.requires.complete
