use Rattle.fr_frame.proofs.HandLaws.{taken_whole}
use Rattle.fr_frame.proofs.places.SlotId.take_whole.Goals as goal

pub returns-clause-taken : goal.returns-clause-taken
returns-clause-taken c =
    taken_whole c.args.slots.now c.take_out-owner.new.slots c.args.self.0 c.take_out-owner.result.0 c.take_out-owner.result.1
    c.requires.whole c.requires.owned c.take_out-owner.ensures.owner c.take_out-owner.ensures.body c.in-Child.parent c.in-Child.i
    c.in-Whole.value c.take_out-owner.ensures.left c.in-Child.is c.in-Whole.is
