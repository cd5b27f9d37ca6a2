use Rattle.std.proofs.Common.{List, refl, subst}
use Rattle.fr_frame.specs.Common.{FrameOwner, Slot, gives, view}
use Rattle.fr_frame.specs.Handing.{IsHanded}
use Rattle.fr_frame.specs.declared.places.Taker.{Taker}
use Rattle.fr_frame.proofs.HandLaws.{passed}
use Rattle.fr_frame.proofs.places.SlotId.give.Goals as goal

pub returns-clause-given : goal.returns-clause-given
returns-clause-given c =
    subst (λ (slots : List Slot). IsHanded Taker.Above slots c.put_child.new.slots c.args.self.0)
    (c.keep_item.ensures.none c.if-keep_item.false) (passed c.keep_item.new.self c.take_whole-i.new.slots c.args.self.0
    (FrameOwner.Child c.take_whole-i.result.0 c.take_whole-i.result.1) (view c.take_whole-i.result.2)
    c.take_whole-i.ensures.taken Taker.Above c.put_child.new.slots gives refl c.put_child.ensures.put)
