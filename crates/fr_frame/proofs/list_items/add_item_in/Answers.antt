use Rattle.std.proofs.Common.{◌≡◌, ◌++◌, ◌∷◌, [], List, ap, subst, ◌∙◌}
use Rattle.std.specs.Box.{with_value}
use Rattle.fr_frame.specs.Common.{HasRoomIn, IsSeenAs, Slot, SlotId}
use Rattle.fr_frame.proofs.AddItemLaws.{added_in, ok_three}
use Rattle.fr_frame.proofs.list_items.add_item_in.Goals as goal

pub returns-clause-added : goal.returns-clause-added
returns-clause-added c =
    let rope : c.deref_mut.result.now.items ≡ c.in-List.items.value.items = ap (λ it. it.items) c.deref_mut.ensures.value in
    ok_three c.push_item.result _ _ _ _ (λ partial items room.
    added_in c.args.slot.now c.in-List.place c.in-List.items (with_value c.in-List.items c.push_item.new.items) c.push_item.new.partial
    c.args.item c.requires (subst (λ (slot : Slot). IsSeenAs c.args.slot.now slot) c.in-List.is c.make_list.ensures.seen) partial
    (items ∙ ap (λ (l : List SlotId). l ++ c.args.item ∷ []) rope)
    (subst (λ (l : List SlotId). HasRoomIn l c.in-List.place.partial) rope room))
    c.push_item.ensures.partial c.push_item.ensures.items c.push_item.ensures.room
