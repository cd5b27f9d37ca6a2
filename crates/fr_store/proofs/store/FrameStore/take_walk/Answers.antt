use Rattle.std.proofs.Common.{◌≡◌, ◌∙◌, List, length, sym, ap, subst, arith}
use Rattle.std.proofs.lemmas.List.{length-map}
use Rattle.fr_store.specs.Common.{AreOnce, StoredPlace, slot_of, slots_of}
use Rattle.fr_store.proofs.NumbersInLists.{index_once, room_indexed}
use Rattle.fr_store.proofs.store.FrameStore.take_walk.Goals as goal

pub order_walk-requires-clause-once : goal.order_walk-requires-clause-once
order_walk-requires-clause-once c =
    let items : c.deref_mut.result.now ≡ c.self.inside.places.items
    = c.deref_mut.ensures.value ∙ ap (λ v. v.items) c.replace-places.ensures.value in
    subst (λ (l : List StoredPlace). AreOnce (slots_of l)) (sym items)
    (index_once (slots_of c.self.inside.places.items) c.self.inside.positions.items c.self.invariant)

pub order_walk-requires-clause-room : goal.order_walk-requires-clause-room
order_walk-requires-clause-room c =
    let items : c.deref_mut.result.now ≡ c.self.inside.places.items
    = c.deref_mut.ensures.value ∙ ap (λ v. v.items) c.replace-places.ensures.value in
    let room = room_indexed (slots_of c.self.inside.places.items) c.self.inside.positions.items c.self.invariant in
    let long : length c.deref_mut.result.now ≡ length (slots_of c.self.inside.places.items)
    = ap (λ (l : List StoredPlace). length l) items ∙ sym (length-map c.self.inside.places.items slot_of) in
    let order : length c.replace-order.result.items ≡ length c.self.inside.positions.items
    = ap (λ v. length v.items) c.replace-order.ensures.value in
    omega arith
