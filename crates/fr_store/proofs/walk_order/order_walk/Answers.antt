use Rattle.std.proofs.Common.{◌≡◌, ◌∙◌, List, ℕ, length, get_or, take, reverse, inl, sym, ap, subst, arith}
use Rattle.std.proofs.lemmas.List.{take_at}
use Rattle.fr_store.specs.Common.{FrameOwner, IsSpread, IsWalk, cursor_shown, heap_of, kid_shown, slot_of}
use Rattle.fr_store.proofs.PairLaws.{in_map}
use Rattle.std.proofs.lemmas.List.Elements.{Contains-get_or}
use Rattle.fr_store.proofs.StoredLaws.{are_all_stored, stored_owned}
use Rattle.fr_store.proofs.WalkLaws.{walk_of}
use Rattle.fr_store.proofs.walk_order.order_walk.Goals as goal

pub note_all-requires : goal.note_all-requires
note_all-requires c = record {
  owned = λ i d h. stored_owned c.requires.is_open.is_open.stands c.requires.is_open.is_open.all (get_or c.args.places.now i d).slot.0
      ((c.requires.kept (get_or c.args.places.now i d).slot.0).1
      (in_map slot_of c.args.places.now (get_or c.args.places.now i d) (Contains-get_or c.args.places.now i d h)));
}

pub spread-requires-clause-stored : goal.spread-requires-clause-stored
spread-requires-clause-stored c =
    are_all_stored c.requires.is_open.is_open.stands c.requires.is_open.is_open.all c.args.places.now c.note_all.new.places c.sort.new.places
    c.note_all.ensures.slots c.requires.kept c.requires.once c.note_all.ensures.noted c.note_all.ensures.narrow
    c.sort.ensures.same

pub returns : goal.returns
returns c =
    let k = kid_shown (heap_of c.args.slots.now) c.args.stack.now in
    let long : length c.sort.new.places ≡ length c.args.places.now = omega (arith, c.note_all.auto.places, c.sort.auto.places) in
    let spread : IsSpread k (take (length c.args.places.now) c.spread.new.order)
    = subst (λ (n : ℕ). IsSpread k (take n c.spread.new.order)) long c.spread.ensures.spread in
    let items : c.truncate.new.self.items ≡ take (length c.args.places.now) c.spread.new.order = c.truncate.ensures.items
    ∙ ap (λ (l : List ℕ). take (length c.args.places.now) l)
    (take_at c.spread.new.order _ _ (c.spread.ensures.long ∙ c.deref_mut.ensures.len)) in
    record {
      walk =
          subst (IsWalk k) (sym (c.reverse.ensures.items ∙ ap (λ (l : List ℕ). reverse l) items))
          (walk_of c.requires.is_open.plan (heap_of c.args.slots.now)
          c.requires.is_open.plan.root FrameOwner.Root 0 c.requires.is_open.is_open.stands.holds c.requires.is_open.is_open.stands.left
          (inl (cursor_shown (heap_of c.args.slots.now) c.args.stack.now, c.requires.is_open.is_open.stands.leads)) spread);
    }
