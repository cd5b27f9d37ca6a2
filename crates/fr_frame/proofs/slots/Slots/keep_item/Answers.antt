use Rattle.std.proofs.Common.{length-set, arith}
use Rattle.fr_frame.specs.Common.{Node, Slot}
use Rattle.fr_frame.specs.Handing.{IsWhole}
use Rattle.fr_frame.proofs.CompleteItemLaws.{kept_handed, kept_tokens, whole_in}
use Rattle.fr_frame.proofs.HandLaws.{in_use}
use Rattle.fr_values.specs.SliceLaws.{read}
use Rattle.std.proofs.lemmas.Option.{slice_get_within}
use Rattle.fr_frame.proofs.RawLaws.{used_inside}
use Rattle.fr_frame.proofs.slots.Slots.keep_item.Goals as goal

pub list_of-requires : goal.list_of-requires
list_of-requires c =
    used_inside c.self.inside.entries c.args.self.now c.args.id.0 c.self.view_is
    (in_use c.args.self.now c.args.id.0 (λ (at : Node). IsWhole at.body) c.requires.whole)

pub get_mut-requires : goal.get_mut-requires
get_mut-requires c =
    let inside = used_inside c.self.inside.entries c.args.self.now c.args.id.0 c.self.view_is (in_use c.args.self.now c.args.id.0 (λ (at : Node). IsWhole at.body) c.requires.whole) in
    record { inside = omega (arith, c.idx.ensures.number) }

pub put_item-requires : goal.put_item-requires
put_item-requires c =
    whole_in c.self.inside.entries c.args.self.now c.self.view_is c.args.id.0 c.requires.whole c.get_mut.result.now
    (read c.self.inside.entries c.args.id.0 c.idx.result c.get_mut.result.now c.idx.ensures.number
    (slice_get_within c.self.inside.entries c.args.id.0 c.in-Some.ensures.slot c.in-Some.ensures.here) c.get_mut.ensures.value)

pub get_mut-requires-2 : goal.get_mut-requires-2
get_mut-requires-2 c = record {
  inside =
      omega (
        arith,
        c.idx-2.ensures.number,
        length-set c.self.inside.entries c.idx.result c.put_item.new.slot,
        slice_get_within c.self.inside.entries c.in-Some.list.0 (Slot.List c.in-Some.ensures.above c.in-Some.ensures.items)
            c.in-Some.ensures.there,
      );
}

pub returns-clause-kept : goal.returns-clause-kept
returns-clause-kept c e =
    kept_handed c.self.inside.entries c.args.self.now c.self.view_is c.args.id.0 c.in-Some.list c.in-Some.number c.in-Some.ensures
    c.requires.whole c.requires.owned c.get_mut.result.now c.put_item.new.slot c.get_mut-2.result.now c.mark_item.new.slot
    c.idx.result c.idx-2.result c.get_mut.ensures.value c.put_item.ensures c.idx.ensures.number c.idx-2.ensures.number
    c.get_mut-2.ensures.value c.mark_item.ensures

pub returns-clause-tokens : goal.returns-clause-tokens
returns-clause-tokens c =
    kept_tokens c.self.inside.entries c.args.self.now c.self.view_is c.args.id.0 c.in-Some.list c.in-Some.number c.in-Some.ensures
    c.requires.whole c.requires.owned c.get_mut.result.now c.put_item.new.slot c.get_mut-2.result.now c.mark_item.new.slot
    c.idx.result c.idx-2.result c.get_mut.ensures.value c.put_item.ensures c.idx.ensures.number c.idx-2.ensures.number
    c.get_mut-2.ensures.value c.mark_item.ensures
