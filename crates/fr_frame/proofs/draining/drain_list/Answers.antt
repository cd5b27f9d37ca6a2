use Rattle.std.proofs.Common.{true, ◌≡◌, sym, ◌∙◌, arith}
use Rattle.fr_frame.specs.Common.{Slot, is_list}
use Rattle.fr_frame.proofs.DrainLaws.{is_drained, list_in}
use Rattle.fr_values.specs.SliceLaws.{holds_inside, holds_read}
use Rattle.fr_frame.proofs.draining.drain_list.Goals as goal

pub unreachable-requires : goal.unreachable-requires
unreachable-requires c =
    let list : is_list c.get_mut.result.now ≡ true =
    holds_read c.args.entries.now c.args.id.0 c.idx.result c.get_mut.result.now (λ (slot : Slot). is_list slot ≡ true) c.idx.ensures.number
    c.get_mut.ensures.value c.requires.list in
    let here = list_in c.get_mut.result.now list in
    c.in_default.not-List here.0 here.1 (c.replace.ensures.value ∙ here.2)

pub returns : goal.returns
returns c =
    let drained = is_drained c.args.id.0 c.args.entries.now c.put_items_in.new.entries c.idx.result c.idx-2.result c.get_mut.result.now c.replace.new.dest
    c.in-List.place c.in-List.items c.put_items_in.new.partial
    (omega (arith, holds_inside c.args.entries.now c.args.id.0 (λ (slot : Slot). is_list slot ≡ true) c.requires.list, c.idx.ensures.number)) c.idx.ensures.number c.get_mut.ensures.value (sym c.replace.ensures.value ∙ c.in-List.is) c.replace.ensures.after
    c.put_items_in.ensures.freed c.put_items_in.ensures.partial c.idx-2.ensures.number in record {
      seen = drained.seen;
      plain = drained.plain;
      others = drained.others;
      as_many = drained.as_many;
    }
