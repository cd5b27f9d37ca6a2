use Rattle.std.proofs.Common.{Some, ap, sym, ◌∙◌, subst, arith}
use Rattle.fr_frame.specs.Common.{IsListedIn, Slot, node_of}
use Rattle.fr_values.specs.SliceLaws.{read}
use Rattle.fr_frame.proofs.list_items.list_of.Goals as goal

pub returns-in-List : goal.returns-in-List
returns-in-List c = record {
  slot = c.get.result.now;
  here = read c.args.entries.now c.args.id.0 c.idx.result c.get.result.now c.idx.ensures.number c.requires c.get.ensures.value;
  at = node_of c.in_ok-place.place.now;
  node = sym c.in_ok-place.ensures;
  owner = c.in-Child.is;
  above = c.in-List.above;
  items = c.in-List.items;
  there =
      read c.args.entries.now c.in-Child.list.0 c.idx-2.result c.get-2.result.now c.idx-2.ensures.number
      (omega (arith, c.len.ensures.count, c.if-list-len.false)) c.get-2.ensures.value
      ∙ ap (λ (slot : Slot). Some slot) c.in-List.is;
  listed =
      subst (λ rope. IsListedIn c.in-List.above.partial rope.items c.args.id.0 c.in-Child.number) c.deref.ensures
      (c.is_item.ensures.listed c.if-is_item.true);
}
