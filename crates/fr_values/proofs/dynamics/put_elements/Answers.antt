use Rattle.std.proofs.Common.{◌≡◌, [], map, sym, ap, ◌∙◌, arith}
use Rattle.fr_values.specs.Common.{dyn_view, into_iter_items, vals_occur, vals_view}
use Rattle.fr_shape.specs.View.{dynamics_of}
use Rattle.std.proofs.lemmas.List.{nil_from_length}
use Rattle.fr_values.proofs.DynamicParts.{dynamic_of, elements_made, made_all, room_next}
use Rattle.fr_values.proofs.dynamics.put_elements.Goals as goal

pub dynamic_in-requires : goal.dynamic_in-requires
dynamic_in-requires c = record {
  room =
      room_next (vals_occur (vals_view c.args.values.items)) c.args.ledger.now c.loop-value.ledger c.in-Some.value
      (into_iter_items c.loop-value.rest) _ c.in-Some.ensures.items c.loop-value.invariant.conserved c.requires.room;
}

pub returns-clause-elements : goal.returns-clause-elements
returns-clause-elements c =
    let none : map dynamic_of (into_iter_items c.loop-value.rest) ≡ [] =
    ap (map dynamic_of) (nil_from_length (into_iter_items c.loop-value.rest) (grind (arith, c.loop-value.invariant.count))) in
    ap dynamics_of (made_all dyn_view c.loop-value.elements.items _ (map dynamic_of c.args.values.items) none c.loop-value.invariant.made)
    ∙ sym (elements_made c.args.values.items)
