use Rattle.std.proofs.Common.{◌≡◌, [], sym, ap, ◌∙◌, arith}
use Rattle.fr_values.specs.Common.{into_iter_items, names_of, vals_occur, vals_view}
use Rattle.fr_shape.specs.View.{member_view, members_of}
use Rattle.std.proofs.lemmas.List.{nil_from_length}
use Rattle.fr_values.proofs.DynamicParts.{members_made, made_all, pairs_in, pairs_none, room_next}
use Rattle.fr_values.proofs.dynamics.put_members.Goals as goal

pub dynamic_in-dynamic-requires : goal.dynamic_in-dynamic-requires
dynamic_in-dynamic-requires c = record {
  room =
      room_next (vals_occur (vals_view c.args.values.items)) c.args.ledger.now c.loop-value.ledger c.in-Some.value
      (into_iter_items c.loop-value.rest) _ c.in-Some.ensures.items c.loop-value.invariant.conserved c.requires.room;
}

pub returns-clause-members : goal.returns-clause-members
returns-clause-members c =
    let left = names_of (into_iter_items c.loop-value.names_left) in
    let none : pairs_in left (into_iter_items c.loop-value.rest) ≡ [] =
    ap (pairs_in left) (nil_from_length (into_iter_items c.loop-value.rest) (omega (arith, c.loop-value.invariant.count, c.in_default.ensures.cases.0))) ∙ pairs_none left in
    ap members_of (made_all member_view c.loop-value.members.items _ (pairs_in (names_of c.args.names.items) c.args.values.items) none c.loop-value.invariant.made)
    ∙ sym (members_made (names_of c.args.names.items) c.args.values.items)
