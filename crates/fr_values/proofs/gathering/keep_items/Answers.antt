use Rattle.fr_values.specs.Common.{both, into_iter_items, vals_occur, vals_view}
use Rattle.fr_values.proofs.Kept.{room_first}
use Rattle.fr_values.proofs.gathering.keep_items.Goals as goal

pub keep_item-requires-clause-room : goal.keep_item-requires-clause-room
keep_item-requires-clause-room c =
    room_first (both (vals_occur (vals_view c.args.kept.items)) (vals_occur (vals_view c.args.items.items))) c.args.ledger.now (vals_occur (vals_view c.loop-item.kept.items)) c.loop-item.ledger c.in-Some.item (into_iter_items c.loop-item.rest) _ c.in-Some.ensures.items c.requires.room c.loop-item.invariant.conserved
