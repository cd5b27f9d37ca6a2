use Rattle.std.proofs.Common.{◌≡◌, ◌∷◌, List, length, ap, sym, ◌∙◌, arith}
use Rattle.fr_values.specs.Common.{Value, both, entries_in, entries_occur, entries_view, into_iter_items, vals_occur, vals_view}
use Rattle.fr_values.proofs.Kept.{room_first, entry_conserved, placed_next}
use Rattle.fr_values.proofs.gathering.put_entries.Goals as goal

pub release-requires : goal.release-requires
release-requires c = record {
  room = room_first (both (entries_occur (entries_view c.args.entries.items)) (vals_occur (vals_view (into_iter_items c.args.rest)))) c.args.ledger.now (entries_occur (entries_view c.loop-key.entries.items)) c.loop-key.ledger c.in-Some.key (into_iter_items c.loop-key.rest) _ c.in-Some.ensures.items c.requires.room c.loop-key.invariant.conserved;
}

pub loop-key-preserved : goal.loop-key-preserved
loop-key-preserved c =
    let inv = c.loop-key.invariant in
    let es = entries_view c.loop-key.entries.items in
    let new = entries_view c.put_entry.new.entries.items in
    let rest = into_iter_items c.loop-key.rest in
    let last = into_iter_items c.next-in-Some.new.self in
    let k = c.in-Some.key in
    let v = c.in-Some-next.value in
    let is : rest ≡ k ∷ (v ∷ last) = c.in-Some.ensures.items ∙ ap (λ (l : List Value). k ∷ l) c.in-Some-next.ensures.items in
    let long = ap (λ (l : List Value). length l) is in record {
      merged = ap (λ l. entries_in l (vals_view last)) c.put_entry.ensures.put
          ∙ ap (λ (l : List Value). entries_in es (vals_view l)) (sym is) ∙ inv.merged;
      placed = placed_next es new k v rest last c.args.places.now c.loop-key.i is c.put_entry.ensures.put inv.placed;
      count = omega arith;
      space = omega arith;
      conserved = entry_conserved (both (entries_occur (entries_view c.args.entries.items)) (vals_occur (vals_view (into_iter_items c.args.rest)))) c.args.ledger.now es new c.loop-key.ledger c.put_entry.new.ledger k v rest last is inv.conserved c.put_entry.ensures.conserved;
    }
