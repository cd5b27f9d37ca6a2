use Rattle.std.proofs.Common.{◌≡◌, ◌++◌, List, drop, length, take, subst, sym, ap, arith, ◌∙◌}
use Rattle.fr_values.specs.Common.{Conserved, Room, Value, entries_occur, entries_view, into_iter_items, parts_of_entries, places_of, same, turn_keys}
use Rattle.fr_values.proofs.Gathered.{entries_behind, entries_held, entries_joined, turn_count}
use Rattle.fr_values.proofs.EntriesInTurn.{parts_count}
use Rattle.fr_values.proofs.gathering.merge_entries.Goals as goal
use Rattle.fr_values.proofs.gathering.merge_entries.Goals.{After-take_entries}

-- the parts are those of the entries that are taken, and what is left
are : (c : After-take_entries) → c.args.parts ≡ parts_of_entries c.take_entries.new.entries.items ++ into_iter_items c.take_entries.new.rest
are c =
    sym c.in-Ok-into_entries.ensures.split
    ∙ ap (λ (l : List Value). parts_of_entries c.in-Ok-into_entries.split.0.items ++ l) (sym c.into_iter-rest.ensures.rest)
    ∙ c.take_entries.ensures.taken

pub places_of_keys-requires : goal.places_of_keys-requires
places_of_keys-requires c =
    omega (
      arith,
      turn_count (parts_of_entries c.as_slices.result.0.now ++ c.as_slices.result.1.now),
      ap (λ (l : List Value). length l) c.as_slices.ensures,
    )

pub take_entries-requires-clause-within : goal.take_entries-requires-clause-within
take_entries-requires-clause-within c =
    let es = c.in-Ok-into_entries.split.0.items in
    let values = c.in-Ok-into_entries.split.1.items in
    omega (arith, ap (λ (l : List Value). length l) c.in-Ok-into_entries.ensures.split, parts_count es values, ap (λ (l : List Value). length l) c.into_iter-rest.ensures.rest)

pub put_entries-requires-clause-space : goal.put_entries-requires-clause-space
put_entries-requires-clause-space c =
    let es = c.take_entries.new.entries.items in
    let rest = into_iter_items c.take_entries.new.rest in
    omega (arith, ap (λ (l : List Value). length l) (are (goal.at.put_entries-requires-clause-space c).After-take_entries), parts_count es rest, c.in-Ok-into_entries.ensures.room, c.take_entries.ensures.capacity, c.take_entries.ensures.count, c.take_entries.ensures.counted)

pub put_entries-requires-clause-placed : goal.put_entries-requires-clause-placed
put_entries-requires-clause-placed c =
    let es = c.take_entries.new.entries.items in
    let rest = into_iter_items c.take_entries.new.rest in
    c.as_slice.ensures.value ∙ c.in-Ok.ensures
    ∙ ap (λ l. places_of same (take c.args.base (turn_keys l)) (drop c.args.base (turn_keys l))) c.as_slices.ensures
    ∙ entries_behind c.args.parts es rest (are (goal.at.put_entries-requires-clause-placed c).After-take_entries) c.args.base c.take_entries.ensures.count

pub put_entries-requires-clause-room : goal.put_entries-requires-clause-room
put_entries-requires-clause-room c =
    let es = c.take_entries.new.entries.items in
    let rest = into_iter_items c.take_entries.new.rest in
    subst (λ held. Room held c.args.ledger.now)
    (entries_held c.args.parts es rest (are (goal.at.put_entries-requires-clause-room c).After-take_entries)) c.requires.room

pub returns-clause-merged : goal.returns-clause-merged
returns-clause-merged c =
    let es = c.take_entries.new.entries.items in
    let rest = into_iter_items c.take_entries.new.rest in
    c.put_entries.ensures.merged
    ∙ entries_joined c.args.parts es rest (are (goal.at.returns-clause-merged c).After-take_entries) c.args.base c.take_entries.ensures.count c.requires.distinct c.law_gathering.ensures.entries

pub returns-clause-conserved : goal.returns-clause-conserved
returns-clause-conserved c =
    let es = c.take_entries.new.entries.items in
    let rest = into_iter_items c.take_entries.new.rest in
    subst (λ held. Conserved held c.args.ledger.now (entries_occur (entries_view c.put_entries.result.items)) c.put_entries.new.ledger)
    (sym (entries_held c.args.parts es rest (are (goal.at.returns-clause-conserved c).After-take_entries))) c.put_entries.ensures.conserved
