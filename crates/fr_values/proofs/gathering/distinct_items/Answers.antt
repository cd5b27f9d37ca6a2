use Rattle.std.proofs.Common.{List, drop, map, take, subst, sym, ap, ◌∙◌}
use Rattle.fr_values.specs.Common.{Conserved, Room, Value, both, item_places, items_in, no_vals, none_twice, places_of, same, vals_occur, vals_view, view}
use Rattle.fr_values.proofs.Gathered.{items_behind, items_held, items_joined}
use Rattle.fr_values.proofs.gathering.distinct_items.Goals as goal

pub keep_items-requires-clause-placed : goal.keep_items-requires-clause-placed
keep_items-requires-clause-placed c =
    let items = c.into_values-items.result.items in
    let base = c.args.base in
    c.as_slice-2.ensures.value ∙ c.in-Ok.ensures
    ∙ ap (λ l. places_of same (take base (map view l)) (drop base (map view l))) c.as_slice.ensures.value
    ∙ items_behind items base
    ∙ (λ j. item_places (vals_view (sym c.in-Ok-split_off.ensures.items j)) (vals_view (sym c.in-Ok-split_off.ensures.tail j)))

pub keep_items-requires-clause-room : goal.keep_items-requires-clause-room
keep_items-requires-clause-room c =
    let items = c.into_values-items.result.items in
    subst (λ held. Room held c.args.ledger.now)
    (ap (λ (l : List Value). vals_occur (vals_view l)) (sym c.into_values-items.ensures.values)
    ∙ items_held items c.args.base
    ∙ (λ j. both (vals_occur (vals_view (sym c.in-Ok-split_off.ensures.items j))) (vals_occur (vals_view (sym c.in-Ok-split_off.ensures.tail j)))))
    c.requires.room

pub returns-clause-distinct : goal.returns-clause-distinct
returns-clause-distinct c =
    let items = c.into_values-items.result.items in
    let is = c.into_values-items.ensures.values in
    c.keep_items.ensures.distinct
    ∙ (λ j. items_in (vals_view (c.in-Ok-split_off.ensures.items j)) (vals_view (c.in-Ok-split_off.ensures.tail j)))
    ∙ items_joined items c.args.base (ap (λ (l : List Value). none_twice (vals_view (take c.args.base l))) is ∙ c.requires.distinct) c.law_gathering.ensures.items
    ∙ ap (λ (l : List Value). items_in no_vals (vals_view l)) is

pub returns-clause-conserved : goal.returns-clause-conserved
returns-clause-conserved c =
    let items = c.into_values-items.result.items in
    subst (λ held. Conserved held c.args.ledger.now (vals_occur (vals_view c.keep_items.result.items)) c.keep_items.new.ledger)
    (sym (ap (λ (l : List Value). vals_occur (vals_view l)) (sym c.into_values-items.ensures.values)
    ∙ items_held items c.args.base
    ∙ (λ j. both (vals_occur (vals_view (sym c.in-Ok-split_off.ensures.items j))) (vals_occur (vals_view (sym c.in-Ok-split_off.ensures.tail j))))))
    c.keep_items.ensures.conserved
