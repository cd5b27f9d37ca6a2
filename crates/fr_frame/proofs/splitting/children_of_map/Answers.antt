use Rattle.std.proofs.Common.{◌≡◌, ℕ, List, Some, length, option_map, subst, ap, sym, ◌∙◌, rules}
use Rattle.fr_frame.specs.Common.{Cell, EntriesKind, HoldsNothingTwice, Val, as_entries, cells_of_vals, entries_of, entries_view, map_of, view}
use Rattle.fr_frame.proofs.ChildrenOfMaps.{base_counted, entries_counted}
use Rattle.fr_frame.proofs.splitting.children_of_map.Goals as goal
use Rattle.fr_frame.proofs.splitting.children_of_map.Goals.{After-entries_of-entries}

-- the map has these entries
has_entries : (c : After-entries_of-entries) → view c.args.value.now ≡ map_of (entries_view c.entries_of-entries.result.items)
has_entries c = ap view (sym c.replace.ensures.value) ∙ c.entries_of-entries.ensures

-- as many as were counted
count_is : (c : After-entries_of-entries) → c.count_entries.result ≡ length c.entries_of-entries.result.items
count_is c =
    entries_counted (view c.args.value.now) c.entries_of-entries.result.items c.count_entries.result (has_entries c) c.count_entries.ensures

pub of_entries-requires-clause-count : goal.of_entries-requires-clause-count
of_entries-requires-clause-count c =
    let number : c.in-Ok.base ≡ c.count_entries.result = search rules in
    number ∙ count_is (goal.at.of_entries-requires-clause-count c).After-entries_of-entries

pub of_entries-requires-clause-apart : goal.of_entries-requires-clause-apart
of_entries-requires-clause-apart c =
    subst HoldsNothingTwice (has_entries (goal.at.of_entries-requires-clause-apart c).After-entries_of-entries) c.requires.apart

pub returns-in-Ok-of_entries-clause-parts : goal.returns-in-Ok-of_entries-clause-parts
returns-in-Ok-of_entries-clause-parts c =
    ap (λ (v : Val). option_map cells_of_vals (entries_of v)) (has_entries (goal.at.returns-in-Ok-of_entries-clause-parts c).After-entries_of-entries)
    ∙ ap (λ (cs : List Cell). Some cs) (sym c.in-Ok-of_entries.ensures.there)

pub returns-in-Ok-of_entries-clause-over : goal.returns-in-Ok-of_entries-clause-over
returns-in-Ok-of_entries-clause-over c =
    let number : c.in-Ok.base ≡ c.count_entries.result = search rules in
    ap (λ (n : ℕ). as_entries (EntriesKind.Map n))
    (number ∙ base_counted (view c.args.value.now) c.count_entries.result c.requires.entries c.count_entries.ensures)
