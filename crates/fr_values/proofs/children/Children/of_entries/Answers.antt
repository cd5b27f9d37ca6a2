use Rattle.std.proofs.Common.{◌∙◌, List, length, map, ap, subst, sym, arith, ℕ}
use Rattle.fr_values.specs.Cells.{HasNumbers}
use Rattle.fr_values.specs.Common.{AreApart, Base, Value, given, view}
use Rattle.fr_values.proofs.EntriesInTurn.{turns_apart, turns_count, turns_given}
use Rattle.fr_values.proofs.children.Children.of_entries.Goals as goal

pub of_parts-requires-clause-numbers : goal.of_parts-requires-clause-numbers
of_parts-requires-clause-numbers c =
    subst (λ (n : ℕ). HasNumbers n c.in-Ok.numbers)
    (omega (arith, c.requires.count, turns_count c.args.entries.items, ap (λ (vs : List Value). length vs) c.in-Ok-of_entries.ensures.parts))
    c.in-Ok.ensures

pub of_parts-requires-clause-base : goal.of_parts-requires-clause-base
of_parts-requires-clause-base c =
    subst (λ (vs : List Value). AreApart (Base.Entries c.args.count) vs) (sym c.in-Ok-of_entries.ensures.parts)
    (turns_apart c.args.entries.items c.args.count c.requires.count c.requires.apart)

pub returns-in-Ok-of_entries-clause-there : goal.returns-in-Ok-of_entries-clause-there
returns-in-Ok-of_entries-clause-there c =
    c.of_parts.ensures.there ∙ ap (λ (vs : List Value). map (λ (v : Value). given (view v)) vs) c.in-Ok-of_entries.ensures.parts
    ∙ turns_given c.args.entries.items
