use Rattle.std.proofs.Common.{sym, ap, ◌∙◌, subst}
use Rattle.fr_rules.specs.VariantLookups.{variant_entries, first_numbered, IsSortedByName, HoldsVariants}
use Rattle.fr_rules.proofs.Variants.{numbered, numbered_apart}
use Rattle.fr_rules.proofs.variant_lookups.VariantLookup.find.Goals as goal

pub returns-in-Small-clause-named : goal.returns-in-Small-clause-named
returns-in-Small-clause-named c variants stands =
    let holds = subst (λ lookup. HoldsVariants lookup (variant_entries variants)) c.in-Small.is stands.holds in
    c.first_numbered.ensures ∙ ap (first_numbered c.args.name.now) (c.as_slice.ensures ∙ holds.0) ∙ numbered c.args.name.now variants

pub returns-in-Sorted-clause-named : goal.returns-in-Sorted-clause-named
returns-in-Sorted-clause-named c variants stands =
    let holds = subst (λ lookup. HoldsVariants lookup (variant_entries variants)) c.in-Sorted.is stands.holds in
    let entries = c.in-Sorted.entries in
    let read = c.as_slice-in-Sorted.ensures.items in
    c.first_sorted.ensures (subst IsSortedByName (sym read) holds.2) ∙ ap (first_numbered c.args.name.now) read
    ∙ numbered_apart c.args.name.now variants entries stands.distinct holds.1
