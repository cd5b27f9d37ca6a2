-- The entries so far, and then those of the variants to come, are the entries of all variants.
use Rattle.std.proofs.Common.{◌≡◌, ◌++◌, drop}
use Rattle.fr_rules.specs.VariantLookups.{variant_entries, variant_entries_from}
use Rattle.fr_rules.proofs.variant_lookups.variant_entries.Given as goal

abbrev pub invariant-loop-i : goal.invariant-loop-i
invariant-loop-i l = l.entries.items ++ variant_entries_from l.i (drop l.i l.variants) ≡ variant_entries l.variants
