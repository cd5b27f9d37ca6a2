use Rattle.std.proofs.Common.{rules}
use Rattle.std.specs.Cmp.Lexicographic.{nat_list_cmp_total}
use Rattle.std.proofs.lemmas.Fn.{always_returns_same}
use Rattle.std.proofs.lemmas.List.Sorted.{ranks_by}
use Rattle.fr_rules.specs.VariantLookups.{VariantEntry}
use Rattle.fr_rules.proofs.variant_lookups.sort_by_name.Goals as goal

pub returns-clause-sorted : goal.returns-clause-sorted
returns-clause-sorted c =
    c.in_ok-sort_by.ensures.sorted _ (ranks_by nat_list_cmp_total (λ (entry : VariantEntry). entry.0)) (always_returns_same _ _ _ (λ a r f k. search rules))
