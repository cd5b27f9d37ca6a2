use Rattle.std.proofs.Common.{rules}
use Rattle.std.proofs.lemmas.Fn.{always_returns_same}
use Rattle.std.proofs.lemmas.List.Sorted.{IsNonDecreasingBy-from_sort_by_key}
use Rattle.fr_rules.specs.Prefixes.{prefix_in}
use Rattle.fr_rules.proofs.Sorting.{same_runs}
use Rattle.fr_rules.proofs.buckets.sort_by_prefix.Goals as goal

pub returns-clause-sorted : goal.returns-clause-sorted
returns-clause-sorted c =
    IsNonDecreasingBy-from_sort_by_key (prefix_in c.args.prefix_len) _ c.in_ok-sort_by_cached_key.ensures.sorted (λ a r f k. search rules)

pub returns-clause-stable : goal.returns-clause-stable
returns-clause-stable c =
    same_runs (prefix_in c.args.prefix_len) _ _ c.sort_by_cached_key.ensures.permutation
    (c.sort_by_cached_key.ensures.stable (prefix_in c.args.prefix_len) (always_returns_same _ _ _ (λ a r f k. search rules)))
