use Rattle.std.proofs.Common.{ap, ◌∙◌, subst, arith}
use Rattle.fr_rules.specs.Buckets.{IsBucketed}
use Rattle.fr_rules.specs.Prefixes.{prefix_len_of}
use Rattle.fr_rules.proofs.Bucketed.{bucketed_before}
use Rattle.fr_rules.proofs.Growth.{long_added, long_gained}
use Rattle.fr_rules.proofs.field_lookups.build_long.Goals as goal

pub buckets_of-requires-clause-few : goal.buckets_of-requires-clause-few
buckets_of-requires-clause-few c = omega (arith, c.as_slice-2.ensures.len, c.in_ok-sort_by_prefix.ensures.len)

pub returns-clause-lookup : goal.returns-clause-lookup
returns-clause-lookup c =
    let prefix_len = c.prefix_len_of-prefix_len.result in
    let sorted = c.sort_by_prefix.new.entries.items in
    let described = subst (λ stored. IsBucketed prefix_len stored stored c.in_ok-buckets.buckets.items) c.as_slice-2.ensures.value c.in_ok-buckets.ensures in
    long_added sorted c.in_ok-buckets.buckets.items c.args.pool.now c.add_entries.new.self c.add_buckets.new.self c.in_ok-entries.entries c.in_ok-buckets-2.buckets
    c.in_ok-entries.ensures.added c.in_ok-entries.ensures.range c.in_ok-buckets-2.ensures.others
    c.in_ok-buckets-2.ensures.added c.in_ok-buckets-2.ensures.range
    c.args.entries.items prefix_len c.requires
    (c.prefix_len_of-prefix_len.ensures ∙ ap prefix_len_of c.as_slice.ensures.value)
    c.in_ok-sort_by_prefix.ensures.same c.in_ok-sort_by_prefix.ensures.sorted
    (bucketed_before prefix_len c.args.entries.items sorted _ c.in_ok-sort_by_prefix.ensures.same c.in_ok-sort_by_prefix.ensures.stable described)

pub returns-clause-gained : goal.returns-clause-gained
returns-clause-gained c =
    long_gained c.sort_by_prefix.new.entries.items c.in_ok-buckets.buckets.items c.args.pool.now c.add_entries.new.self c.add_buckets.new.self c.in_ok-entries.entries c.in_ok-buckets-2.buckets
    c.in_ok-entries.ensures.added c.in_ok-entries.ensures.range c.in_ok-buckets-2.ensures.others
    c.in_ok-buckets-2.ensures.added c.in_ok-buckets-2.ensures.range
    c.prefix_len_of-prefix_len.result c.in_ok-entries.ensures.others
