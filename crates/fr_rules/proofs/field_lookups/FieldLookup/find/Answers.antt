use Rattle.std.proofs.Common.{filter, sym, ap, ◌∙◌, subst}
use Rattle.fr_rules.specs.Buckets.{IsBucketed}
use Rattle.fr_rules.specs.Entries.{first_named}
use Rattle.fr_rules.specs.FieldLookups.{IsLookupOf}
use Rattle.fr_rules.specs.Pools.{part_of}
use Rattle.fr_rules.specs.Prefixes.{has_prefix}
use Rattle.fr_rules.proofs.Finding.{first_in_run}
use Rattle.fr_rules.proofs.field_lookups.FieldLookup.find.Goals as goal

pub returns-in-PrefixBuckets : goal.returns-in-PrefixBuckets
returns-in-PrefixBuckets c = record {
  first_named =
      λ entries stands.
      let long = subst (λ lookup. IsLookupOf c.args.pool.now lookup entries) c.in-PrefixBuckets.is stands in
      let in_parts = subst (λ stored. IsBucketed c.in-PrefixBuckets.prefix_len entries stored (part_of c.args.pool.now.buckets c.in-PrefixBuckets.buckets)) (sym c.entries-stored.ensures) long.bucketed in
      let described = subst (IsBucketed c.in-PrefixBuckets.prefix_len entries c.entries-stored.result.now) (sym c.buckets-buckets.ensures) in_parts in
      c.first_named.ensures
      ∙ ap (first_named c.args.name.now) (c.run_with.ensures c.in-PrefixBuckets.prefix_len entries described)
      ∙ ap (λ prefix. first_named c.args.name.now (filter (has_prefix c.in-PrefixBuckets.prefix_len prefix) entries)) c.prefix_of-prefix.ensures
      ∙ first_in_run c.in-PrefixBuckets.prefix_len c.args.name.now entries;
}
