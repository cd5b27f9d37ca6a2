use Rattle.std.proofs.Common.{eqb, ap, ◌∙◌, subst}
use Rattle.fr_rules.specs.FieldLookups.{IsLookupOf}
use Rattle.fr_rules.proofs.Growth.{stored_all}
use Rattle.fr_rules.proofs.field_lookups.FieldLookup.is_empty.Goals as goal

pub returns-in-PrefixBuckets-clause-empty : goal.returns-in-PrefixBuckets-clause-empty
returns-in-PrefixBuckets-clause-empty c pool entries stands =
    let long = subst (λ lookup. IsLookupOf pool lookup entries) c.in-PrefixBuckets.is stands in
    c.is_empty-in-PrefixBuckets.ensures.empty ∙ ap (λ n. eqb n 0) (stored_all _ _ _ _ _ long)
