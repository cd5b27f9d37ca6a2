-- A long lookup and the pool that holds its entries.
use Rattle.std.proofs.Common.{◌≡◌, ℕ, ◌+◌, ◌-◌, ◌<◌, ◌≤◌, List, [], ◌++◌, length, drop, refl, sym, ap, ◌∙◌, subst, arith}
use Rattle.std.specs.List.Sorted.{IsPermutation, IsNonDecreasingBy}
use Rattle.std.proofs.lemmas.List.{append-nil, append_assoc, length-append, length-take, length-drop}
use Rattle.std.proofs.lemmas.List.Sorted.{length_permutation}
use Rattle.fr_arena.specs.Ranges.{Range, indices_from}
use Rattle.fr_rules.specs.declared.entries.TheConstants.{LOOKUP_THRESHOLD}
use Rattle.fr_rules.specs.declared.entries.FieldLookupEntry.{FieldLookupEntry}
use Rattle.fr_rules.specs.declared.field_lookups.FieldLookup.{FieldLookup}
use Rattle.fr_rules.specs.declared.buckets.PrefixBucket.{PrefixBucket}
use Rattle.fr_rules.specs.Buckets.{IsBucketed}
use Rattle.fr_rules.specs.Pools.{Pool, Continues, HasGrown, part_of}
use Rattle.fr_rules.specs.Prefixes.{prefix_in, prefix_len_of}
use Rattle.fr_rules.specs.FieldLookups.{IsLongLookupOf, GainsOnly, LookupsStay}
use Rattle.fr_rules.proofs.Parts.{part_of_front, part_behind}

-- as many entries are stored as there are
pub stored_all : (pool : Pool) (prefix_len : ℕ) (stored buckets : Range) (entries : List FieldLookupEntry)
    → IsLongLookupOf pool prefix_len stored buckets entries → stored.len ≡ length entries
stored_all pool prefix_len stored buckets entries long =
    omega (
      arith,
      length_permutation entries (part_of pool.entries stored) long.same_entries,
      long.entries_inside,
      length-take (stored.start + stored.len - stored.start) (drop stored.start pool.entries),
      length-drop stored.start pool.entries,
    )

module _ {X : Type 0} (before more after : List X) (range : Range) (grew : after ≡ before ++ more) (behind : range ≡ indices_from (length before) (length more)) where
  -- the part of what was put behind a list
  part_added : more ≡ part_of after range
  part_added =
      sym (ap (λ l. part_of l range) grew ∙ ap (part_of (before ++ more)) behind
      ∙ part_behind before more (length before) (length more) refl refl)

  added_inside : range.start + range.len ≤ length after
  added_inside =
      let start : range.start ≡ length before = ap (λ (r : Range). r.start) behind in
      let len : range.len ≡ length more = ap (λ (r : Range). r.len) behind in
      omega (arith, ap length grew, length-append before more)

-- entries were put into the pool, and then buckets
module _ (sorted : List FieldLookupEntry) (buckets : List PrefixBucket) (before with_entries after : Pool) (stored_range buckets_range : Range)
    (entries_grew : with_entries.entries ≡ before.entries ++ sorted) (stored_behind : stored_range ≡ indices_from (length before.entries) (length sorted))
    (kept : after.entries ≡ with_entries.entries)
    (buckets_grew : after.buckets ≡ with_entries.buckets ++ buckets) (buckets_behind : buckets_range ≡ indices_from (length with_entries.buckets) (length buckets)) where
  stored : sorted ≡ part_of after.entries stored_range
  stored = part_added before.entries sorted after.entries stored_range (kept ∙ entries_grew) stored_behind

  bucketed : buckets ≡ part_of after.buckets buckets_range
  bucketed = part_added with_entries.buckets buckets after.buckets buckets_range buckets_grew buckets_behind

  -- the lookup that names them
  pub long_added : (entries : List FieldLookupEntry) (prefix_len : ℕ)
      → LOOKUP_THRESHOLD < length entries → prefix_len ≡ prefix_len_of entries → IsPermutation entries sorted
      → IsNonDecreasingBy (prefix_in prefix_len) sorted → IsBucketed prefix_len entries sorted buckets
      → IsLongLookupOf after prefix_len stored_range buckets_range entries
  long_added entries prefix_len many by_rule same up described = record {
    many = many;
    by_rule = by_rule;
    entries_inside = added_inside before.entries sorted after.entries stored_range (kept ∙ entries_grew) stored_behind;
    buckets_inside = added_inside with_entries.buckets buckets after.buckets buckets_range buckets_grew buckets_behind;
    same_entries = subst (IsPermutation entries) stored same;
    sorted = subst (IsNonDecreasingBy (prefix_in prefix_len)) stored up;
    bucketed = subst (IsBucketed prefix_len entries (part_of after.entries stored_range)) bucketed (subst (λ l. IsBucketed prefix_len entries l buckets) stored described);
  }

  -- they are all that the pool gained
  pub long_gained : (prefix_len : ℕ) → with_entries.buckets ≡ before.buckets → GainsOnly before after (FieldLookup.PrefixBuckets prefix_len stored_range buckets_range)
  long_gained prefix_len same_buckets = (
    kept ∙ entries_grew ∙ ap (λ l. before.entries ++ l) stored,
    buckets_grew ∙ ap (λ l. l ++ buckets) same_buckets ∙ ap (λ l. before.buckets ++ l) bucketed,
  )

part_stays : {X : Type 0} (before after : List X) (range : Range) → Continues before after → range.start + range.len ≤ length before
    → part_of before range ≡ part_of after range
part_stays before after range grew within =
    sym (ap (λ l. part_of l range) grew.1 ∙ part_of_front before grew.0 range.start range.len within)

continues_inside : {X : Type 0} (before after : List X) (n : ℕ) → Continues before after → n ≤ length before → n ≤ length after
continues_inside before after n grew within = omega (arith, ap length grew.1, length-append before grew.0)

-- a lookup stands for the same entries after its pool grew
pub lookup_stays : LookupsStay
lookup_stays before after (FieldLookup.Small own) entries grew stands = stands
lookup_stays before after (FieldLookup.PrefixBuckets prefix_len stored buckets) entries grew long =
    let same_stored = part_stays before.entries after.entries stored grew.entries long.entries_inside in
    let same_buckets = part_stays before.buckets after.buckets buckets grew.buckets long.buckets_inside in
    record {
      many = long.many;
      by_rule = long.by_rule;
      entries_inside = continues_inside before.entries after.entries _ grew.entries long.entries_inside;
      buckets_inside = continues_inside before.buckets after.buckets _ grew.buckets long.buckets_inside;
      same_entries = subst (IsPermutation entries) same_stored long.same_entries;
      sorted = subst (IsNonDecreasingBy (prefix_in prefix_len)) same_stored long.sorted;
      bucketed =
          subst (IsBucketed prefix_len entries (part_of after.entries stored)) same_buckets
          (subst (λ l. IsBucketed prefix_len entries l (part_of before.buckets buckets)) same_stored long.bucketed);
    }
