-- How the buckets of a long lookup describe its entries.
use Rattle.std.specs.Prelude.{◌≡◌, ℕ, ◌+◌, ◌<◌, ◌≤◌, List, length, map, filter, All, Contains}
use Rattle.std.specs.List.{slice_range}
use Rattle.std.specs.List.Sorted.{IsStrictlyIncreasing}
use Rattle.fr_rules.specs.declared.entries.FieldLookupEntry.{FieldLookupEntry}
use Rattle.fr_rules.specs.declared.buckets.PrefixBucket.{PrefixBucket}
use Rattle.fr_rules.specs.Prefixes.{prefix_in, has_prefix}

-- the stored entries that a bucket names
abbrev pub run_of : (stored : List FieldLookupEntry) → PrefixBucket → List FieldLookupEntry
run_of stored bucket = slice_range stored bucket.start (bucket.start + bucket.len)

abbrev pub prefixes_of : List PrefixBucket → List ℕ
prefixes_of buckets = map (λ (bucket : PrefixBucket). bucket.prefix) buckets

-- the bucket names at least one stored entry, and none past the last
abbrev pub IsInside : (stored : List FieldLookupEntry) → PrefixBucket → Type 0
IsInside stored bucket = (0 < bucket.len) × (bucket.start + bucket.len ≤ length stored)

-- the buckets say where the entries of each prefix are stored
pub record IsBucketed (prefix_len : ℕ) (entries stored : List FieldLookupEntry) (buckets : List PrefixBucket) : Type 0 where
  -- each bucket's prefix is above that of the one before
  pub ascending : IsStrictlyIncreasing (prefixes_of buckets)
  pub inside : All (IsInside stored) buckets
  -- a bucket names exactly the entries with its prefix, in their order
  pub runs : All (λ bucket. run_of stored bucket ≡ filter (has_prefix prefix_len bucket.prefix) entries) buckets
  -- each entry's prefix has a bucket
  pub complete : All (λ entry. Contains (prefixes_of buckets) (prefix_in prefix_len entry)) entries
