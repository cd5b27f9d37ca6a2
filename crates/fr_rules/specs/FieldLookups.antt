-- What it is for a lookup to stand for a list of entries.
use Rattle.std.specs.Prelude.{◌≡◌, ℕ, ◌+◌, ◌<◌, ◌≤◌, ◌⊎◌, List, [], ◌++◌, length, IsPermutation}
use Rattle.std.specs.List.Sorted.{IsNonDecreasingBy}
use Rattle.fr_arena.specs.Ranges.{Range}
use Rattle.fr_rules.specs.declared.entries.TheConstants.{LOOKUP_THRESHOLD}
use Rattle.fr_rules.specs.declared.entries.FieldLookupEntry.{FieldLookupEntry}
use Rattle.fr_rules.specs.declared.field_lookups.FieldLookup.{FieldLookup}
use Rattle.fr_rules.specs.Pools.{Pool, HasGrown, part_of}
use Rattle.fr_rules.specs.Prefixes.{prefix_in, prefix_len_of}
use Rattle.fr_rules.specs.Buckets.{IsBucketed}

-- more entries than the threshold are stored in the pool, sorted by their prefixes, with a bucket for each prefix
pub record IsLongLookupOf (pool : Pool) (prefix_len : ℕ) (stored buckets : Range) (entries : List FieldLookupEntry) : Type 0 where
  pub many : LOOKUP_THRESHOLD < length entries
  pub by_rule : prefix_len ≡ prefix_len_of entries
  pub entries_inside : stored.start + stored.len ≤ length pool.entries
  pub buckets_inside : buckets.start + buckets.len ≤ length pool.buckets
  pub same_entries : IsPermutation entries (part_of pool.entries stored)
  pub sorted : IsNonDecreasingBy (prefix_in prefix_len) (part_of pool.entries stored)
  pub bucketed : IsBucketed prefix_len entries (part_of pool.entries stored) (part_of pool.buckets buckets)

-- in this pool the lookup stands for these entries: up to the threshold it holds them itself, in their order
abbrev pub IsLookupOf : Pool → FieldLookup → List FieldLookupEntry → Type 0
IsLookupOf pool (FieldLookup.Small own) entries = (own.items ≡ entries) × (length entries ≤ LOOKUP_THRESHOLD)
IsLookupOf pool (FieldLookup.PrefixBuckets prefix_len stored buckets) entries =
    IsLongLookupOf pool prefix_len stored buckets entries

-- the lookup is one of this pool: there are entries that it stands for
abbrev pub IsOfPool : Pool → FieldLookup → Type 0
IsOfPool pool lookup = (entries : List FieldLookupEntry) × IsLookupOf pool lookup entries

-- the lookup holds its entries itself
abbrev pub IsSmall : FieldLookup → Type 0
IsSmall (FieldLookup.Small own) = Unit {0}
IsSmall (FieldLookup.PrefixBuckets prefix_len stored buckets) = ⊥

-- the entries that the lookup holds itself
abbrev pub own_entries : FieldLookup → List FieldLookupEntry
own_entries (FieldLookup.Small own) = own.items
own_entries (FieldLookup.PrefixBuckets prefix_len stored buckets) = []

-- how many entries the lookup names: those that it holds itself, or those of its part of a pool
abbrev pub entry_count : FieldLookup → ℕ
entry_count (FieldLookup.Small own) = length own.items
entry_count (FieldLookup.PrefixBuckets prefix_len stored buckets) = stored.len

-- the pool gained what the lookup names in it, and nothing else
abbrev pub GainsOnly : (before after : Pool) → FieldLookup → Type 0
GainsOnly before after (FieldLookup.Small own) = after ≡ before
GainsOnly before after (FieldLookup.PrefixBuckets prefix_len stored buckets) =
    (after.entries ≡ before.entries ++ part_of after.entries stored)
    × (after.buckets ≡ before.buckets ++ part_of after.buckets buckets)

-- no buckets were put into the pool, and no entries or these, in some order
abbrev pub IsLeft : (before after : Pool) → List FieldLookupEntry → Type 0
IsLeft before after entries =
    (after.buckets ≡ before.buckets)
    × ((after.entries ≡ before.entries)
    ⊎ ((left : List FieldLookupEntry) × IsPermutation entries left × (after.entries ≡ before.entries ++ left)))

-- a lookup stands for the same entries after its pool grew
abbrev pub LookupsStay : Type 0
LookupsStay =
    (before after : Pool) (lookup : FieldLookup) (entries : List FieldLookupEntry) → HasGrown before after
    → IsLookupOf before lookup entries → IsLookupOf after lookup entries
