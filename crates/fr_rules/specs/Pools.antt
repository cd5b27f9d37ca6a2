-- What contracts see of the pool that holds the entries and buckets of all long lookups.
use Rattle.std.specs.Prelude.{◌≡◌, ◌+◌, List, ◌++◌, refl, slice_range}
use Rattle.std.specs.Coded.{Coded, code_by, coded×, coded_list}
use Rattle.fr_arena.specs.Ranges.{Range}
use Rattle.fr_rules.specs.declared.entries.FieldLookupEntry.{FieldLookupEntry}
use Rattle.fr_rules.specs.declared.buckets.PrefixBucket.{PrefixBucket}

pub record Pool : Type 0 where
  pub entries : List FieldLookupEntry
  pub buckets : List PrefixBucket

-- a pool is stored as the pair of its lists
abbrev pub pool_code : Coded FieldLookupEntry → Coded PrefixBucket → Coded Pool
pool_code entry bucket =
    code_by (List FieldLookupEntry × List PrefixBucket) (coded× (coded_list entry) (coded_list bucket))
    (λ pool. (pool.entries, pool.buckets)) (λ lists. record { entries = lists.0; buckets = lists.1 }) (λ _. refl)

-- the second list is the first with more behind it
abbrev pub Continues : {X : Type 0} → List X → List X → Type 0
Continues {X} before after = (more : List X) × (after ≡ before ++ more)

-- what the pool held it still holds, at the same places
pub record HasGrown (before after : Pool) : Type 0 where
  pub entries : Continues before.entries after.entries
  pub buckets : Continues before.buckets after.buckets

-- the values of a range
abbrev pub part_of : {X : Type 0} → List X → Range → List X
part_of values range = slice_range values range.start (range.start + range.len)
