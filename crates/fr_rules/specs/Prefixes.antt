-- The first bytes of a name as one number.
use Rattle.std.specs.Prelude.{ℕ, ◌/◌, ◌==◌, if◌then◌else◌, Bool, List, length, take, count_by, nat_le, nat_lt}
use Rattle.std.specs.Int.{w64, from_le_bytes}
use Rattle.fr_rules.specs.declared.entries.FieldLookupEntry.{FieldLookupEntry}

-- the first `prefix_len` bytes of a name as a number of 64 bits, the lowest byte first; a byte that the name lacks
-- counts as zero
unfoldable pub prefix_of : (prefix_len : ℕ) → List ℕ → ℕ
prefix_of prefix_len name = from_le_bytes w64 (take prefix_len name)

-- the entry's name is long enough to fill a prefix of 8 bytes
abbrev pub is_long : FieldLookupEntry → Bool
is_long entry = nat_le 8 (length entry.name)

-- prefixes have 8 bytes where more than half of the names are long, and else 4
abbrev pub prefix_len_of : List FieldLookupEntry → ℕ
prefix_len_of entries = if nat_lt (length entries / 2) (count_by is_long entries) then 8 else 4

-- the prefix of an entry's name
abbrev pub prefix_in : (prefix_len : ℕ) → FieldLookupEntry → ℕ
prefix_in prefix_len entry = prefix_of prefix_len entry.name

-- the entry's name has this prefix
abbrev pub has_prefix : (prefix_len prefix : ℕ) → FieldLookupEntry → Bool
has_prefix prefix_len prefix entry = prefix_in prefix_len entry == prefix
