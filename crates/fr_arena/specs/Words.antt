-- How a bit set lies in words of 64 bits. No public clause cites this module.
use Rattle.std.specs.Prelude.{ℕ, zero, suc, ◌*◌, ◌/◌, ◌%◌, Bool, cond, eqb, List, [], ◌∷◌, length, slice_index}
use Rattle.std.specs.FinSet as set
use Rattle.std.specs.Int.{bit_at}
use Rattle.std.specs.Ordering.{nat_cmp}
use Rattle.fr_arena.specs.BitSets.{BitSet}
use Rattle.fr_arena.specs.declared.bit_sets.Words.{Words}
use Rattle.fr_arena.specs.declared.bit_sets.Words.TheVariants.{One, Many}

-- the words, the one of the lowest indices first
abbrev pub words_of : Words → List ℕ
words_of (One word) = word ∷ []
words_of (Many words) = words.items

-- whether this bit of a word is 1
abbrev pub is_one : ℕ → ℕ → Bool
is_one word bit = eqb (bit_at word bit) 1

-- whether the words have a 1 at this index
abbrev pub has_index : List ℕ → ℕ → Bool
has_index words index = is_one (slice_index words (index / 64)) (index % 64)

-- the indices below n at which the words have a 1
unfoldable pub members_below : List ℕ → ℕ → set.FinSet nat_cmp
members_below words zero = set.empty
members_below words (suc n) = cond (has_index words n) (set.insert (members_below words n) n) (members_below words n)

-- how many indices the words hold
abbrev pub capacity_of : List ℕ → ℕ
capacity_of words = 64 * length words

-- the indices at which the words have a 1
unfoldable pub members_of : List ℕ → set.FinSet nat_cmp
members_of words = members_below words (capacity_of words)

-- the bit set that the words stand for
abbrev pub bit_set_of : List ℕ → BitSet
bit_set_of words = record { capacity = capacity_of words; members = members_of words }
