-- What contracts see of a bit set.
use Rattle.std.specs.Prelude.{ℕ, zero, suc, ◌<◌, IsTrue, refl}
use Rattle.std.specs.Coded.{Coded, code_by, coded×, coded_ℕ}
use Rattle.std.specs.FinSet as set
use Rattle.std.specs.Ordering.{nat_cmp}

-- the indices that are set, all of them below the capacity
pub record BitSet : Type 0 where
  pub capacity : ℕ
  pub members : set.FinSet nat_cmp

-- a bit set is stored as the pair of its fields
abbrev pub bit_set_code : Coded BitSet
bit_set_code =
    code_by (ℕ × set.FinSet nat_cmp) (coded× coded_ℕ (set.code coded_ℕ)) (λ b. (b.capacity, b.members)) (λ p. record { capacity = p.0; members = p.1 }) (λ _. refl)

-- the indices below n
unfoldable pub all_below : ℕ → set.FinSet nat_cmp
all_below zero = set.empty
all_below (suc n) = set.insert (all_below n) n

-- each index below n is set
abbrev pub HasAllBelow : ℕ → BitSet → Type 0
HasAllBelow n b = (index : ℕ) → index < n → IsTrue (set.contains b.members index)

-- no index from the capacity on is set
abbrev pub IsWithinCapacity : BitSet → Type 0
IsWithinCapacity b = (index : ℕ) → IsTrue (set.contains b.members index) → index < b.capacity
