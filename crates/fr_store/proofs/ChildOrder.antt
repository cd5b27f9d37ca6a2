-- The children of one place, from the last in the order of their steps to the first.
use Rattle.std.proofs.Common.{◌≡◌, ◌⊎◌, ℕ, zero, suc, ◌-◌, ◌*◌, ◌<◌, ◌≤◌, Bool, true, false, ltb, inl, inr, refl, sym, ◌∙◌, ap, subst, arith, if◌then◌else◌}
use Rattle.fr_store.specs.Common.{EntriesKind, Tracker, as_entries, entry_of, from_last, is_key, is_map_tracker}
use Rattle.std.proofs.lemmas.Bool.{lt-ltb, le-ltb, ltb-true, ltb-false}
use Rattle.fr_store.specs.PlaceOrder.{IsAfter, IsLater}

-- Keys and values.

pub key_at : (m j : ℕ) → m ≡ 2 * j → (is_key m ≡ true) × (entry_of m ≡ j)
key_at zero j e = (refl, omega arith)
key_at (suc (suc m)) (suc j) e = let rest = key_at m j (omega arith) in (rest.0, ap suc rest.1)
key_at _ _ e = absurd (omega arith)

pub value_at : (m j : ℕ) → m ≡ suc (2 * j) → (is_key m ≡ false) × (entry_of m ≡ j)
value_at (suc zero) j e = (refl, omega arith)
value_at (suc (suc m)) (suc j) e = let rest = value_at m j (omega arith) in (rest.0, ap suc rest.1)
value_at _ _ e = absurd (omega arith)

-- an entry has two
pub halves : (n : ℕ) → (2 * entry_of n ≤ n) × (n ≤ suc (2 * entry_of n))
halves (suc (suc n)) = let rest = halves n in (omega (arith, rest.0), omega (arith, rest.1))
halves _ = (omega arith, omega arith)

key_or_value : (c : ℕ) → ((j : ℕ) × (c ≡ 2 * j)) ⊎ ((j : ℕ) × (c ≡ suc (2 * j)))
key_or_value zero = inl (0, omega arith)
key_or_value (suc zero) = inr (0, omega arith)
key_or_value (suc (suc c)) = go (key_or_value c)
  where
    go : ((j : ℕ) × (c ≡ 2 * j)) ⊎ ((j : ℕ) × (c ≡ suc (2 * j)))
        → ((j : ℕ) × (suc (suc c) ≡ 2 * j)) ⊎ ((j : ℕ) × (suc (suc c) ≡ suc (2 * j)))
    go (inl key) = inl (suc key.0, omega (arith, key.1))
    go (inr value) = inr (suc value.0, omega (arith, value.1))

-- Which child comes as the i-th.

value_first : (count i : ℕ) → i < entry_of count → from_last true count i ≡ suc (2 * (entry_of count - suc i))
value_first count i h =
    ap (λ (b : Bool). if b then suc (2 * (entry_of count - suc i)) else 2 * (count - suc i)) (lt-ltb i (entry_of count) h)

key_last : (count i : ℕ) → entry_of count ≤ i → from_last true count i ≡ 2 * (count - suc i)
key_last count i h =
    ap (λ (b : Bool). if b then suc (2 * (entry_of count - suc i)) else 2 * (count - suc i)) (le-ltb i (entry_of count) h)

-- it is one of them
pub from_last_within : (of_map : Bool) (count i : ℕ) → i < count → from_last of_map count i < count
from_last_within false count i h = omega arith
from_last_within true count i h = go (ltb i (entry_of count)) refl
  where
    two : (2 * entry_of count ≤ count) × (count ≤ suc (2 * entry_of count))
    two = halves count

    go : (b : Bool) → ltb i (entry_of count) ≡ b → from_last true count i < count
    go true e =
        let less = ltb-true i (entry_of count) e in
        omega (arith, value_first count i less, two.0, less)
    go false e =
        let more = ltb-false i (entry_of count) e in
        omega (arith, key_last count i more, two.0, two.1, more, h)

-- and each comes
pub from_last_onto : (of_map : Bool) (count c : ℕ) → c < count → (i : ℕ) × (i < count) × (from_last of_map count i ≡ c)
from_last_onto false count c h = (count - suc c, omega arith, omega arith)
from_last_onto true count c h = go (key_or_value c)
  where
    two : (2 * entry_of count ≤ count) × (count ≤ suc (2 * entry_of count))
    two = halves count

    go : ((j : ℕ) × (c ≡ 2 * j)) ⊎ ((j : ℕ) × (c ≡ suc (2 * j))) → (i : ℕ) × (i < count) × (from_last true count i ≡ c)
    go (inl key) =
        let late : entry_of count ≤ count - suc key.0 = omega (arith, key.1, two.0, two.1, h) in (
          count - suc key.0,
          omega arith,
          key_last count (count - suc key.0) late ∙ omega (arith, key.1, h),
        )
    go (inr value) =
        let inside : value.0 < entry_of count = omega (arith, value.1, two.0, two.1, h) in (
          entry_of count - suc value.0,
          omega (arith, two.0, inside),
          value_first count (entry_of count - suc value.0) (omega (arith, inside)) ∙ omega (arith, value.1, inside),
        )

-- Their order.

later_by : (a b : ℕ) (one other : Bool) → is_key a ≡ one → is_key b ≡ other → IsLater one other a b → IsLater (is_key a) (is_key b) a b
later_by a b one other p q so =
    subst (λ (x : Bool). IsLater x (is_key b) a b) (sym p) (subst (λ (x : Bool). IsLater one x a b) (sym q) so)

-- of a map the values come first, and then the keys
map_after : (count j i : ℕ) → j < i → i < count
    → IsLater (is_key (from_last true count j)) (is_key (from_last true count i)) (from_last true count j) (from_last true count i)
map_after count j i later within = go (ltb j (entry_of count)) (ltb i (entry_of count)) refl refl
  where
    go : (x y : Bool) → ltb j (entry_of count) ≡ x → ltb i (entry_of count) ≡ y
        → IsLater (is_key (from_last true count j)) (is_key (from_last true count i)) (from_last true count j) (from_last true count i)
    go true true e f =
        let first = value_first count j (ltb-true j (entry_of count) e) in
        let less = ltb-true i (entry_of count) f in
        let second = value_first count i less in
        later_by (from_last true count j) (from_last true count i) false false
        (value_at (from_last true count j) (entry_of count - suc j) first).0
        (value_at (from_last true count i) (entry_of count - suc i) second).0 (omega (arith, first, second, later, less))
    go true false e f =
        later_by (from_last true count j) (from_last true count i) false true
        (value_at (from_last true count j) (entry_of count - suc j) (value_first count j (ltb-true j (entry_of count) e))).0
        (key_at (from_last true count i) (count - suc i) (key_last count i (ltb-false i (entry_of count) f))).0 tt
    go false true e f = absurd (omega (arith, ltb-false j (entry_of count) e, ltb-true i (entry_of count) f, later))
    go false false e f =
        let first = key_last count j (ltb-false j (entry_of count) e) in
        let second = key_last count i (ltb-false i (entry_of count) f) in
        later_by (from_last true count j) (from_last true count i) true true
        (key_at (from_last true count j) (count - suc j) first).0 (key_at (from_last true count i) (count - suc i) second).0
        (omega (arith, first, second, later, within))

-- what comes as the j-th is after what comes later
pub listed_after : (tracker : Tracker) (count j i : ℕ) → j < i → i < count
    → IsAfter tracker (from_last (is_map_tracker tracker) count j) (from_last (is_map_tracker tracker) count i)
listed_after (as_entries (EntriesKind.Map base)) count j i later within = map_after count j i later within
listed_after _ count j i later within = omega arith
