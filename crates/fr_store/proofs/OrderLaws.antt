-- Where the children of a map come among each other.
use Rattle.std.proofs.Common.{◌≡◌, ℕ, ◌+◌, ◌/◌, ◌%◌, Bool, true, false, refl, ap, arith, if◌then◌else◌}
use Rattle.fr_store.specs.Common.{EntriesKind, as_entries, entry_of, is_key, order_as}
use Rattle.fr_store.proofs.StepOrder.{halves, odd}

pub key_order : (i : ℕ) → i % 2 ≡ 0 → i / 2 ≡ order_as (as_entries (EntriesKind.Map 0)) i
key_order i even = go (is_key i) refl
  where
    go : (of_key : Bool) → is_key i ≡ of_key → i / 2 ≡ (if of_key then entry_of i else entry_of i + 2147483648)
    go true e = omega (arith, even, halves i, ap odd e)
    go false e = absurd (omega (arith, even, halves i, ap odd e))

pub value_order : (i : ℕ) → (i % 2 ≡ 0 → ⊥) → i / 2 + 2147483648 ≡ order_as (as_entries (EntriesKind.Map 0)) i
value_order i odd_now = go (is_key i) refl
  where
    go : (of_key : Bool) → is_key i ≡ of_key → i / 2 + 2147483648 ≡ (if of_key then entry_of i else entry_of i + 2147483648)
    go true e = absurd (odd_now (omega (arith, halves i, ap odd e)))
    go false e = omega (arith, halves i, ap odd e)
