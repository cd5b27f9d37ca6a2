-- Releasing what is in slots, one slot after the other.
use Rattle.std.proofs.Common.{◌≡◌, ◌⊎◌, ℕ, suc, ◌+◌, ◌<◌, ◌≤◌, List, [], ◌∷◌, length, None, inl, inr, refl, arith}
use Rattle.std.proofs.lemmas.Bool.{cases_lt}
use Rattle.std.specs.Prelude.{slice_index}
use Rattle.fr_frame.specs.Common.{Room, RoseBy, Slot, heap_of, slot_occurs, slots_occur}
use Rattle.fr_frame.proofs.HeapLaws.{free_holds}

-- of so many slots no place is in the first n, nor in any behind the last
abbrev pub AreFree : List Slot → (count n : ℕ) → Type 0
AreFree slots count n = (k : ℕ) → (k < n) ⊎ (count ≤ k) → heap_of slots k ≡ None

none_left : (slots : List Slot) (t : ℕ) → ((k : ℕ) → heap_of slots k ≡ None) → slots_occur slots t ≡ 0
none_left [] t free = refl
none_left (slot ∷ slots) t free =
    let here : slot_occurs slot t ≡ 0 = free_holds slot t (free 0) in
    let rest : slots_occur slots t ≡ 0 = none_left slots t (λ k. free (suc k)) in
    omega arith

-- what was in the first n slots is released
pub record Releasing (all now : List Slot) (before ledger : List ℕ) (n : ℕ) : Type 0 where
  pub same_length : length ledger ≡ length before
  pub released : (t : ℕ) → slice_index ledger t + slots_occur now t ≡ slice_index before t + slots_occur all t
  pub room : Room (slots_occur now) ledger
  pub free : AreFree now (length all) n

pub releasing_ends : (all now : List Slot) (before ledger : List ℕ) (n : ℕ) → Releasing all now before ledger n → length all ≤ n
    → RoseBy (slots_occur all) before ledger
releasing_ends all now before ledger n so_far h = record {
  same_length = so_far.same_length;
  each = λ t.
      let none : slots_occur now t ≡ 0 = none_left now t (λ k. so_far.free k (side k (cases_lt k n))) in
      omega (arith, so_far.released t);
}
  where
    side : (k : ℕ) → (k < n) ⊎ (n ≤ k) → (k < n) ⊎ (length all ≤ k)
    side k (inl l) = inl l
    side k (inr l) = inr (omega arith)
