-- The last of a list of slots.
use Rattle.std.proofs.Common.{◌≡◌, ℕ, zero, suc, ◌-◌, List, [], ◌∷◌, ◌++◌, length, set, refl, ◌∙◌, ap, arith}
use Rattle.fr_store.specs.Common.{SlotId, numbers}

pub put_last : (slots : List SlotId) (k : ℕ) (new : SlotId) (above : List ℕ) (n : ℕ) → k ≡ length slots - 1
    → numbers slots ≡ above ++ n ∷ [] → numbers (set slots k new) ≡ above ++ new.0 ∷ []
put_last [] k new [] n is e = absurd (cc)
put_last [] k new (x ∷ above) n is e = absurd (cc)
put_last (s ∷ []) zero new [] n is e = refl
put_last (s ∷ []) zero new (x ∷ []) n is e = absurd (cc)
put_last (s ∷ []) zero new (x ∷ y ∷ above) n is e = absurd (cc)
put_last (s ∷ []) (suc k) new above n is e = absurd (omega arith)
put_last (s ∷ t ∷ slots) zero new above n is e = absurd (omega arith)
put_last (s ∷ t ∷ slots) (suc k) new [] n is e = absurd (cc)
put_last (s ∷ t ∷ slots) (suc k) new (x ∷ above) n is e =
    let head : s.0 ≡ x = cc in
    let tail : numbers (t ∷ slots) ≡ above ++ n ∷ [] = cc in
    ap (λ (m : ℕ). m ∷ numbers (set (t ∷ slots) k new)) head
    ∙ ap (λ (l : List ℕ). x ∷ l) (put_last (t ∷ slots) k new above n (omega arith) tail)
