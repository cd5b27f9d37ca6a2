-- Shapes that were passed over, as none of them passes a test.
use Rattle.std.proofs.Common.{◌≡◌, ℕ, ◌+◌, ◌-◌, ◌≤◌, Bool, false, not, ◌||◌, List, [], ◌∷◌, length, take, drop, get_or, arith}
use Rattle.std.specs.List.{prefix_len}
use Rattle.std.proofs.lemmas.Grind.{common_steps}
use Rattle.fr_shape.specs.declared.shape.Shape.{Shape}

-- the rest of the shapes, after so many of which none passes
pub record IsPassed (p : Shape → Bool) (shapes : List Shape) (passed : ℕ) (rest : List Shape) : Type 0 where
  pub as_many : length shapes ≡ passed + length rest
  pub none : prefix_len (λ shape. not (p shape)) shapes ≡ passed + prefix_len (λ shape. not (p shape)) rest

four_in : (rest : List Shape) (a b c d : Shape) → 4 ≤ length rest
    → a ≡ get_or rest 0 a → b ≡ get_or rest 1 b → c ≡ get_or rest 2 c → d ≡ get_or rest 3 d
    → rest ≡ a ∷ b ∷ c ∷ d ∷ take (length rest - 4) (drop 4 rest)
four_in [] a b c d long ea eb ec ed = grind arith
four_in (x ∷ []) a b c d long ea eb ec ed = grind arith
four_in (x ∷ y ∷ []) a b c d long ea eb ec ed = grind arith
four_in (x ∷ y ∷ z ∷ []) a b c d long ea eb ec ed = grind arith
four_in (x ∷ y ∷ z ∷ w ∷ rest) a b c d long ea eb ec ed = grind (arith, common_steps, ea, eb, ec, ed)

four_more : (p : Shape → Bool) (shapes : List Shape) (passed : ℕ) (a b c d : Shape) (rest : List Shape)
    → IsPassed p shapes passed (a ∷ b ∷ c ∷ d ∷ rest) → false ≡ (p a || p b || p c || p d)
    → IsPassed p shapes (passed + 4) rest
four_more p shapes passed a b c d rest h none = record {
  as_many = omega (arith, h.as_many);
  none = grind (arith, h.none, none);
}

-- four more are passed over, as none of them passes
pub four_passed : (p : Shape → Bool) (shapes : List Shape) (passed : ℕ) (rest : List Shape) (a b c d : Shape)
    → IsPassed p shapes passed rest → 4 ≤ length rest
    → a ≡ get_or rest 0 a → b ≡ get_or rest 1 b → c ≡ get_or rest 2 c → d ≡ get_or rest 3 d
    → false ≡ (p a || p b || p c || p d)
    → IsPassed p shapes (passed + 4) (take (length rest - 4) (drop 4 rest))
four_passed p shapes passed rest a b c d h long ea eb ec ed none =
    let e = four_in rest a b c d long ea eb ec ed in
    four_more p shapes passed a b c d (take (length rest - 4) (drop 4 rest)) (rw e at h) none
