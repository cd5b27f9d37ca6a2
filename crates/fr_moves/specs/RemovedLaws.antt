-- What was held is held still or was released: through one change after another, and where a call is refused.
use Rattle.std.proofs.Common.{ℕ, List, ◌∙◌, arith}
use Rattle.fr_moves.specs.Common.{Conserved, RoseBy}

-- all that a refused call held
pub all_released : (held : ℕ → ℕ) (old new : List ℕ) → RoseBy held old new → Conserved held old (λ t. 0) new
all_released held old new rose = record {
  same_length = rose.same_length;
  kept_or_released = λ t. omega (arith, rose.each t);
  none_falls = λ t. omega (arith, rose.each t);
}

-- one change after another
pub kept_through : (held between left : ℕ → ℕ) (old middle new : List ℕ) → Conserved held old between middle
    → Conserved between middle left new → Conserved held old left new
kept_through held between left old middle new first second = record {
  same_length = second.same_length ∙ first.same_length;
  kept_or_released = λ t. omega (arith, first.kept_or_released t, second.kept_or_released t);
  none_falls = λ t. omega (arith, first.none_falls t, second.none_falls t);
}
