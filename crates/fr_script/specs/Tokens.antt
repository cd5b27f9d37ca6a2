-- The tokens of a script at the end of its run.
use Rattle.std.specs.Prelude.{◌≡◌, ℕ, ◌+◌, ◌==◌, ◌<◌, List, [], ◌∷◌, if◌then◌else◌}
use Rattle.fr_shape.specs.Tokens.{times}

-- the tokens from number t on whose count is 1
abbrev pub counted_once : ℕ → List ℕ → List ℕ
counted_once t [] = []
counted_once t (count ∷ counts) =
    if count == 1 then t ∷ counted_once (t + 1) counts else counted_once (t + 1) counts

-- Of each token that the script brings there is one, in the answered value or among the released; of any other there is
-- none in either.
pub record StandOnce (brought answered : ℕ → ℕ) (released : List ℕ) : Type 0 where
  pub each : (t : ℕ) → 0 < brought t → answered t + times released t ≡ 1
  pub others : (t : ℕ) → brought t ≡ 0 → answered t + times released t ≡ 0
