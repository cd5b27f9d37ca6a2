-- Tokens that are held at most once.
use Rattle.std.specs.Prelude.{◌≡◌, ◌⊎◌, ℕ, suc, List, slice_index}
use Rattle.fr_shape.specs.Released.{Conserved}

-- A token that was held is left once and its count is as before, or it is not left and its count rose by one. A token
-- that was not held is not left, and its count is as before.
pub record EachKeptOrReleased (held : ℕ → ℕ) (before : List ℕ) (left : ℕ → ℕ) (after : List ℕ) : Type 0 where
  pub held_once : (t : ℕ) → held t ≡ 1 → ((left t ≡ 1) × (slice_index after t ≡ slice_index before t))
      ⊎ ((left t ≡ 0) × (slice_index after t ≡ suc (slice_index before t)))
  pub not_held : (t : ℕ) → held t ≡ 0 → (left t ≡ 0) × (slice_index after t ≡ slice_index before t)

-- so it is wherever tokens that are held at most once are conserved
abbrev pub ConservingKeepsOrReleases : Type 0
ConservingKeepsOrReleases =
    (held : ℕ → ℕ) (before : List ℕ) (left : ℕ → ℕ) (after : List ℕ) → Conserved held before left after
    → EachKeptOrReleased held before left after
