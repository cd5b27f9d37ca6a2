-- Conserving keeps or releases each token that is held once.
use Rattle.std.proofs.Common.{◌≡◌, ◌⊎◌, inl, inr, ℕ, zero, suc, ◌+◌, ◌≤◌, get_or, refl, arith}
use Rattle.fr_shape.specs.Once.{ConservingKeepsOrReleases}

-- a token that was held once, by how often it is left
kept_or_released : (count risen left : ℕ) → count + 1 ≡ risen + left → count ≤ risen → ((left ≡ 1) × (risen ≡ count)) ⊎ ((left ≡ 0) × (risen ≡ suc count))
kept_or_released count risen zero e h = inr (refl, omega arith)
kept_or_released count risen (suc left) e h = inl (omega arith, omega arith)

pub conserving_keeps_or_releases : ConservingKeepsOrReleases
conserving_keeps_or_releases held before left after c = record {
  held_once = λ t h. kept_or_released (get_or before t 0) (get_or after t 0) (left t) (omega (arith, h, c.kept_or_released t)) (c.none_falls t);
  not_held = λ t h. (omega (arith, h, c.kept_or_released t, c.none_falls t), omega (arith, h, c.kept_or_released t, c.none_falls t));
}
