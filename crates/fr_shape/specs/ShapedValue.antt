-- What contracts see of a `Shaped`.
use Rattle.std.specs.Prelude.{ℕ, refl}
use Rattle.std.specs.Coded.{Coded, code_by, coded×, coded_ℕ}
use Rattle.fr_shape.specs.Val.{Val}
use Rattle.fr_shape.specs.Code.{val_code}

-- a value, and the number of the shape that it fits
pub record ShapedValue : Type 0 where
  pub shape : ℕ
  pub value : Val

-- stored as the pair of its fields
abbrev pub shaped_value_code : Coded ShapedValue
shaped_value_code =
    code_by (ℕ × Val) (coded× coded_ℕ val_code) (λ s. (s.shape, s.value)) (λ p. record { shape = p.0; value = p.1 })
    (λ _. refl)
