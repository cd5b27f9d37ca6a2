-- What contracts see of a built value.
use Rattle.std.specs.Prelude.{ℕ, refl}
use Rattle.std.specs.Coded.{Coded, code_by, coded×, coded_ℕ}
use Rattle.fr_shape.specs.Code.{val_code}
use Rattle.fr_shape.specs.Val.{Val}

-- the value, and how many calls made it
pub record BuiltValue : Type 0 where
  pub value : Val
  pub calls : ℕ

abbrev pub built_value_code : Coded BuiltValue
built_value_code =
    code_by (Val × ℕ) (coded× val_code coded_ℕ) (λ b. (b.value, b.calls)) (λ p. record { value = p.0; calls = p.1 }) (λ b. refl)
