-- Laws of what hooks mean, for proofs.
use Rattle.std.specs.Prelude.{◌≡◌}
use mathlib.Core.Path.{subst}
use Rattle.fr_shape.specs.Val.{Val}
use Rattle.fr_shape.specs.Hooks.{Meaning, gives, IfGives, IsLawful, no_hooks}

-- what holds of a value that is given holds of this one
pub given : (meaning : Meaning) (v : Val) (So : Val → Type 0) → meaning ≡ gives v → IfGives meaning So → So v
given meaning v So e law = subst (λ (m : Meaning). IfGives m So) e law

-- no hooks are lawful: nothing is given
pub no_hooks_are_lawful : IsLawful no_hooks
no_hooks_are_lawful = record {
  converted_fits = λ table hook target source. tt;
  converted_tokens = λ table hook target source. tt;
  parsed_fits = λ table hook target text. tt;
  parsed_tokens = λ table hook target text. tt;
  parsed_bytes_fits = λ table hook target bytes. tt;
  parsed_bytes_tokens = λ table hook target bytes. tt;
}
