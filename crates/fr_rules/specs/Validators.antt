-- Validators that hold the scalar kind of their field.
use Rattle.std.specs.Prelude.{◌≡◌, ℕ, ℤ, pos, ◌⊎◌, Bool, Option, Some, None, unwrap_or}
use Rattle.fr_shape.specs.declared.shape.FieldRef.{FieldRef}
use Rattle.fr_shape.specs.declared.shape.ScalarKind.{ScalarKind}
use Rattle.fr_shape.specs.declared.shape.ValidatorDef.{ValidatorDef}
use Rattle.fr_shape.specs.declared.error.ReflectErrorKind.{ReflectErrorKind}
use Rattle.fr_shape.specs.Val.{Val}
use Rattle.fr_shape.specs.Validators.{passes, message}
use Rattle.fr_rules.specs.declared.numbers.Number.{Number}
use Rattle.fr_rules.specs.declared.validators.ValidatorKind.{ValidatorKind}

-- the number, signed or not
abbrev pub whole : Number → ℤ
whole (Number.Int z) = z
whole (Number.Nat n) = pos n

-- the validator as a table has it
abbrev pub validator_of : ValidatorKind → ValidatorDef
validator_of (ValidatorKind.Custom hook) = ValidatorDef.Custom hook
validator_of (ValidatorKind.Min low kind) = ValidatorDef.Min low
validator_of (ValidatorKind.Max high kind) = ValidatorDef.Max high
validator_of (ValidatorKind.MinLength low kind) = ValidatorDef.MinLength low
validator_of (ValidatorKind.MaxLength high kind) = ValidatorDef.MaxLength high
validator_of (ValidatorKind.Url kind) = ValidatorDef.Url
validator_of (ValidatorKind.Regex pattern kind) = ValidatorDef.Regex pattern
validator_of (ValidatorKind.Contains needle kind) = ValidatorDef.Contains needle

-- the scalar kind that it holds; none where a hook tests
abbrev pub kind_in : ValidatorKind → Option ScalarKind
kind_in (ValidatorKind.Custom hook) = None
kind_in (ValidatorKind.Min low kind) = Some kind
kind_in (ValidatorKind.Max high kind) = Some kind
kind_in (ValidatorKind.MinLength low kind) = Some kind
kind_in (ValidatorKind.MaxLength high kind) = Some kind
kind_in (ValidatorKind.Url kind) = Some kind
kind_in (ValidatorKind.Regex pattern kind) = Some kind
kind_in (ValidatorKind.Contains needle kind) = Some kind

-- The value passes the validator at the kind that it holds. A hook isn't asked about kinds, so any serves.
abbrev pub passes_held : (checks : ℕ → Val → Bool) → ValidatorKind → Val → Bool
passes_held checks held v = passes checks (unwrap_or (kind_in held) ScalarKind.String) (validator_of held) v

-- the refusal names the field and says why its value fails; or there was no memory to say it
abbrev pub IsRefusal : FieldRef → ValidatorKind → Val → ReflectErrorKind → Type 0
IsRefusal field held v kind =
    (kind ≡ ReflectErrorKind.ValidationFailed field (message (validator_of held) v))
    ⊎ (kind ≡ ReflectErrorKind.OutOfMemory)
