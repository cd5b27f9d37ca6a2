-- What comes of a value that a function returns for a place.
use Rattle.std.specs.Prelude.{◌≡◌, ◌+◌, ◌==◌, ℕ, Bool, true, false, List, Result, Ok, Err, IsErrAnd, IsOk, IfOk}
use Rattle.fr_shape.specs.Fits.{fits}
use Rattle.fr_shape.specs.Hooks.{Meanings}
use Rattle.fr_shape.specs.Look.{Table}
use Rattle.fr_shape.specs.Released.{RoseBy}
use Rattle.fr_shape.specs.ShapedValue.{ShapedValue}
use Rattle.fr_shape.specs.Tokens.{occurs}
use Rattle.fr_shape.specs.declared.error.ReflectErrorKind.{ReflectErrorKind}
use Rattle.fr_model.specs.Commands.{Call}
use Rattle.fr_model.specs.Paths.{path_of}
use Rattle.fr_partial.specs.Builder.{Builder, IsCall, here, holds}
use Rattle.fr_work.specs.declared.reflect_error.ReflectError.{ReflectError}

-- a value, if one is returned, fits the shape that it names
abbrev pub FitsIfGiven : Table → Result ShapedValue ReflectErrorKind → Type 0
FitsIfGiven table given = IfOk given (λ shaped. fits table shaped.shape shaped.value ≡ true)

-- how often a token stands in it
abbrev pub given_occurs : Result ShapedValue ReflectErrorKind → ℕ → ℕ
given_occurs (Ok shaped) t = occurs shaped.value t
given_occurs (Err kind) t = 0

-- It is refused with this very kind, at the place at which the builder worked, and all that was held then was released.
pub record IsRefusedAs {H : Type 0} (before : Builder H) (kind : ReflectErrorKind) (held : ℕ → ℕ) (result : Result (Builder H) ReflectError) (old new : List ℕ) : Type 0 where
  pub refused : IsErrAnd result (λ error. (error.kind ≡ kind) × (error.path ≡ path_of before.state))
  pub released : RoseBy held old new

-- the value is of the place's shape, and the place is whole with it, never refused or out of memory; or it is of another, which is refused at
-- any place
abbrev pub IsTakenIf : {H : Type 0} → (is_own : Bool) → Meanings → Builder H → ShapedValue → Result (Builder H) ReflectError → (old new : List ℕ) → Type 0
IsTakenIf true hooks before shaped result old new = IsOk result × IsCall hooks before (Call.Set shaped.shape shaped.value) result old new
IsTakenIf false hooks before shaped result old new =
    IsRefusedAs before (ReflectErrorKind.WrongShape (record { 0 = here before }) (record { 0 = shaped.shape }))
    (λ t. holds before t + occurs shaped.value t) result old new

-- what the function returns is put at the place if it is a value of the place's shape; the kind of a refusal that it returns is told as it is
abbrev pub IsGiven : {H : Type 0} → Meanings → Builder H → (given : Result ShapedValue ReflectErrorKind) → Result (Builder H) ReflectError → (old new : List ℕ) → Type 0
IsGiven hooks before (Ok shaped) result old new = IsTakenIf (here before == shaped.shape) hooks before shaped result old new
IsGiven hooks before (Err kind) result old new = IsRefusedAs before kind (holds before) result old new
