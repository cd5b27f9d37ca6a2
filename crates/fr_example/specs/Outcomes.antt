-- What a run of a builder's calls comes to, and when a function returns just that.
use Rattle.std.specs.Prelude.{◌≡◌, ◌⊎◌, Result, Ok, Err}
use Rattle.fr_shape.specs.declared.error.ReflectErrorKind.{ReflectErrorKind}
use Rattle.fr_shape.specs.Val.{Val}
use Rattle.fr_model.specs.Run.{Refusal}
use Rattle.fr_work.specs.declared.reflect_error.ReflectError.{ReflectError}
use Rattle.fr_work.specs.BuiltValue.{BuiltValue}

-- the error is that of this refusal: its kind, and the path of the place at which the builder worked before the call that is refused
abbrev pub IsRefusal : Refusal → ReflectError → Type 0
IsRefusal refusal error = (error.kind ≡ refusal.kind) × (error.path ≡ refusal.path)

-- the value that the calls mean was built, or they were refused as they mean; or memory ran out
abbrev pub IsOutcome : (meant : Result Val Refusal) → Result BuiltValue ReflectError → Type 0
IsOutcome (Ok v) (Ok built) = built.value ≡ v
IsOutcome (Err refusal) (Err error) = (error.kind ≡ ReflectErrorKind.OutOfMemory) ⊎ IsRefusal refusal error
IsOutcome (Ok v) (Err error) = error.kind ≡ ReflectErrorKind.OutOfMemory
IsOutcome (Err refusal) (Ok built) = ⊥
