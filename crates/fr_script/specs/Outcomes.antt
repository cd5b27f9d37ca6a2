-- What the running of a script returns, against the machine and the journal.
use Rattle.std.specs.Prelude.{◌≡◌, ◌⊎◌, ℕ, Bool, true, false, Option, Some, None, Result, Ok, Err}
use Rattle.fr_shape.specs.declared.error.PlanError.{PlanError}
use Rattle.fr_shape.specs.declared.error.ReflectErrorKind.{ReflectErrorKind}
use Rattle.fr_shape.specs.Tokens.{occurs}
use Rattle.fr_shape.specs.Val.{Val}
use Rattle.fr_model.specs.Run.{Refusal}
use Rattle.fr_work.specs.BuiltValue.{BuiltValue}
use Rattle.fr_script.specs.declared.building.ScriptError.{ScriptError}

-- The answer is the machine's: its value, or its refusal by number, kind and path; an error may also be that no memory
-- was left.
abbrev pub IsRun : Result Val Refusal → Result BuiltValue ScriptError → Type 0
IsRun meant (Ok built) = meant ≡ Ok built.value
IsRun meant (Err error) =
    (error.kind ≡ ReflectErrorKind.OutOfMemory)
    ⊎ (meant ≡ Err (record { number = error.number; kind = error.kind; path = error.path }))

-- The answer is a value exactly where the journal completes, and then it is the journal's; out of memory aside.
abbrev pub IsJournals : Option Val → Result BuiltValue ScriptError → Type 0
IsJournals completed (Ok built) = completed ≡ Some built.value
IsJournals completed (Err error) = (error.kind ≡ ReflectErrorKind.OutOfMemory) ⊎ (completed ≡ None)

-- how often a token stands in the answer: not at all in an error
abbrev pub answered : Result BuiltValue ScriptError → ℕ → ℕ
answered (Ok built) t = occurs built.value t
answered (Err error) t = 0

abbrev pub is_want_of_memory : ReflectErrorKind → Bool
is_want_of_memory ReflectErrorKind.OutOfMemory = true
is_want_of_memory _ = false

-- why a root without a plan is refused
abbrev pub kind_without_plan : PlanError → ReflectErrorKind
kind_without_plan (PlanError.Alloc error) = ReflectErrorKind.Alloc error
kind_without_plan PlanError.OutOfMemory = ReflectErrorKind.OutOfMemory
