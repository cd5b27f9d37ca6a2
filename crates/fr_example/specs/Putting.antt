-- Putting a pair: three calls of the builder, as the hooks mean.
use Rattle.std.specs.Prelude.{◌≡◌, ◌⊎◌, ℕ, Result, Ok, Err}
use Rattle.fr_shape.specs.declared.error.ReflectErrorKind.{ReflectErrorKind}
use Rattle.fr_shape.specs.Hooks.{Meanings}
use Rattle.fr_shape.specs.Look.{Table}
use Rattle.fr_shape.specs.Val.{text}
use Rattle.fr_model.specs.Commands.{Call}
use Rattle.fr_model.specs.Paths.{path_of}
use Rattle.fr_model.specs.Step.{step}
use Rattle.fr_model.specs.Tree.{State}
use Rattle.fr_work.specs.declared.reflect_error.ReflectError.{ReflectError}
use Rattle.fr_example.specs.declared.record.Pair.{Pair}

-- a call after others, where none of those was refused
abbrev pub then_call : Meanings → Table → (root : ℕ) → Result State ReflectErrorKind → Call → Result State ReflectErrorKind
then_call hooks table root (Ok state) call = step hooks table root state call
then_call hooks table root (Err kind) call = Err kind

-- the field is entered by its name
abbrev pub enters_field : Meanings → Table → (root : ℕ) → State → Pair → Result State ReflectErrorKind
enters_field hooks table root state pair = then_call hooks table root (Ok state) (Call.BeginField pair.name)

-- it holds the text
abbrev pub sets_text : Meanings → Table → (root string : ℕ) → State → Pair → Result State ReflectErrorKind
sets_text hooks table root string state pair =
    then_call hooks table root (enters_field hooks table root state pair) (Call.Set string (text pair.text))

-- and it is left
abbrev pub puts_pair : Meanings → Table → (root string : ℕ) → State → Pair → Result State ReflectErrorKind
puts_pair hooks table root string state pair = then_call hooks table root (sets_text hooks table root string state pair) Call.End

-- A call after others, none of which was refused, is refused with this error or is out of memory. The error tells the path of the place
-- before it.
abbrev pub FailsAfter : Meanings → Table → (root : ℕ) → Result State ReflectErrorKind → Call → ReflectError → Type 0
FailsAfter hooks table root (Ok before) call error =
    (error.path ≡ path_of before)
    × ((error.kind ≡ ReflectErrorKind.OutOfMemory) ⊎ (step hooks table root before call ≡ Err error.kind))
FailsAfter hooks table root (Err kind) call error = ⊥

-- one of the three calls fails so
abbrev pub FailsPutting : Meanings → Table → (root string : ℕ) → State → Pair → ReflectError → Type 0
FailsPutting hooks table root string state pair error =
    FailsAfter hooks table root (Ok state) (Call.BeginField pair.name) error
    ⊎ FailsAfter hooks table root (enters_field hooks table root state pair) (Call.Set string (text pair.text)) error
    ⊎ FailsAfter hooks table root (sets_text hooks table root string state pair) Call.End error
