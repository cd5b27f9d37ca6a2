-- What lines `key = value` are to build.
use Rattle.std.specs.Prelude.{◌≡◌, ◌⊎◌, ◌||◌, ◌==◌, ◌+◌, ◌-◌, ◌<◌, ◌≤◌, ◌∷◌, ◌++◌, ℕ, Bool, not, List, [], map, length, take, position, flat_map, slice_index, Option, Some, None, Result, Ok, Err, IfErr, ⊤, if◌then◌else◌}
use Rattle.std.specs.List.{slice_split, before_first, after_first, list_any}
use Rattle.std.specs.Option.{option_map}
use Rattle.std.specs.Str.{trim}
use Rattle.fr_shape.specs.declared.error.ReflectErrorKind.{ReflectErrorKind}
use Rattle.fr_shape.specs.Hooks.{Meanings}
use Rattle.fr_shape.specs.Look.{Table}
use Rattle.fr_shape.specs.Val.{Val}
use Rattle.fr_model.specs.Commands.{Call}
use Rattle.fr_model.specs.Run.{Refusal, full_run}
use Rattle.fr_work.specs.BuiltValue.{BuiltValue}
use Rattle.fr_example.specs.declared.loader.LoadError.{LoadError}
use Rattle.fr_example.specs.Meant.{kind_of}
use Rattle.fr_example.specs.Outcomes.{IsOutcome}

-- Lines

-- it is blank, or its first character besides white space is a `#`
abbrev pub says_nothing : List ℕ → Bool
says_nothing line = length (trim line) == 0 || slice_index (trim line) 0 == 35

abbrev pub is_equals_sign : ℕ → Bool
is_equals_sign b = b == 61

abbrev pub has_equals_sign : List ℕ → Bool
has_equals_sign line = list_any is_equals_sign line

-- it says something, and has no `=`
abbrev pub is_no_pair : List ℕ → Bool
is_no_pair line = not (says_nothing line || has_equals_sign line)

-- the number, counted from 1, of the first such line
abbrev pub first_no_pair : List (List ℕ) → Option ℕ
first_no_pair lines = option_map (λ before. before + 1) (position is_no_pair lines)

-- the names of its key: what stands before the first `=`, parted at each `.`
abbrev pub names_of : List ℕ → List (List ℕ)
names_of line = slice_split (λ b. b == 46) (trim (before_first is_equals_sign line))

-- what stands behind the first `=`
abbrev pub value_of : List ℕ → List ℕ
value_of line = trim (after_first is_equals_sign line)

-- Calls

-- each of the names is entered, one below the other; the value is parsed there; and as many places are left again
abbrev pub calls_of_pair : (names : List (List ℕ)) → (value : List ℕ) → List Call
calls_of_pair names value = map Call.BeginField names ++ Call.ParseFromStr value ∷ map (λ name. Call.End) names

-- the calls of a line: of one that has a key and a value
abbrev pub calls_of_line : List ℕ → List Call
calls_of_line line =
    if says_nothing line then []
    else if has_equals_sign line then calls_of_pair (names_of line) (value_of line)
    else []

-- deferred mode begins, and then come the calls of each line
abbrev pub calls_of_lines : List (List ℕ) → List Call
calls_of_lines lines = Call.BeginDeferred ∷ flat_map calls_of_line lines

-- after the lines deferred mode ends
abbrev pub script_of : List (List ℕ) → List Call
script_of lines = calls_of_lines lines ++ Call.FinishDeferred ∷ []

-- Outcomes

-- what the script of the lines comes to
abbrev pub run_of : Meanings → Table → (root : ℕ) → (lines : List (List ℕ)) → Result Val Refusal
run_of hooks table root lines = full_run hooks table root (script_of lines)

-- That is what the run comes to. An error is that of a root without a plan, or of a line, or of the end.
abbrev pub IsRunTold : (meant : Result Val Refusal) → Result BuiltValue LoadError → Type 0
IsRunTold meant (Ok built) = IsOutcome meant (Ok built)
IsRunTold meant (Err (LoadError.NotALine number)) = ⊥
IsRunTold meant (Err (LoadError.NoPlan refused)) = IsOutcome meant (Err (record { kind = kind_of refused; path = [] }))
IsRunTold meant (Err (LoadError.AtLine number error)) = IsOutcome meant (Err error)
IsRunTold meant (Err (LoadError.Unfinished error)) = IsOutcome meant (Err error)

-- A line that is neither passed over nor a pair is told before anything is built. Where there is none, that is what the run comes to.
abbrev pub IsToldUnless : (bad_line : Option ℕ) → (meant : Result Val Refusal) → Result BuiltValue LoadError → Type 0
IsToldUnless (Some number) meant result = result ≡ Err (LoadError.NotALine number)
IsToldUnless None meant result = IsRunTold meant result

abbrev pub IsLoaded : Meanings → Table → (root : ℕ) → (lines : List (List ℕ)) → Result BuiltValue LoadError → Type 0
IsLoaded hooks table root lines result = IsToldUnless (first_no_pair lines) (run_of hooks table root lines) result

-- how many calls there are up to the end of the first so many lines
abbrev pub calls_up_to : List (List ℕ) → (count : ℕ) → ℕ
calls_up_to lines count = length (calls_of_lines (take count lines))

-- the refused call is one of the line of this number, counted from 1
abbrev pub IsOfLine : List (List ℕ) → (number : ℕ) → Refusal → Type 0
IsOfLine lines number refusal = (calls_up_to lines (number - 1) ≤ refusal.number) × (refusal.number < calls_up_to lines number)

-- it comes after those of all lines
abbrev pub IsAfterLines : List (List ℕ) → Refusal → Type 0
IsAfterLines lines refusal = calls_up_to lines (length lines) ≤ refusal.number

-- the error tells of which line the refused call is, if it is one of a line; or memory ran out
abbrev pub TellsLine : List (List ℕ) → (meant : Result Val Refusal) → LoadError → Type 0
TellsLine lines meant (LoadError.NotALine number) = ⊤
TellsLine lines meant (LoadError.NoPlan refused) = ⊤
TellsLine lines meant (LoadError.AtLine number error) =
    (error.kind ≡ ReflectErrorKind.OutOfMemory) ⊎ IfErr meant (IsOfLine lines number)
TellsLine lines meant (LoadError.Unfinished error) =
    (error.kind ≡ ReflectErrorKind.OutOfMemory) ⊎ IfErr meant (IsAfterLines lines)
