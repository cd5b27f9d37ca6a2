-- What pairs of a field's name and a text make of a form, whose fields are parsed.
use Rattle.std.specs.Prelude.{◌≡◌, ◌≢◌, ◌⊎◌, ℕ, List, [], ◌∷◌, Option, Some, None, Result, Ok, Err}
use Rattle.std.specs.List.{filter_map}
use Rattle.std.specs.Option.{option_map}
use Rattle.std.specs.Result.{result_err}
use Rattle.fr_shape.specs.declared.error.AllocError.{AllocError}
use Rattle.fr_shape.specs.declared.error.PlanError.{PlanError}
use Rattle.fr_shape.specs.declared.error.ReflectErrorKind.{ReflectErrorKind}
use Rattle.fr_shape.specs.Hooks.{Meanings}
use Rattle.fr_shape.specs.Look.{Table}
use Rattle.fr_shape.specs.Val.{Val}
use Rattle.fr_model.specs.Commands.{Call}
use Rattle.fr_model.specs.Run.{Refusal}
use Rattle.fr_model.specs.Tree.{State, initial}
use Rattle.fr_work.specs.declared.reflect_error.ReflectError.{ReflectError}
use Rattle.fr_work.specs.BuiltValue.{BuiltValue}
use Rattle.fr_example.specs.declared.form.BadField.{BadField}
use Rattle.fr_example.specs.declared.form.FormError.{FormError}
use Rattle.fr_example.specs.declared.record.Pair.{Pair}
use Rattle.fr_example.specs.Outcomes.{IsOutcome}
use Rattle.fr_example.specs.Putting.{then_call, enters_field, FailsAfter}

-- Bad fields

-- the field is entered by its name, and its text is parsed there
abbrev pub parses_field : Meanings → Table → (root : ℕ) → State → Pair → Result State ReflectErrorKind
parses_field hooks table root state pair =
    then_call hooks table root (enters_field hooks table root state pair) (Call.ParseFromStr pair.text)

-- why these two calls are refused, if so, at a builder of which nothing else was asked
abbrev pub fault_of : Meanings → Table → (root : ℕ) → Pair → Option ReflectErrorKind
fault_of hooks table root pair = result_err (parses_field hooks table root (initial table root) pair)

-- the bad field that a pair is, if it is one: its name, and why
abbrev pub bad_field : Meanings → Table → (root : ℕ) → Pair → Option BadField
bad_field hooks table root pair = option_map (λ (kind : ReflectErrorKind). record { name = pair.name; kind = kind }) (fault_of hooks table root pair)

-- all of them, in the order of the pairs
abbrev pub bad_fields : Meanings → Table → (root : ℕ) → List Pair → List BadField
bad_fields hooks table root pairs = filter_map (bad_field hooks table root) pairs

-- The whole form

-- for each pair, in order, its field is entered, its text is parsed, and the field is left
abbrev pub form_script : List Pair → List Call
form_script [] = []
form_script (pair ∷ pairs) = Call.BeginField pair.name ∷ Call.ParseFromStr pair.text ∷ Call.End ∷ form_script pairs

-- What a form comes to. Out of memory nothing is said.

-- where there is no plan, that is told, and nowhere else
abbrev pub TellsNoPlan : (refusal : Option AllocError) → Result BuiltValue FormError → Type 0
TellsNoPlan refusal (Ok built) = refusal ≡ None
TellsNoPlan refusal (Err (FormError.NoPlan error)) = refusal ≡ Some error
TellsNoPlan refusal (Err (FormError.Bad named)) = refusal ≡ None
TellsNoPlan refusal (Err (FormError.Refused error)) = refusal ≡ None
TellsNoPlan refusal (Err FormError.OutOfMemory) = Unit {0}

-- where some field is bad, all bad fields are named, and nowhere else; but that there is no plan comes first
abbrev pub NamesBad : (bad : List BadField) → Result BuiltValue FormError → Type 0
NamesBad bad (Ok built) = bad ≡ []
NamesBad bad (Err (FormError.NoPlan error)) = Unit {0}
NamesBad bad (Err (FormError.Bad named)) = (named ≡ bad) × (bad ≢ [])
NamesBad bad (Err (FormError.Refused error)) = bad ≡ []
NamesBad bad (Err FormError.OutOfMemory) = Unit {0}

-- a value, and a refusal of the whole, are what the calls come to; the refusal is never that memory ran out
abbrev pub IsOutcomeOfForm : (meant : Result Val Refusal) → Result BuiltValue FormError → Type 0
IsOutcomeOfForm meant (Ok built) = IsOutcome meant (Ok built)
IsOutcomeOfForm meant (Err (FormError.NoPlan error)) = Unit {0}
IsOutcomeOfForm meant (Err (FormError.Bad named)) = Unit {0}
IsOutcomeOfForm meant (Err (FormError.Refused error)) =
    (error.kind ≢ ReflectErrorKind.OutOfMemory) × IsOutcome meant (Err error)
IsOutcomeOfForm meant (Err FormError.OutOfMemory) = Unit {0}

-- How it comes about

-- an error is that there is no plan, or memory ran out
abbrev pub IsNoPlan : (refusal : Option AllocError) → FormError → Type 0
IsNoPlan refusal (FormError.NoPlan error) = refusal ≡ Some error
IsNoPlan refusal (FormError.Bad named) = ⊥
IsNoPlan refusal (FormError.Refused error) = ⊥
IsNoPlan refusal FormError.OutOfMemory = Unit {0}

-- all bad fields are found, and where there are any there is a plan; or the error is such a one
abbrev pub FindsBad : (refusal : Option AllocError) → (bad : List BadField) → Result (List BadField) FormError → Type 0
FindsBad refusal bad (Ok found) = (found ≡ bad) × (found ≢ [] → refusal ≡ None)
FindsBad refusal bad (Err error) = IsNoPlan refusal error

-- once its text is parsed, the field is left
abbrev pub fills_field : Meanings → Table → (root : ℕ) → State → Pair → Result State ReflectErrorKind
fills_field hooks table root state pair = then_call hooks table root (parses_field hooks table root state pair) Call.End

-- one of the two calls fails
abbrev pub FailsParsing : Meanings → Table → (root : ℕ) → State → Pair → ReflectError → Type 0
FailsParsing hooks table root state pair error =
    FailsAfter hooks table root (Ok state) (Call.BeginField pair.name) error
    ⊎ FailsAfter hooks table root (enters_field hooks table root state pair) (Call.ParseFromStr pair.text) error

-- one of the three
abbrev pub FailsFilling : Meanings → Table → (root : ℕ) → State → Pair → ReflectError → Type 0
FailsFilling hooks table root state pair error =
    FailsParsing hooks table root state pair error
    ⊎ FailsAfter hooks table root (parses_field hooks table root state pair) Call.End error

-- a plan that there isn't, as the error of a form
abbrev pub without_plan : PlanError → FormError
without_plan (PlanError.Alloc error) = FormError.NoPlan error
without_plan PlanError.OutOfMemory = FormError.OutOfMemory

-- an error of this kind, as that of a form
abbrev pub refused_for : ReflectErrorKind → ReflectError → FormError
refused_for ReflectErrorKind.OutOfMemory error = FormError.OutOfMemory
refused_for kind error = FormError.Refused error

-- an error of the builder, as that of a form
abbrev pub refused : ReflectError → FormError
refused error = refused_for error.kind error
