-- What pairs of a field's name and a text make of a struct.
use Rattle.std.specs.Prelude.{◌≡◌, ◌≢◌, ◌⊎◌, ◌==◌, ◌||◌, ℕ, zero, suc, Bool, true, false, List, [], ◌∷◌, Option, Some, None, Result, Ok, Err, if◌then◌else◌}
use Rattle.std.specs.Option.{option_or}
use Rattle.fr_shape.specs.declared.error.AllocError.{AllocError}
use Rattle.fr_shape.specs.declared.error.Invariant.{Invariant}
use Rattle.fr_shape.specs.declared.error.PlanError.{PlanError}
use Rattle.fr_shape.specs.declared.error.ReflectErrorKind.{ReflectErrorKind}
use Rattle.fr_shape.specs.declared.shape.Def.{Def}
use Rattle.fr_shape.specs.Fills.{is_empty_struct, preset_of}
use Rattle.fr_shape.specs.Hooks.{Meanings}
use Rattle.fr_shape.specs.Invariants.{keeps_invariants}
use Rattle.fr_shape.specs.Look.{Table, def_of}
use Rattle.fr_shape.specs.Named.{field_named}
use Rattle.fr_shape.specs.Plannable.{is_dynamic}
use Rattle.fr_shape.specs.Val.{Val, Vals, text, product, dyn, no_vals, first}
use Rattle.fr_shape.specs.Val.{dyn_text}
use Rattle.fr_path.specs.declared.path_steps.PathStep.{PathStep}
use Rattle.fr_model.specs.Complete.{missing_field, failing_field_in}
use Rattle.fr_model.specs.Places.{strict_column, child_count, child_shape, fill_at}
use Rattle.fr_model.specs.Run.{alloc_refusal}
use Rattle.fr_model.specs.Step.{violates}
use Rattle.fr_work.specs.declared.reflect_error.ReflectError.{ReflectError}
use Rattle.fr_work.specs.BuiltValue.{BuiltValue}
use Rattle.fr_example.specs.declared.record.Pair.{Pair}

abbrev pub is_struct : Def → Bool
is_struct (Def.Struct struct) = true
is_struct (Def.Scalar kind) = false
is_struct Def.Str = false
is_struct Def.Opaque = false
is_struct (Def.Enum enumeration) = false
is_struct (Def.Option t) = false
is_struct (Def.Result t e) = false
is_struct (Def.List t) = false
is_struct (Def.Map key item) = false
is_struct (Def.Set t) = false
is_struct (Def.Array t n) = false
is_struct (Def.Pointer pointer) = false
is_struct (Def.Slice t) = false
is_struct Def.Dynamic = false
is_struct Def.Undefined = false
is_struct Def.Other = false

-- Refusals

-- a field of shape s takes texts of shape `string`: where that is its own shape, and where it is dynamic
abbrev pub takes_text : Table → (s string : ℕ) → Bool
takes_text table s string = is_dynamic (def_of table s) || s == string

-- why a text, whose shape is `string`, can't be put into the field found under a name: there is none, or it takes no such text
abbrev pub refusal_at : Table → (root string : ℕ) → (found : Option ℕ) → Option ReflectErrorKind
refusal_at table root string None = Some (ReflectErrorKind.FieldError (record { 0 = root }))
refusal_at table root string (Some i) =
    if takes_text table (child_shape table root i) string then None
    else Some (ReflectErrorKind.WrongShape (record { 0 = child_shape table root i }) (record { 0 = string }))

-- a name means the first field that is declared under it
abbrev pub refusal_of : Table → (root string : ℕ) → Pair → Option ReflectErrorKind
refusal_of table root string pair = refusal_at table root string (field_named pair.name (def_of table root))

-- the refusal of the first pair that is refused
abbrev pub first_refusal : Table → (root string : ℕ) → List Pair → Option ReflectErrorKind
first_refusal table root string [] = None
first_refusal table root string (pair ∷ pairs) =
    option_or (refusal_of table root string pair) (first_refusal table root string pairs)

-- Values

abbrev pub is_found : ℕ → (found : Option ℕ) → Bool
is_found i (Some found) = i == found
is_found i None = false

-- a text in a field of this definition: in a dynamic one it is a dynamic text
abbrev pub text_in : Def → List ℕ → Val
text_in def codes = if is_dynamic def then dyn (dyn_text codes) else text codes

-- the same in field i of the struct of shape `root`
abbrev pub text_at : Table → (root i : ℕ) → List ℕ → Val
text_at table root i codes = text_in (def_of table (child_shape table root i)) codes

-- what a pair gives to field i of the struct of shape `root`: its text, where its name means that field
abbrev pub given : Table → (root : ℕ) → Pair → ℕ → Option Val
given table root pair i =
    if is_found i (field_named pair.name (def_of table root)) then Some (text_at table root i pair.text) else None

-- what the last of the pairs that gives something to field i gives it
abbrev pub last_given : Table → (root : ℕ) → List Pair → ℕ → Option Val
last_given table root [] i = None
last_given table root (pair ∷ pairs) i = option_or (last_given table root pairs i) (given table root pair i)

-- the value of field i: the last text given to it, else its fill
abbrev pub value_of_field : Table → (root : ℕ) → List Pair → ℕ → Option Val
value_of_field table root pairs i = option_or (last_given table root pairs i) (fill_at strict_column table root i)

abbrev pub refused_or : Option ReflectErrorKind → Result Val ReflectErrorKind → Result Val ReflectErrorKind
refused_or (Some kind) value = Err kind
refused_or None value = value

-- the value, if there is one and it isn't refused
abbrev pub admitted_value : (missing : ReflectErrorKind) → (refusal : Option ReflectErrorKind) → Option Val → Result Val ReflectErrorKind
admitted_value missing refusal (Some v) = refused_or refusal (Ok v)
admitted_value missing refusal None = Err missing

-- field i's value; without one it is missing; where it fails a validator, the first one refuses it
abbrev pub checked_field : Meanings → Table → (root i : ℕ) → Option Val → Result Val ReflectErrorKind
checked_field hooks table root i value =
    admitted_value (missing_field root None i) (failing_field_in hooks table root None i value) value

abbrev pub one_more_field : Result Val ReflectErrorKind → Result Vals ReflectErrorKind → Result Vals ReflectErrorKind
one_more_field (Ok v) (Ok vs) = Ok (first v vs)
one_more_field (Ok v) (Err kind) = Err kind
one_more_field (Err kind) others = Err kind

-- so many fields with these values, number i first; or the refusal of the first that is missing or refused
abbrev pub fields_from : Meanings → Table → (root : ℕ) → (value : ℕ → Option Val) → (count i : ℕ) → Result Vals ReflectErrorKind
fields_from hooks table root value zero i = Ok no_vals
fields_from hooks table root value (suc count) i =
    one_more_field (checked_field hooks table root i (value i)) (fields_from hooks table root value count (suc i))

abbrev pub product_of_fields : Result Vals ReflectErrorKind → Result Val ReflectErrorKind
product_of_fields (Ok vs) = Ok (product vs)
product_of_fields (Err kind) = Err kind

-- the product of all fields' values
abbrev pub of_fields : Meanings → Table → (root : ℕ) → List Pair → Result Val ReflectErrorKind
of_fields hooks table root pairs =
    product_of_fields (fields_from hooks table root (value_of_field table root pairs) (child_count table root) 0)

abbrev pub preset_or : Option Val → Result Val ReflectErrorKind → Result Val ReflectErrorKind
preset_or (Some v) other = Ok v
preset_or None other = other

-- The value to which the struct completes, where no pair is refused. Where there is none at all, a struct without fields is empty, and
-- one with a default is that, of which no validator is asked.
abbrev pub filled : Meanings → Table → (root : ℕ) → List Pair → Result Val ReflectErrorKind
filled hooks table root [] =
    if is_empty_struct (def_of table root) then Ok (product no_vals)
    else preset_or (preset_of table root) (of_fields hooks table root [])
filled hooks table root (pair ∷ pairs) = of_fields hooks table root (pair ∷ pairs)

-- a value, unless an invariant of a struct in it is false
abbrev pub unless_violated : Meanings → Table → (root : ℕ) → Result Val ReflectErrorKind → Result Val ReflectErrorKind
unless_violated hooks table root (Ok v) =
    if keeps_invariants hooks.check table root v then Ok v else Err (violates Invariant.TypeInvariant)
unless_violated hooks table root (Err kind) = Err kind

-- what is built of pairs of which none is refused
abbrev pub unrefused : Meanings → Table → (root : ℕ) → List Pair → Result Val ReflectErrorKind
unrefused hooks table root pairs = unless_violated hooks table root (filled hooks table root pairs)

-- what pairs make of a struct that has a builder: the first refusal of a pair, or else the value, or why the struct isn't built
abbrev pub pairs_meant : Meanings → Table → (root string : ℕ) → List Pair → Result Val ReflectErrorKind
pairs_meant hooks table root string pairs =
    refused_or (first_refusal table root string pairs) (unrefused hooks table root pairs)

-- why there is no builder, as the kind of an error
abbrev pub kind_of : PlanError → ReflectErrorKind
kind_of (PlanError.Alloc error) = ReflectErrorKind.Alloc error
kind_of PlanError.OutOfMemory = ReflectErrorKind.OutOfMemory

-- that there is no builder, as a refusal
abbrev pub unplanned : Option AllocError → Option ReflectErrorKind
unplanned (Some error) = Some (ReflectErrorKind.Alloc error)
unplanned None = None

-- what pairs make of the struct of shape `root`: that it has no builder, or else as above
abbrev pub record_meant : Meanings → Table → (root string : ℕ) → List Pair → Result Val ReflectErrorKind
record_meant hooks table root string pairs =
    refused_or (unplanned (alloc_refusal table root)) (pairs_meant hooks table root string pairs)

-- what is meant was built; or that is the refusal; or memory ran out
abbrev pub IsMeant : (meant : Result Val ReflectErrorKind) → Result BuiltValue ReflectError → Type 0
IsMeant meant (Ok built) = meant ≡ Ok built.value
IsMeant meant (Err error) = (error.kind ≡ ReflectErrorKind.OutOfMemory) ⊎ (meant ≡ Err error.kind)

-- Places

-- the path of the field that was found under a name, or of the root where none was
abbrev pub place_found : Option ℕ → List PathStep
place_found (Some i) = PathStep.Field i ∷ []
place_found None = []

-- the path of the field that a pair names, or of the root where it names none
abbrev pub place_of : Table → (root : ℕ) → Pair → List PathStep
place_of table root pair = place_found (field_named pair.name (def_of table root))

-- this path where there is a refusal, else the other
abbrev pub refused_here_or : Option ReflectErrorKind → (here other : List PathStep) → List PathStep
refused_here_or (Some kind) here other = here
refused_here_or None here other = other

-- the path at which pairs are refused: that of the first pair that is refused, or the root's where none is
abbrev pub place_refused : Table → (root string : ℕ) → List Pair → List PathStep
place_refused table root string [] = []
place_refused table root string (pair ∷ pairs) =
    refused_here_or (refusal_of table root string pair) (place_of table root pair) (place_refused table root string pairs)

-- the same where the struct may have no builder, which is refused at the root
abbrev pub record_place : Table → (root string : ℕ) → List Pair → List PathStep
record_place table root string pairs =
    refused_here_or (unplanned (alloc_refusal table root)) [] (place_refused table root string pairs)

-- the path is that of one of these pairs' fields, or of the root
abbrev pub IsPlaceOfAny : Table → (root : ℕ) → List Pair → List PathStep → Type 0
IsPlaceOfAny table root [] path = path ≡ []
IsPlaceOfAny table root (pair ∷ pairs) path = (path ≡ place_of table root pair) ⊎ IsPlaceOfAny table root pairs path

-- The error tells the path of the place before the call that was refused.
pub record TellsPlace (table : Table) (root string : ℕ) (pairs : List Pair) (error : ReflectError) : Type 0 where
  -- A text is refused at the field that doesn't take it. All else is refused at the root: a struct that has no plan, a name that no field
  -- has, a field that was not named and has no fill, a value that a validator of its field refuses, and an invariant that is false.
  pub refused : error.kind ≢ ReflectErrorKind.OutOfMemory → error.path ≡ record_place table root string pairs
  -- Memory runs out at a field that one of the pairs names, or at the root.
  pub anywhere : IsPlaceOfAny table root pairs error.path
