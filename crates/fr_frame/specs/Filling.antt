-- Completing a begun place child by child: what each child takes, and lacks, by its own value where it is there.
use Rattle.std.specs.Prelude.{◌≡◌, ◌⊎◌, ℕ, List, [], ◌∷◌, length, slice_get, Option, Some, None, IsSome, IsSomeAnd, if◌then◌else◌}
use Rattle.std.specs.Option.{option_or}
use Rattle.fr_shape.specs.declared.error.ReflectErrorKind.{ReflectErrorKind}
use Rattle.fr_shape.specs.declared.shape.Field.{Field}
use Rattle.fr_shape.specs.declared.shape.FieldRef.{FieldRef}
use Rattle.fr_shape.specs.Hooks.{Meanings}
use Rattle.fr_shape.specs.Look.{Table, def_of, field_at, field_in}
use Rattle.fr_shape.specs.Val.{Val}
use Rattle.fr_shape.specs.Validators.{message}
use Rattle.fr_rules.specs.declared.validators.PrecomputedValidator.{PrecomputedValidator}
use Rattle.fr_rules.specs.FillRules.{fill_told}
use Rattle.fr_rules.specs.Validators.{passes_held, validator_of}
use Rattle.fr_model.specs.Complete.{failing_child, hole_takes, missing_child, unless_there}
use Rattle.fr_model.specs.Places.{Column, strict_column, deferred_column, fill_in}
use Rattle.fr_model.specs.Trackers.{Tracker, as_fields}
use Rattle.fr_model.specs.Well.{IsFullAs}
use Rattle.fr_plan.specs.declared.plans.FieldPlan.{FieldPlan}
use Rattle.fr_plan.specs.Plans.{Names, validators_of}
use Rattle.fr_plan.specs.TypePlan.{Plan}
use Rattle.fr_frame.specs.declared.field_plans.FillColumn.{FillColumn}
use Rattle.fr_frame.specs.Completing.{IsOfValidator}

-- What a plan says of fields.

-- the plan says this of field i of the struct of shape s, or of the variant of this number of an enum of shape s
pub record IsTold (table : Table) (plan : Plan) (s : ℕ) (selected : Option ℕ) (i : ℕ) (told : FieldPlan) : Type 0 where
  pub field : Field
  pub here : field_in (def_of table s) selected i ≡ Some field
  pub meant : told.field ≡ record { shape = record { 0 = s }; variant = selected; index = i }
  pub fill : fill_told table told.fill_rule ≡ fill_in strict_column table s selected i
  pub validators : Names plan.lists.validators told.validators (validators_of table field)

-- the same, or there is no such field
abbrev pub IsToldAt : Table → Plan → ℕ → (selected : Option ℕ) → ℕ → Option FieldPlan → Type 0
IsToldAt table plan s selected i (Some told) = IsTold table plan s selected i told
IsToldAt table plan s selected i None = field_in (def_of table s) selected i ≡ None

-- the plan says this of all fields of shape s, in order: of a struct, or of the variant of this number (of none where it has no such)
pub record AreTold (table : Table) (plan : Plan) (s : ℕ) (selected : Option ℕ) (fields : List FieldPlan) : Type 0 where
  pub each : (i : ℕ) → IsToldAt table plan s selected i (slice_get fields i)
  pub count : (n : ℕ) → IsFullAs (def_of table s) (as_fields selected) n → n ≡ length fields

-- What a hole takes.

-- the rules by which holes are filled
abbrev pub column_of : FillColumn → Column
column_of FillColumn.Strict = strict_column
column_of FillColumn.Deferred = deferred_column

-- what the hole of this field takes
abbrev pub field_fill : Column → Table → FieldRef → Option Val
field_fill column table meant = hole_takes column table meant.shape.0 (as_fields meant.variant) meant.index

-- there is the field of which the plan tells, and what is told of its hole in strict mode is so
pub record IsNamed (table : Table) (told : FieldPlan) : Type 0 where
  pub named : IsSome (field_at table told.field)
  pub fill : fill_told table told.fill_rule ≡ field_fill strict_column table told.field

-- a child's value, or what it takes where it isn't there
abbrev pub child_value : Column → Table → ℕ → Tracker → ℕ → (own : Option Val) → Option Val
child_value column table s tracker i own = option_or own (hole_takes column table s tracker i)

-- What is lacking.

-- of child i: a value, or that the value passes its field's validators
abbrev pub lack_of_child : Column → Meanings → Table → ℕ → Tracker → ℕ → (own : Option Val) → Option ReflectErrorKind
lack_of_child column means table s tracker i own =
    option_or (unless_there (child_value column table s tracker i own) (missing_child s tracker i))
    (failing_child means table s tracker i (child_value column table s tracker i own))

-- the first of these validators, in their order, that the value doesn't pass, as a refusal of this field
abbrev pub first_refused : Meanings → FieldRef → List PrecomputedValidator → Val → Option ReflectErrorKind
first_refused means field [] v = None
first_refused means field (validator ∷ validators) v =
    if passes_held means.check validator.kind v then first_refused means field validators v
    else Some (ReflectErrorKind.ValidationFailed field (message (validator_of validator.kind) v))

-- this is what is lacking; or a value fails, and there was no memory to say why
abbrev pub IsCauseOf : (lacking : Option ReflectErrorKind) → ReflectErrorKind → Type 0
IsCauseOf lacking kind = (lacking ≡ Some kind) ⊎ ((kind ≡ ReflectErrorKind.OutOfMemory) × IsSomeAnd lacking IsOfValidator)
