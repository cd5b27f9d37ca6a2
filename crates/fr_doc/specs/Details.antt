-- The detail of an error: what its kind alone doesn't tell, in words.
use Rattle.std.specs.Prelude.{ℕ, List, [], ◌++◌, Option, Some, None, slice_get, codes}
use Rattle.fr_shape.specs.declared.error.Expected.{Expected}
use Rattle.fr_shape.specs.declared.error.Reason.{Reason}
use Rattle.fr_shape.specs.declared.error.ReflectErrorKind.{ReflectErrorKind}
use Rattle.fr_shape.specs.declared.error.TryFromFault.{TryFromFault}
use Rattle.fr_shape.specs.declared.shape.Field.{Field}
use Rattle.fr_shape.specs.declared.shape.FieldRef.{FieldRef}
use Rattle.fr_shape.specs.declared.shape.Shape.{Shape}
use Rattle.fr_shape.specs.Look.{Table, field_at}
use Rattle.fr_shape.specs.Texts.{plan_fault_text, init_call_text, invariant_text, operation_text}

-- the name of a shape; empty where the table has none of that number
abbrev pub shape_name : Option Shape → List ℕ
shape_name (Some shape) = shape.name
shape_name None = []

abbrev pub name_in : Table → ℕ → List ℕ
name_in table id = shape_name (slice_get table id)

-- the name that a field is declared under; empty where the table has no such field
abbrev pub field_name : Option Field → List ℕ
field_name (Some field) = field.name
field_name None = []

abbrev pub field_name_in : Table → FieldRef → List ℕ
field_name_in table meant = field_name (field_at table meant)

abbrev pub expected_name : Expected → List ℕ
expected_name Expected.Enum = codes "enum"
expected_name Expected.Option = codes "Option"
expected_name Expected.Result = codes "Result"

abbrev pub reason_text : Reason → List ℕ
reason_text Reason.NoSuchField = codes "no such field"
reason_text Reason.NotAProduct = codes "not a struct, enum, option or result"

-- the message of a failed conversion; there is none where such a source isn't taken
abbrev pub conversion_message : TryFromFault → List ℕ
conversion_message TryFromFault.UnsupportedSourceType = []
conversion_message (TryFromFault.Generic message) = message

-- what was asked for, and what there is
abbrev pub expected_and_actual : List ℕ → List ℕ → List ℕ
expected_and_actual expected actual = codes "expected " ++ (expected ++ (codes ", got " ++ actual))

abbrev pub detail_text : Table → ReflectErrorKind → List ℕ
detail_text table (ReflectErrorKind.Alloc error) = plan_fault_text error.operation
detail_text table (ReflectErrorKind.WasNotA expected actual) =
    expected_and_actual (expected_name expected) (name_in table actual.0)
detail_text table (ReflectErrorKind.OperationFailed shape operation) = operation_text operation
detail_text table (ReflectErrorKind.UnexpectedTracker call current) = init_call_text call
detail_text table (ReflectErrorKind.WrongShape expected actual) =
    expected_and_actual (name_in table expected.0) (name_in table actual.0)
detail_text table (ReflectErrorKind.FieldError shape) = codes "no such field"
detail_text table (ReflectErrorKind.UninitializedField field) = field_name_in table field
detail_text table (ReflectErrorKind.UninitializedValue shape) = name_in table shape.0
detail_text table (ReflectErrorKind.DefaultAttrButNoDefaultImpl shape) = name_in table shape.0
detail_text table (ReflectErrorKind.ValidationFailed field message) = message
detail_text table (ReflectErrorKind.CustomDeserializationError message source target) = message
detail_text table (ReflectErrorKind.TryFromError source target fault) = conversion_message fault
detail_text table (ReflectErrorKind.ParseFailed shape) = name_in table shape.0
detail_text table (ReflectErrorKind.InvariantViolation invariant) = invariant_text invariant
detail_text table (ReflectErrorKind.InvalidOperation reason) = reason_text reason
detail_text table ReflectErrorKind.OutOfMemory = codes "out of memory"
