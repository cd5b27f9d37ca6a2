-- What a field of a place is set to by its default, and why it can't be.
use Rattle.std.specs.Prelude.{ℕ, Option, Some, None, Result, Err}
use Rattle.fr_shape.specs.declared.error.Operation.{Operation}
use Rattle.fr_shape.specs.declared.error.ReflectErrorKind.{ReflectErrorKind}
use Rattle.fr_shape.specs.declared.shape.Field.{Field}
use Rattle.fr_shape.specs.Look.{Table, def_of, field_in}
use Rattle.fr_shape.specs.Val.{Val}
use Rattle.fr_model.specs.Step.{at_shape, field_default, named_refusal, operation_failed}
use Rattle.fr_model.specs.Tree.{Tree, selected}

abbrev pub default_of : Table → (s : ℕ) → Option ReflectErrorKind → Option Field → Result Val ReflectErrorKind
default_of table s (Some kind) field = Err kind
default_of table s None (Some field) = field_default table field
default_of table s None None = Err (operation_failed s Operation.FieldIndexOutOfBounds)

-- the default of field i of a place of shape s at which this stands: of a struct or of the variant that is selected
abbrev pub default_in : Table → (s : ℕ) → Tree → ℕ → Result Val ReflectErrorKind
default_in table s tree i =
    default_of table s (at_shape s (named_refusal (def_of table s) tree)) (field_in (def_of table s) (selected tree) i)
