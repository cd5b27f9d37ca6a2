-- The text of a path.
use Rattle.std.specs.Prelude.{ℕ, Bool, true, false, List, [], ◌∷◌, ◌++◌, Option, Some, None, codes, decimal}
use Rattle.fr_shape.specs.declared.shape.ShapeId.{ShapeId}
use Rattle.fr_shape.specs.declared.shape.Field.{Field}
use Rattle.fr_shape.specs.Look.{Table, def_of, field_in}
use Rattle.fr_path.specs.declared.path_steps.PathStep.{PathStep}
use Rattle.fr_path.specs.StepShapes.{shape_after}

-- the field that a step means, where the place is known to be a struct that has it
abbrev pub field_meant : Table → (known : Option ShapeId) → ℕ → Option Field
field_meant table (Some place) i = field_in (def_of table place.0) None i
field_meant table None i = None

-- a field by its declared name, else by the step's number
abbrev pub name_or_number : Option Field → ℕ → List ℕ
name_or_number (Some field) i = field.name
name_or_number None i = decimal i

abbrev pub field_text : Table → (known : Option ShapeId) → ℕ → List ℕ
field_text table known i = name_or_number (field_meant table known i) i

-- a dot, but not in front of the whole path
abbrev pub dot : (first : Bool) → List ℕ
dot true = []
dot false = codes "."

-- the text of one step
abbrev pub step_text : Table → (known : Option ShapeId) → (first : Bool) → PathStep → List ℕ
step_text table known first (PathStep.Field i) = dot first ++ field_text table known i
step_text table known first (PathStep.Index i) = codes "[" ++ decimal i ++ codes "]"
step_text table known first PathStep.Deref = codes "::deref"
step_text table known first PathStep.Inner = codes "::inner"
step_text table known first PathStep.OptionSome = codes "::some"
step_text table known first PathStep.Proxy = codes "::proxy"
step_text table known first (PathStep.MapKey i) = codes "[key " ++ decimal i ++ codes "]"
step_text table known first (PathStep.MapValue i) = codes "[value " ++ decimal i ++ codes "]"
step_text table known first PathStep.ResultOk = codes "::ok"
step_text table known first PathStep.ResultErr = codes "::err"
step_text table known first PathStep.SetItem = codes "[item]"
step_text table known first (PathStep.Entry key) = codes "[" ++ key ++ codes "]"

-- what is known after a step; nothing is known again once it is lost
abbrev pub known_after : Table → (known : Option ShapeId) → PathStep → Option ShapeId
known_after table (Some place) step = shape_after table place step
known_after table None step = None

-- the steps' texts one behind the other
abbrev pub steps_text : Table → (known : Option ShapeId) → (first : Bool) → List PathStep → List ℕ
steps_text table known first [] = []
steps_text table known first (step ∷ steps) =
    step_text table known first step ++ steps_text table (known_after table known step) false steps

-- the text of a path from a root of this shape
abbrev pub path_text : Table → (root : ShapeId) → List PathStep → List ℕ
path_text table root steps = steps_text table (Some root) true steps
