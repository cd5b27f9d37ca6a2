-- The script that `gen N` runs: N changes of one grid of eight cells, and then a last change of each cell.
use Rattle.std.specs.Prelude.{ℕ, zero, suc, ◌+◌, ◌-◌, ◌*◌, ◌/◌, ◌%◌, ◌^◌, ◌==◌, ◌&&◌, List, [], ◌∷◌, ◌++◌, Some, codes, if◌then◌else◌}
use Rattle.fr_shape.specs.declared.shape.Def.{Def}
use Rattle.fr_shape.specs.declared.shape.DefaultSource.{DefaultSource}
use Rattle.fr_shape.specs.declared.shape.Field.{Field}
use Rattle.fr_shape.specs.declared.shape.ScalarKind.{ScalarKind}
use Rattle.fr_shape.specs.declared.shape.Shape.{Shape}
use Rattle.fr_shape.specs.declared.shape.StructKind.{StructKind}
use Rattle.fr_shape.specs.Look.{Table}
use Rattle.fr_shape.specs.Plain.{plain_field, plain_shape}
use Rattle.fr_shape.specs.Val.{Val, nat, token, product, no_vals, first}
use Rattle.fr_model.specs.Commands.{Call}

-- The table

-- numbers, of which the default is 0
abbrev pub number_shape : Shape
number_shape = record (plain_shape (codes "u32") (Def.Scalar ScalarKind.U32)) { preset = Some (nat 0) }

abbrev pub token_shape : Shape
token_shape = plain_shape (codes "Res") Def.Opaque

-- a field for a number, which is 0 where it is left unset
abbrev pub number_field : (name : List ℕ) → Field
number_field name = record (plain_field name 0) { default = Some DefaultSource.FromTrait }

-- a cell: the numbers x and y, and the token r
abbrev pub cell_shape : Shape
cell_shape =
    plain_shape (codes "Cell") (Def.Struct (record {
      kind = StructKind.Struct;
      fields = number_field (codes "x") ∷ number_field (codes "y") ∷ plain_field (codes "r") 1 ∷ [];
    }))

abbrev pub cell_field : (name : List ℕ) → Field
cell_field name = plain_field name 2

-- a grid: the cells c0 to c7
abbrev pub grid_shape : Shape
grid_shape =
    plain_shape (codes "Grid") (Def.Struct (record {
      kind = StructKind.Struct;
      fields =
          cell_field (codes "c0") ∷ cell_field (codes "c1") ∷ cell_field (codes "c2") ∷ cell_field (codes "c3")
          ∷ cell_field (codes "c4") ∷ cell_field (codes "c5") ∷ cell_field (codes "c6") ∷ cell_field (codes "c7") ∷ [];
    }))

abbrev pub grid_table : Table
grid_table = number_shape ∷ token_shape ∷ cell_shape ∷ grid_shape ∷ []

-- the number of the grid's shape
abbrev pub grid : ℕ
grid = 3

-- The generator

abbrev pub next_state : ℕ → ℕ
next_state state = (state * 6364136223846793005 + 1442695040888963407) % 2 ^ 64

-- the state of a step: 0 before the first step, and each further one by what stood before
abbrev pub state_of : (step : ℕ) → ℕ
state_of zero = 0
state_of (suc step) = next_state (state_of step)

-- the cell that a step changes, and the field of it
abbrev pub cell_in : (state : ℕ) → ℕ
cell_in state = state / 2 ^ 33 % 8

abbrev pub field_in : (state : ℕ) → ℕ
field_in state = state / 2 ^ 36 % 3

abbrev pub cell_of : (step : ℕ) → ℕ
cell_of step = cell_in (state_of step)

abbrev pub field_of : (step : ℕ) → ℕ
field_of step = field_in (state_of step)

-- The script

-- what a step sets a field to: x or y to the step's number, and r to the token before it, as steps are counted from 1
abbrev pub put_in : (field step : ℕ) → Call
put_in field step = if field == 2 then Call.Set 1 (token (step - 1)) else Call.Set 0 (nat step)

-- a field of a cell is entered, set and left, and the cell is left
abbrev pub change : (cell field : ℕ) → Call → List Call
change cell field put =
    Call.BeginNthField cell ∷ Call.BeginNthField field ∷ put ∷ Call.End ∷ Call.End ∷ []

abbrev pub step_calls : (step : ℕ) → List Call
step_calls step = change (cell_of step) (field_of step) (put_in (field_of step) step)

-- the commands of the first so many steps
abbrev pub steps : ℕ → List Call
steps zero = []
steps (suc count) = steps count ++ step_calls (suc count)

-- the last changes of the first so many cells: each cell's r is set to a token that no step has set
abbrev pub last_changes : (steps cells : ℕ) → List Call
last_changes steps zero = []
last_changes steps (suc cell) = last_changes steps cell ++ change cell 2 (Call.Set 1 (token (steps + cell)))

-- the whole script, in deferred mode
abbrev pub generated : (count : ℕ) → List Call
generated count =
    Call.BeginDeferred ∷ (steps count ++ (last_changes count 8 ++ Call.FinishDeferred ∷ []))

-- The value

-- the last of the first so many steps that set this field of this cell, and 0 where none did
abbrev pub latest : (cell field : ℕ) → (count : ℕ) → ℕ
latest cell field zero = 0
latest cell field (suc step) =
    if (cell_of (suc step) == cell) && (field_of (suc step) == field) then suc step else latest cell field step

abbrev pub cell_value : (x y : ℕ) → (r : Val) → Val
cell_value x y r = product (first (nat x) (first (nat y) (first r no_vals)))

-- x and y of a cell are the last numbers that were put there, and r is the cell's own last token
abbrev pub value_of_cell : (count cell : ℕ) → Val
value_of_cell count cell = cell_value (latest cell 0 count) (latest cell 1 count) (token (count + cell))

abbrev pub grid_value : (count : ℕ) → Val
grid_value count =
    product (first (value_of_cell count 0) (first (value_of_cell count 1) (first (value_of_cell count 2)
    (first (value_of_cell count 3) (first (value_of_cell count 4) (first (value_of_cell count 5)
    (first (value_of_cell count 6) (first (value_of_cell count 7) no_vals))))))))
