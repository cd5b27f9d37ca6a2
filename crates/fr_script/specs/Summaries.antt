-- What is printed of the run of a generated script: one JSON object as compact text, its keys in byte order, and a line feed.
use Rattle.std.specs.Prelude.{◌≡◌, ◌≤◌, ℕ, ◌+◌, ◌-◌, List, [], ◌∷◌, length, true, codes, Some, Option}
use Rattle.std.specs.Option.{option_map_or}
use Rattle.serde_json.specs.Data.{Data, boolean, object, no_members, member}
use Rattle.fr_shape.specs.Val.{Val, Vals, nat, product, no_vals, first}
use Rattle.fr_doc.specs.Printed.{natural}
use Rattle.fr_model.specs.Commands.{Call}
use Rattle.fr_model.specs.Journal.{journal_run}
use Rattle.fr_model.specs.Scripts.{tokens_of}
use Rattle.fr_script.specs.Generator.{grid, grid_table, generated}
use Rattle.fr_script.specs.Reports.{line_of}
use Rattle.fr_script.specs.declared.generating.TheConstants.{STEP_LIMIT}

-- the number that a value is, and 0 for any other
abbrev pub natural_in : Val → ℕ
natural_in (nat n) = n
natural_in _ = 0

abbrev pub numbers_in : Vals → ℕ
numbers_in no_vals = 0
numbers_in (first v vs) = natural_in v + numbers_in vs

-- the sum of x and y of a cell, which are the numbers among its parts
abbrev pub sum_of_cell : Val → ℕ
sum_of_cell (product parts) = numbers_in parts
sum_of_cell _ = 0

abbrev pub sum_of_cells : Vals → ℕ
sum_of_cells no_vals = 0
sum_of_cells (first cell cells) = sum_of_cell cell + sum_of_cells cells

-- the sum of all x and y of a grid
abbrev pub sum_of_grid : Val → ℕ
sum_of_grid (product cells) = sum_of_cells cells
sum_of_grid _ = 0

-- how many tokens a script brings
abbrev pub tokens_in : List Call → ℕ
tokens_in [] = 0
tokens_in (command ∷ commands) = length (tokens_of command) + tokens_in commands

-- what the journal of the script of so many steps completes to
abbrev pub made_by : (count : ℕ) → Option Val
made_by count = journal_run grid_table grid (generated count)

abbrev pub summary_data : (commands released sum : ℕ) → Data
summary_data commands released sum =
    object
    (member (codes "commands") (natural commands)
    (member (codes "ok") (boolean true)
    (member (codes "released") (natural released) (member (codes "sum") (natural sum) no_members))))

-- The summary of the script of so many steps: how many commands it has; that it makes a value; how many tokens are released, which
-- are all but the eight that the value holds; and the sum of all x and y of the value.
abbrev pub summary_of : (count : ℕ) → List ℕ
summary_of count =
    line_of (summary_data (length (generated count)) (tokens_in (generated count) - 8) (option_map_or sum_of_grid (made_by count) 0))

-- the script of any number of steps makes a value
abbrev pub GeneratedMakesAValue : Type 0
GeneratedMakesAValue = (count : ℕ) → (v : Val) × (made_by count ≡ Some v)
