-- How many nodes a plan has at most.
use Rattle.std.specs.Prelude.{◌≡◌, ℕ, ◌+◌, ◌≤◌, Bool, false, not, List, length, slice_get, Option, Some, None, Ok, sum_by, count_by}
use Rattle.std.specs.List.{Contains, list_any}
use Rattle.fr_shape.specs.declared.shape.Shape.{Shape}
use Rattle.fr_shape.specs.declared.shape.ShapeId.{ShapeId}
use Rattle.fr_shape.specs.declared.shape.Field.{Field}
use Rattle.fr_shape.specs.Checked.{IsChecked, fields_of}
use Rattle.fr_shape.specs.Lists.{is_nil}
use Rattle.fr_shape.specs.Look.{Table, IsIn, def_of}
use Rattle.fr_shape.specs.Plannable.{Reached, leads_to, field_sources}
use Rattle.fr_plan.specs.Build.{Made, planned}

-- the field has proxies
abbrev pub is_proxied : Field → Bool
is_proxied field = not (is_nil (field_sources field))

-- a shape, and each of its references to another: children, and sources of proxies
abbrev pub with_references : Option Shape → ℕ
with_references (Some shape) = 1 + length (leads_to shape)
with_references None = 0

-- these shapes and their references together
abbrev pub shapes_and_references : Table → List ℕ → ℕ
shapes_and_references table ids = sum_by (λ (id : ℕ). with_references (slice_get table id)) ids

-- the fields of these shapes that have proxies
abbrev pub proxied_fields : Table → List ℕ → ℕ
proxied_fields table ids = sum_by (λ (id : ℕ). count_by is_proxied (fields_of (def_of table id))) ids

-- the list has every shape that the root reaches
abbrev pub HasReached : Table → ℕ → List ℕ → Type 0
HasReached table root ids = (id : ℕ) → Reached table root id → Contains ids id

-- no field of a shape that the root reaches has proxies
abbrev pub HasNoFieldProxy : Table → ℕ → Type 0
HasNoFieldProxy table root =
    (id : ℕ) (shape : Shape) → Reached table root id → slice_get table id ≡ Some shape
    → list_any is_proxied (fields_of shape.def) ≡ false

-- over a checked table a plan has at most as many nodes as reachable shapes, their references, and their fields with proxies
-- together
abbrev pub PlansAreSmall : Type 0
PlansAreSmall =
    (table : Table) (root : ShapeId) (made : Made) (reached : List ℕ) → IsChecked table → IsIn table root.0
    → planned table root ≡ Ok made → HasReached table root.0 reached
    → length made.walk.nodes ≤ shapes_and_references table reached + proxied_fields table reached

-- one without field proxies has at most as many nodes as reachable shapes and references together
abbrev pub PlainPlansAreSmall : Type 0
PlainPlansAreSmall =
    (table : Table) (root : ShapeId) (made : Made) (reached : List ℕ) → IsChecked table → IsIn table root.0
    → planned table root ≡ Ok made → HasNoFieldProxy table root.0 → HasReached table root.0 reached
    → length made.walk.nodes ≤ shapes_and_references table reached
