-- When a plan is refused, and with what.
use Rattle.std.specs.Prelude.{◌≡◌, ◌↔◌, Option, Some, None, Ok, Err}
use Rattle.fr_shape.specs.declared.shape.ShapeId.{ShapeId}
use Rattle.fr_shape.specs.declared.error.AllocError.{AllocError}
use Rattle.fr_shape.specs.Checked.{IsChecked}
use Rattle.fr_shape.specs.Look.{Table, IsIn}
use Rattle.fr_shape.specs.Plannable.{IsPlannable, first_refusal}
use Rattle.fr_plan.specs.Build.{Built, Made, planned}

-- with what it was refused, where it was
abbrev pub refusal_in : Built Made → Option AllocError
refusal_in (Ok made) = None
refusal_in (Err refused) = Some refused

-- what is planned of a root is refused with the root's first refusal, and with none where there is none
abbrev pub RefusesFirst : Type 0
RefusesFirst = (table : Table) (root : ShapeId) → refusal_in (planned table root) ≡ first_refusal table root.0

-- over a checked table, a root in range has no first refusal exactly where no shape that it reaches is refused
abbrev pub PlansPlannable : Type 0
PlansPlannable =
    (table : Table) (root : ShapeId) → IsChecked table → IsIn table root.0
    → (first_refusal table root.0 ≡ None) ↔ IsPlannable table root.0
