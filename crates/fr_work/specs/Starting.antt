-- When there is a builder, and which plans it goes by.
use Rattle.std.specs.Prelude.{◌≡◌, Option, Some, None, Result, Ok, Err, ⊤}
use Rattle.fr_shape.specs.declared.error.AllocError.{AllocError}
use Rattle.fr_shape.specs.declared.error.PlanError.{PlanError}
use Rattle.fr_shape.specs.declared.shape.ShapeId.{ShapeId}
use Rattle.fr_shape.specs.Look.{Table, IsIn}
use Rattle.fr_plan.specs.TypePlan.{Plan, IsPlanOf}

-- a plan of a shape of this table, its root
pub record IsPlanFrom (table : Table) (plan : Plan) : Type 0 where
  pub root : ShapeId
  pub inside : IsIn table root.0
  pub planned : IsPlanOf table root plan

-- there is no refusal, or it is this one. Out of memory nothing is said.
abbrev pub RefusedWith : {A : Type 0} → (refusal : Option AllocError) → Result A PlanError → Type 0
RefusedWith refusal (Ok made) = refusal ≡ None
RefusedWith refusal (Err (PlanError.Alloc error)) = refusal ≡ Some error
RefusedWith refusal (Err PlanError.OutOfMemory) = ⊤
