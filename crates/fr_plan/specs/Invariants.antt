-- Whether the root of a plan reaches a shape with an invariant.
use Rattle.std.specs.Prelude.{◌≡◌, ℕ, Bool, true, false, List, slice_get, Some, is_some}
use Rattle.std.specs.List.{list_any}
use Rattle.std.specs.Option.{option_map_or}
use Rattle.fr_shape.specs.declared.shape.Shape.{Shape}
use Rattle.fr_shape.specs.Look.{Table}
use Rattle.fr_shape.specs.Plannable.{Reached}
use Rattle.fr_plan.specs.declared.outlines.Outline.{Outline}

-- the shape of a node has an invariant
abbrev pub has_invariant : Table → Outline → Bool
has_invariant table outline =
    option_map_or (λ (shape : Shape). is_some shape.invariant) (slice_get table outline.shape.0) false

-- that of any of these nodes has one
abbrev pub have_invariants : Table → List Outline → Bool
have_invariants table outlines = list_any (has_invariant table) outlines

-- a shape that the root reaches has an invariant
pub record HasInvariant (table : Table) (root : ℕ) : Type 0 where
  pub id : ℕ
  pub shape : Shape
  pub reached : Reached table root id
  pub here : slice_get table id ≡ Some shape
  pub has : is_some shape.invariant ≡ true
