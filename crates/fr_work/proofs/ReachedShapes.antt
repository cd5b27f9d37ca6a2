-- The shape of each node of a plan is one that the root reaches.
use Rattle.std.proofs.Common.{◌≡◌, ℕ, zero, suc, List, [], ◌∷◌, Some, slice_get, refl, sym, ◌∙◌, ap, subst}
use Rattle.std.specs.List.{AllZip}
use Rattle.fr_work.specs.Common.{IsChecked, IsIn, IsOfShape, IsPlanOf, NodeId, Plan, ShapeId, Table}
use Rattle.fr_shape.specs.Plannable.{Reached}
use Rattle.fr_plan.specs.declared.outlines.Outline.{Outline}
use Rattle.fr_plan.specs.Nodes.{IsNode}
use Rattle.fr_plan.specs.PlanLaws.{PlansAreComplete}

-- what stands beside the element of this number
pub record Beside {A B : Type 0} (R : A → B → Type 0) (xs : List A) (i : ℕ) (y : B) : Type 0 where
  pub other : A
  pub there : slice_get xs i ≡ Some other
  pub holds : R other y

pub beside : {A B : Type 0} (R : A → B → Type 0) (xs : List A) (ys : List B) (i : ℕ) (y : B) → AllZip R xs ys
    → slice_get ys i ≡ Some y → Beside R xs i y
beside R [] [] i y all is = cc
beside R [] (z ∷ ys) i y all is = absurd all
beside R (x ∷ xs) [] i y all is = absurd all
beside R (x ∷ xs) (z ∷ ys) zero y all is =
    let same : z ≡ y = cc in
    record { other = x; there = refl; holds = subst (R x) same all.0 }
beside R (x ∷ xs) (z ∷ ys) (suc i) y all is =
    let rest = beside R xs ys i y all.1 is in
    record { other = rest.other; there = rest.there; holds = rest.holds }

-- the shape of a node of a plan is reached
pub node_reached : PlansAreComplete → (table : Table) (root : ShapeId) (plan : Plan) → IsChecked table → IsIn table root.0
    → IsPlanOf table root plan → (node : NodeId) (s : ℕ) → IsOfShape plan node s → Reached table root.0 s
node_reached complete table root plan checked inside planned node s shaped =
    let made = beside (IsNode table plan.lists) plan.walk.nodes plan.nodes node.0 shaped.found planned.told shaped.there in
    let whole = (complete table root (record { walk = plan.walk; node = plan.root }) checked inside planned.built).nodes node.0
    made.other made.there in
    subst (Reached table root.0) (sym_shape made.other made.holds) whole.reached
  where
    sym_shape : (outline : Outline) → IsNode table plan.lists outline shaped.found → outline.shape.0 ≡ s
    sym_shape outline is = ap (λ (id : ShapeId). id.0) (sym is.shape) ∙ shaped.shape
