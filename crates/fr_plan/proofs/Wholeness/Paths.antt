-- Each path from a plan's root leads to a node of the shape that the table gives for it.
use Rattle.std.proofs.Common.{◌≡◌, ◌∙◌, ap, sym, refl, subst, ℕ, suc, zero, List, [], ◌∷◌, slice_get, Option, Some, None}
use Rattle.std.specs.List.{AllZip}
use Rattle.std.specs.Option.{option_map, option_and_then}
use Rattle.std.proofs.lemmas.Option.{none-some, same_Some}
use Rattle.fr_shape.specs.declared.shape.Shape.{Shape}
use Rattle.fr_shape.specs.declared.shape.ShapeId.{ShapeId}
use Rattle.fr_shape.specs.Look.{Table}
use Rattle.fr_shape.specs.Plannable.{children_of}
use Rattle.fr_plan.specs.declared.nodes.NodeId.{NodeId}
use Rattle.fr_plan.specs.declared.nodes.TypePlanNode.{TypePlanNode}
use Rattle.fr_plan.specs.declared.outlines.Outline.{Outline}
use Rattle.fr_plan.specs.declared.outlines.Mark.{Mark}
use Rattle.fr_plan.specs.Lookups.{node_at, finished, own_outline, child_at}
use Rattle.fr_plan.specs.Nodes.{IsNode}
use Rattle.fr_plan.specs.PathLaws.{child_shape, shape_along, node_along, PathsAgree}
use Rattle.fr_plan.specs.PlanLaws.{IsNodeOf, HasOwn, IsLinked, IsComplete}
use Rattle.fr_plan.specs.TypePlan.{Plan, IsPlanOf}
use Rattle.fr_plan.proofs.Wholeness.Reaching.{children_are_nodes}
use Rattle.fr_plan.proofs.Wholeness.Whole.{plans_are_complete}

-- lists place by place

module _ {A B : Type 0} (R : A → B → Type 0) where
  pub zip_get : (xs : List A) (ys : List B) (i : ℕ) (x : A) → AllZip R xs ys → slice_get xs i ≡ Some x
      → (y : B) × (slice_get ys i ≡ Some y) × R x y
  zip_get [] ys i x all at = absurd (none-some x at)
  zip_get (a ∷ xs) [] i x all at = absurd all
  zip_get (a ∷ xs) (b ∷ ys) zero x all at =
      let P : A → Type 0 = λ v. R v b in (b, refl, subst P (same_Some a x at) all.0)
  zip_get (a ∷ xs) (b ∷ ys) (suc i) x all at = zip_get xs ys i x all.1 at

  pub zip_none : (xs : List A) (ys : List B) (i : ℕ) → AllZip R xs ys → slice_get xs i ≡ None → slice_get ys i ≡ None
  zip_none [] [] i all at = refl
  zip_none [] (b ∷ ys) i all at = absurd all
  zip_none (a ∷ xs) [] i all at = absurd all
  zip_none (a ∷ xs) (b ∷ ys) zero all at = absurd (none-some a (sym at))
  zip_none (a ∷ xs) (b ∷ ys) (suc i) all at = zip_none xs ys i all.1 at

abbrev shape_of : TypePlanNode → ShapeId
shape_of node = node.shape

module _ (table : Table) (root : ShapeId) (plan : Plan) (is_plan : IsPlanOf table root plan)
    (complete : IsComplete table root (record { walk = plan.walk; node = plan.root })) where
  -- a node that was built is told
  pub told_at : (id : NodeId) (shape : ShapeId) → IsNodeOf plan.walk.nodes id shape
      → (node : TypePlanNode) × (node_at plan id ≡ Some node) × (node.shape ≡ shape)
  told_at id shape is =
      let told = zip_get (IsNode table plan.lists) plan.walk.nodes plan.nodes id.0 is.outline is_plan.told is.here in
      (told.0, told.1, told.2.shape ∙ is.shape)

  -- a shape that has a node has its own
  pub own_of : (id : NodeId) (shape : ShapeId) → IsNodeOf plan.walk.nodes id shape → HasOwn plan.walk shape
  own_of id shape is =
      let P : ShapeId → Type 0 = λ s. HasOwn plan.walk s in
      subst P is.shape (complete.nodes id.0 is.outline is.here).resolved

  module _ (shape : ShapeId) (own : HasOwn plan.walk shape) where
    pub linked : IsLinked table plan.walk.nodes own.own.outline
    linked = (complete.nodes own.node.0 own.own.outline own.own.here).linked own.own.role

    pub linked_here : slice_get table shape.0 ≡ Some linked.shape
    linked_here =
        let P : ShapeId → Type 0 = λ s. slice_get table s.0 ≡ Some linked.shape in subst P own.own.shape linked.here

    pub own_outline_is : own_outline plan shape ≡ Some own.own.outline
    own_outline_is =
        ap (λ (mark : Option Mark). option_and_then (λ (id : NodeId). slice_get plan.walk.nodes id.0) (finished mark)) own.mark
        ∙ own.own.here

    child_at_is : (i : ℕ) → child_at plan shape i ≡ slice_get own.own.outline.children i
    child_at_is i =
        ap (λ (found : Option Outline). option_and_then (λ (outline : Outline). slice_get outline.children i) found)
        own_outline_is

    child_shape_is : (i : ℕ) → child_shape table shape i ≡ slice_get (children_of linked.shape) i
    child_shape_is i =
        ap (λ (found : Option Shape). option_and_then (λ (s : Shape). slice_get (children_of s) i) found) linked_here

    children : AllZip (IsNodeOf plan.walk.nodes) own.own.outline.children (children_of linked.shape)
    children =
        children_are_nodes plan.walk.nodes own.own.outline.shape linked.shape linked.shape.def own.own.outline.children
        linked.children

    -- a shape's child is a node of the child's shape
    pub child_is : (i : ℕ) (next : NodeId) → child_at plan shape i ≡ Some next
        → (id : ShapeId) × (child_shape table shape i ≡ Some id) × IsNodeOf plan.walk.nodes next id
    child_is i next at =
        let found =
        zip_get (IsNodeOf plan.walk.nodes) own.own.outline.children (children_of linked.shape) i next children
        (sym (child_at_is i) ∙ at) in
        (found.0, child_shape_is i ∙ found.1, found.2)

    pub child_none : (i : ℕ) → child_at plan shape i ≡ None → child_shape table shape i ≡ None
    child_none i at =
        child_shape_is i
        ∙ zip_none (IsNodeOf plan.walk.nodes) own.own.outline.children (children_of linked.shape) i children
        (sym (child_at_is i) ∙ at)

  abbrev AgreesAlong : List ℕ → Type 0
  AgreesAlong path =
      (id : NodeId) (shape : ShapeId) → IsNodeOf plan.walk.nodes id shape
      → option_map shape_of (node_along plan id path) ≡ shape_along table shape path

  step_agrees : (i : ℕ) (path : List ℕ) (shape : ShapeId) → HasOwn plan.walk shape → AgreesAlong path
      → (found : Option NodeId) → child_at plan shape i ≡ found
      → option_map shape_of (option_and_then (λ (next : NodeId). node_along plan next path) found)
      ≡ shape_along table shape (i ∷ path)
  step_agrees i path shape own rest None none =
      sym (ap (λ (found : Option ShapeId). option_and_then (λ (next : ShapeId). shape_along table next path) found)
      (child_none shape own i none))
  step_agrees i path shape own rest (Some next) some =
      let child = child_is shape own i next some in
      rest next child.0 child.2
      ∙ sym (ap (λ (found : Option ShapeId). option_and_then (λ (next : ShapeId). shape_along table next path) found) child.1)

  along : (path : List ℕ) → AgreesAlong path
  along [] id shape is =
      let told = told_at id shape is in ap (option_map shape_of) told.1 ∙ ap (λ (s : ShapeId). Some s) told.2
  along (i ∷ path) id shape is =
      let told = told_at id shape is in
      let steps : ShapeId → Option TypePlanNode =
      λ s. option_and_then (λ (next : NodeId). node_along plan next path) (child_at plan s i) in
      ap (λ (found : Option TypePlanNode).
      option_map shape_of (option_and_then (λ (node : TypePlanNode). steps node.shape) found)) told.1
      ∙ ap (λ (s : ShapeId). option_map shape_of (steps s)) told.2
      ∙ step_agrees i path shape (own_of id shape is) (along path) (child_at plan shape i) refl

  pub paths_agree_in : (path : List ℕ)
      → option_map shape_of (node_along plan plan.root path) ≡ shape_along table root path
  paths_agree_in path =
      let own = complete.done root plan.root complete.root_mark in
      along path plan.root root (record { outline = own.outline; here = own.here; shape = own.shape })

pub paths_agree : PathsAgree
paths_agree table root plan path checked inside is =
    paths_agree_in table root plan is
    (plans_are_complete table root (record { walk = plan.walk; node = plan.root }) checked inside is.built) path
