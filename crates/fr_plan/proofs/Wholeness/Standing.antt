-- What a node of a plan stands for: a node of the same shape that doesn't refer back.
use Rattle.std.proofs.Common.{◌≡◌, ◌≢◌, ◌∙◌, ap, sym, refl, subst, ℕ, suc, zero, List, [], ◌∷◌, slice_get, unwrap_or, Option, Some}
use Rattle.std.specs.List.{AllZip}
use Rattle.std.specs.Option.{option_map}
use Rattle.std.proofs.lemmas.Option.{none-some, same_Some}
use Rattle.fr_shape.specs.declared.shape.Shape.{Shape}
use Rattle.fr_shape.specs.declared.shape.ShapeId.{ShapeId}
use Rattle.fr_shape.specs.Look.{Table}
use Rattle.fr_plan.specs.declared.nodes.NodeId.{NodeId}
use Rattle.fr_plan.specs.declared.nodes.TypePlanNode.{TypePlanNode}
use Rattle.fr_plan.specs.declared.nodes.TypePlanNodeKind.{TypePlanNodeKind}
use Rattle.fr_plan.specs.declared.outlines.Outline.{Outline}
use Rattle.fr_plan.specs.declared.outlines.Role.{Role}
use Rattle.fr_plan.specs.declared.outlines.Mark.{Mark}
use Rattle.fr_plan.specs.LookupLaws.{StandsFor, BackReferencesResolve}
use Rattle.fr_plan.specs.Lookups.{node_at, node_found, finished, own_id, own_node, resolved_by, resolved, resolved_id_by, resolved_id}
use Rattle.fr_plan.specs.Nodes.{IsNode, IsKindOf, IsOwnKind, IsKindBy}
use Rattle.fr_plan.specs.PlanLaws.{HasOwn, IsLinked, IsComplete}
use Rattle.fr_plan.specs.TypePlan.{Plan, IsPlanOf}
use Rattle.fr_plan.proofs.Wholeness.Paths.{zip_get, own_of, linked}
use Rattle.fr_plan.proofs.Wholeness.Sorts.{a_reference, sort_of_kind, sort_of, sorts_agree, no_reference}
use Rattle.fr_plan.proofs.Wholeness.Whole.{plans_are_complete}

pub zip_get_right : {A B : Type 0} (R : A → B → Type 0) (xs : List A) (ys : List B) (i : ℕ) (y : B) → AllZip R xs ys
    → slice_get ys i ≡ Some y → (x : A) × (slice_get xs i ≡ Some x) × R x y
zip_get_right R xs [] i y all at = absurd (none-some y at)
zip_get_right R [] (b ∷ ys) i y all at = absurd all
zip_get_right {A} {B} R (a ∷ xs) (b ∷ ys) zero y all at =
    let P : B → Type 0 = λ v. R a v in (a, refl, subst P (same_Some b y at) all.0)
zip_get_right R (a ∷ xs) (b ∷ ys) (suc i) y all at = zip_get_right R xs ys i y all.1 at

resolves_itself : (is : TypePlanNodeKind) → sort_of_kind is ≢ a_reference → (own : ShapeId → Option TypePlanNode)
    (node : TypePlanNode) → resolved_by is own node ≡ node
resolves_itself (TypePlanNodeKind.BackRef shape) apart own node = absurd (apart refl)
resolves_itself is apart own node = refl

resolves_id_itself : (is : TypePlanNodeKind) → sort_of_kind is ≢ a_reference → (own : ShapeId → Option NodeId) (id : NodeId)
    → resolved_id_by (Some is) own id ≡ id
resolves_id_itself (TypePlanNodeKind.BackRef shape) apart own id = absurd (apart refl)
resolves_id_itself is apart own id = refl

abbrev kind_of : TypePlanNode → TypePlanNodeKind
kind_of node = node.kind

module _ (table : Table) (root : ShapeId) (plan : Plan) (is_plan : IsPlanOf table root plan)
    (complete : IsComplete table root (record { walk = plan.walk; node = plan.root })) where
  -- what a node stands for, with its outline
  pub record Standing (id : NodeId) (node : TypePlanNode) : Type 0 where
    pub outline : Outline
    pub linked_as : IsLinked table plan.walk.nodes outline
    pub shape : outline.shape ≡ node.shape
    pub kind :
        IsKindBy table plan.lists outline.shape outline.children linked_as.shape linked_as.shape.def (resolved plan node).kind
    pub same : (resolved plan node).shape ≡ node.shape
    pub there : node_at plan (resolved_id plan id) ≡ Some (resolved plan node)
    pub own : HasOwn plan.walk node.shape

  kind_of_own : (outline : Outline) (node : TypePlanNode) → IsNode table plan.lists outline node → outline.role ≡ Role.Own
      → (links : IsLinked table plan.walk.nodes outline)
      → IsKindBy table plan.lists outline.shape outline.children links.shape links.shape.def node.kind
  kind_of_own outline node is role links =
      let P : Role → Type 0 = λ r. IsKindOf table plan.lists outline r node.kind in
      let Q : Option Shape → Type 0 = λ s. IsOwnKind table plan.lists outline.shape outline.children s node.kind in
      subst Q links.here (subst P role is.kind)

  module _ (id : NodeId) (node : TypePlanNode) (at : node_at plan id ≡ Some node) (outline : Outline)
      (here : slice_get plan.walk.nodes id.0 ≡ Some outline) (is : IsNode table plan.lists outline node) where
    own_here : HasOwn plan.walk node.shape
    own_here = own_of table root plan is_plan complete id node.shape (record { outline = outline; here = here; shape = sym is.shape })

    stands_itself : outline.role ≡ Role.Own → Standing id node
    stands_itself role =
        let links : IsLinked table plan.walk.nodes outline = (complete.nodes id.0 outline here).linked role in
        let told = kind_of_own outline node is role links in
        let apart : sort_of_kind node.kind ≢ a_reference =
        λ same.
        no_reference table plan.lists outline.shape outline.children links.shape links.shape.def
        (sym (sorts_agree table plan.lists outline.shape outline.children links.shape links.shape.def node.kind told) ∙ same) in
        let itself : resolved plan node ≡ node = resolves_itself node.kind apart (own_node plan) node in
        let number : resolved_id plan id ≡ id =
        ap (λ (found : Option TypePlanNode). resolved_id_by (option_map kind_of found) (own_id plan) id) at
        ∙ resolves_id_itself node.kind apart (own_id plan) id in
        let P : TypePlanNode → Type 0 =
        λ n. IsKindBy table plan.lists outline.shape outline.children links.shape links.shape.def n.kind in
        record {
          outline = outline;
          linked_as = links;
          shape = sym is.shape;
          kind = subst P (sym itself) told;
          same = ap (λ (n : TypePlanNode). n.shape) itself;
          there = ap (node_at plan) number ∙ at ∙ ap (λ (n : TypePlanNode). Some n) (sym itself);
          own = own_here;
        }

    stands_for_own : node.kind ≡ TypePlanNodeKind.BackRef outline.shape → Standing id node
    stands_for_own refers =
        let own : HasOwn plan.walk outline.shape = (complete.nodes id.0 outline here).resolved in
        let links : IsLinked table plan.walk.nodes own.own.outline = linked table root plan is_plan complete outline.shape own in
        let told = zip_get (IsNode table plan.lists) plan.walk.nodes plan.nodes own.node.0 own.own.outline is_plan.told own.own.here in
        let number : resolved_id plan id ≡ own.node =
        ap (λ (found : Option TypePlanNode). resolved_id_by (option_map kind_of found) (own_id plan) id) at
        ∙ ap (λ (k : TypePlanNodeKind). resolved_id_by (Some k) (own_id plan) id) refers
        ∙ ap (λ (mark : Option Mark). unwrap_or (finished mark) id) own.mark in
        let stands : resolved plan node ≡ told.0 =
        ap (λ (k : TypePlanNodeKind). resolved_by k (own_node plan) node) refers
        ∙ ap (λ (mark : Option Mark). unwrap_or (node_found plan (finished mark)) node) own.mark
        ∙ ap (λ (found : Option TypePlanNode). unwrap_or found node) told.1 in
        let P : TypePlanNode → Type 0 =
        λ n. IsKindBy table plan.lists own.own.outline.shape own.own.outline.children links.shape links.shape.def n.kind in
        record {
          outline = own.own.outline;
          linked_as = links;
          shape = own.own.shape ∙ sym is.shape;
          kind = subst P (sym stands) (kind_of_own own.own.outline told.0 told.2 own.own.role links);
          same = ap (λ (n : TypePlanNode). n.shape) stands ∙ told.2.shape ∙ own.own.shape ∙ sym is.shape;
          there = ap (node_at plan) number ∙ told.1 ∙ ap (λ (n : TypePlanNode). Some n) (sym stands);
          own = own_here;
        }

    by_role : (role : Role) → outline.role ≡ role → Standing id node
    by_role Role.Own is_role = stands_itself is_role
    by_role Role.BackRef is_role =
        let P : Role → Type 0 = λ r. IsKindOf table plan.lists outline r node.kind in
        stands_for_own (subst P is_role is.kind)
    by_role (Role.FieldProxy field) is_role =
        let P : Role → Type 0 = λ r. IsKindOf table plan.lists outline r node.kind in
        stands_for_own (subst P is_role is.kind)

  pub standing : (id : NodeId) (node : TypePlanNode) → node_at plan id ≡ Some node → Standing id node
  standing id node at =
      let told = zip_get_right (IsNode table plan.lists) plan.walk.nodes plan.nodes id.0 node is_plan.told at in
      by_role id node at told.0 told.1 told.2 told.0.role refl

  -- the sort of its kind
  pub standing_sort : (id : NodeId) (node : TypePlanNode) (stands : Standing id node)
      → sort_of_kind (resolved plan node).kind ≡ sort_of stands.linked_as.shape.def
  standing_sort id node stands =
      sorts_agree table plan.lists stands.outline.shape stands.outline.children stands.linked_as.shape
      stands.linked_as.shape.def (resolved plan node).kind stands.kind

  stands_for : (id : NodeId) (node : TypePlanNode) → node_at plan id ≡ Some node → StandsFor plan id node
  stands_for id node at =
      let stands = standing id node at in
      record {
        there = stands.there;
        shape = stands.same;
        kind =
            λ target is.
            no_reference table plan.lists stands.outline.shape stands.outline.children stands.linked_as.shape
            stands.linked_as.shape.def (sym (standing_sort id node stands) ∙ ap sort_of_kind is);
      }

pub back_references_resolve : BackReferencesResolve
back_references_resolve table root plan id node checked inside is at =
    stands_for table root plan is
    (plans_are_complete table root (record { walk = plan.walk; node = plan.root }) checked inside is.built) id node at
