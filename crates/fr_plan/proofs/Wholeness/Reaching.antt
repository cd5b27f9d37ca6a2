-- In a whole plan each reached shape has its own node, so a root that was planned is plannable.
use Rattle.std.proofs.Common.{◌≡◌, ◌∙◌, ap, sym, refl, subst, ℕ, ◌+◌, List, [], ◌∷◌, ◌++◌, map, slice_get, Option, Some, None, Ok, Err}
use Rattle.std.specs.List.{All, AllZip, flat_map}
use Rattle.std.proofs.lemmas.List.{append-nil, map-append}
use Rattle.std.proofs.lemmas.List.Elements.{All-nil, All-cons, All-head, All-tail, All-append, All-contains}
use Rattle.std.proofs.lemmas.Option.{same_Some, none-some}
use Rattle.std.proofs.lemmas.Result.{MatchResult-at_err}
use Rattle.fr_shape.specs.declared.shape.Shape.{Shape}
use Rattle.fr_shape.specs.declared.shape.ShapeId.{ShapeId}
use Rattle.fr_shape.specs.declared.shape.Def.{Def}
use Rattle.fr_shape.specs.declared.shape.Field.{Field}
use Rattle.fr_shape.specs.declared.shape.VariantDef.{VariantDef}
use Rattle.fr_shape.specs.Checked.{fields_of}
use Rattle.fr_shape.specs.Look.{Table}
use Rattle.fr_shape.specs.Plannable.{Reached, at_root, further, IsPlannable, first_refusal, leads_to, own_sources, field_sources, children_by, children_of, refusal_of}
use Rattle.fr_plan.specs.declared.nodes.NodeId.{NodeId}
use Rattle.fr_plan.specs.declared.outlines.Outline.{Outline}
use Rattle.fr_plan.specs.Build.{Built, Made, Placed, fields_from, variant_fields_from, start_of, planned}
use Rattle.fr_plan.specs.PlanLaws.{IsNodeOf, IsFieldNode, AreChildrenBy, HasOwn, IsLinked, IsComplete}
use Rattle.fr_plan.specs.RefusalLaws.{refusal_in, PlansPlannable}
use Rattle.fr_plan.proofs.Wholeness.Sound.{IsBlamed}
use Rattle.fr_plan.proofs.Wholeness.Adding.{IsFinished}
use Rattle.fr_plan.proofs.Wholeness.Led.{all_left, all_right}
use Rattle.fr_plan.proofs.Wholeness.Visits.{refuses_first}
use Rattle.fr_plan.proofs.Wholeness.Whole.{root_finished, plans_are_complete}

-- lists place by place

zip_map : {A B C : Type 0} (R : A → B → Type 0) (S : A → C → Type 0) (f : B → C) → ((x : A) (y : B) → R x y → S x (f y))
    → (xs : List A) (ys : List B) → AllZip R xs ys → AllZip S xs (map f ys)
zip_map R S f gives [] [] all = tt
zip_map R S f gives [] (y ∷ ys) all = absurd all
zip_map R S f gives (x ∷ xs) [] all = absurd all
zip_map R S f gives (x ∷ xs) (y ∷ ys) all = (gives x y all.0, zip_map R S f gives xs ys all.1)

zip_all_right : {A B : Type 0} (R : A → B → Type 0) (P : B → Type 0) → ((x : A) (y : B) → R x y → P y) → (xs : List A)
    (ys : List B) → AllZip R xs ys → All P ys
zip_all_right R P gives [] [] all = All-nil P
zip_all_right R P gives [] (y ∷ ys) all = absurd all
zip_all_right R P gives (x ∷ xs) [] all = absurd all
zip_all_right R P gives (x ∷ xs) (y ∷ ys) all = All-cons P y ys (gives x y all.0) (zip_all_right R P gives xs ys all.1)

all_flat_map : {X Y : Type 0} (P : Y → Type 0) (f : X → List Y) (xs : List X) → All (λ (x : X). All P (f x)) xs
    → All P (flat_map f xs)
all_flat_map P f [] all = All-nil P
all_flat_map {X} P f (x ∷ xs) all =
    let Q : X → Type 0 = λ x. All P (f x) in
    All-append P (f x) (flat_map f xs) (All-head Q x xs all) (all_flat_map P f xs (All-tail Q x xs all))

-- the fields of a struct or of an enum's variants

abbrev shape_of_placed : Placed → ShapeId
shape_of_placed placed = placed.field.shape

abbrev shape_of_field : Field → ShapeId
shape_of_field field = field.shape

module _ (id : ShapeId) where
  shapes_from : (variant : Option ℕ) (i : ℕ) (fields : List Field)
      → map shape_of_placed (fields_from id variant i fields) ≡ map shape_of_field fields
  shapes_from variant i [] = refl
  shapes_from variant i (field ∷ fields) = ap (λ (l : List ShapeId). field.shape ∷ l) (shapes_from variant (i + 1) fields)

  variant_shapes_from : (i : ℕ) (variants : List VariantDef)
      → map shape_of_placed (variant_fields_from id i variants)
      ≡ map shape_of_field (flat_map (λ (variant : VariantDef). variant.fields) variants)
  variant_shapes_from i [] = refl
  variant_shapes_from i (variant ∷ variants) =
      let rest : List Field = flat_map (λ (variant : VariantDef). variant.fields) variants in
      map-append shape_of_placed (fields_from id (Some i) 0 variant.fields) (variant_fields_from id (i + 1) variants)
      ∙ ap (λ (l : List ShapeId). l ++ map shape_of_placed (variant_fields_from id (i + 1) variants))
      (shapes_from (Some i) 0 variant.fields)
      ∙ ap (λ (l : List ShapeId). map shape_of_field variant.fields ++ l) (variant_shapes_from (i + 1) variants)
      ∙ sym (map-append shape_of_field variant.fields rest)

  module _ (P : Field → Type 0) where
    abbrev AtPlaced : Placed → Type 0
    AtPlaced placed = P placed.field

    fields_back : (variant : Option ℕ) (i : ℕ) (fields : List Field) → All AtPlaced (fields_from id variant i fields)
        → All P fields
    fields_back variant i [] all = All-nil P
    fields_back variant i (field ∷ fields) all =
        All-cons P field fields (All-head AtPlaced _ (fields_from id variant (i + 1) fields) all)
        (fields_back variant (i + 1) fields (All-tail AtPlaced _ (fields_from id variant (i + 1) fields) all))

    variant_fields_back : (i : ℕ) (variants : List VariantDef) → All AtPlaced (variant_fields_from id i variants)
        → All P (flat_map (λ (variant : VariantDef). variant.fields) variants)
    variant_fields_back i [] all = All-nil P
    variant_fields_back i (variant ∷ variants) all =
        let first : List Placed = fields_from id (Some i) 0 variant.fields in
        let rest : List Placed = variant_fields_from id (i + 1) variants in
        All-append P variant.fields (flat_map (λ (variant : VariantDef). variant.fields) variants)
        (fields_back (Some i) 0 variant.fields (all_left AtPlaced first rest all))
        (variant_fields_back (i + 1) variants (all_right AtPlaced first rest all))

module _ (nodes : List Outline) where
  -- there is a node of this shape
  pub record IsBuilt (id : ShapeId) : Type 0 where
    pub node : NodeId
    pub is : IsNodeOf nodes node id

  field_node : (node : NodeId) (placed : Placed) → IsFieldNode nodes node placed → IsNodeOf nodes node placed.field.shape
  field_node node placed is = record { outline = is.outline; here = is.here; shape = is.shape }

  two_more : (xs : List ShapeId) → xs ≡ xs ++ [] ++ []
  two_more xs = sym (append-nil xs) ∙ sym (append-nil (xs ++ []))

  -- the nodes of a shape's children are of the children's shapes, in order
  pub children_are_nodes : (id : ShapeId) (shape : Shape) (def : Def) (children : List NodeId)
      → AreChildrenBy nodes id shape def children → AllZip (IsNodeOf nodes) children (children_by def shape)
  children_are_nodes id shape (Def.Struct struct) children are =
      let P : List ShapeId → Type 0 = λ l. AllZip (IsNodeOf nodes) children l in
      subst P (shapes_from id None 0 struct.fields ∙ two_more (map shape_of_field struct.fields))
      (zip_map (IsFieldNode nodes) (IsNodeOf nodes) shape_of_placed field_node children (fields_from id None 0 struct.fields) are)
  children_are_nodes id shape (Def.Enum enumeration) children are =
      let P : List ShapeId → Type 0 = λ l. AllZip (IsNodeOf nodes) children l in
      subst P (variant_shapes_from id 0 enumeration.variants ∙ two_more (map shape_of_field (fields_of (Def.Enum enumeration))))
      (zip_map (IsFieldNode nodes) (IsNodeOf nodes) shape_of_placed field_node children
      (variant_fields_from id 0 enumeration.variants) are)
  children_are_nodes id shape def children are = are

  sources_built : (listed : List NodeId) (ids : List ShapeId) → AllZip (IsNodeOf nodes) listed ids → All IsBuilt ids
  sources_built listed ids all =
      zip_all_right (IsNodeOf nodes) IsBuilt (λ node id is. record { node = node; is = is }) listed ids all

  -- the sources of a field's proxies
  abbrev AreSourcesBuilt : Field → Type 0
  AreSourcesBuilt field = All IsBuilt (field_sources field)

  field_sources_built : (node : NodeId) (placed : Placed) → IsFieldNode nodes node placed → AreSourcesBuilt placed.field
  field_sources_built node placed is = by_sources (field_sources placed.field) refl
    where
      by_sources : (sources : List ShapeId) → field_sources placed.field ≡ sources → All IsBuilt (field_sources placed.field)
      by_sources [] none = let P : List ShapeId → Type 0 = λ l. All IsBuilt l in subst P (sym none) (All-nil IsBuilt)
      by_sources (source ∷ sources) some =
          sources_built is.outline.sources (field_sources placed.field)
          (is.proxied (λ (none : field_sources placed.field ≡ []).
          let apart : ◌≡◌ {A = List ShapeId} (source ∷ sources) [] = sym some ∙ none in absurd (cc))).1

  all_sources_built : (id : ShapeId) (shape : Shape) (def : Def) (children : List NodeId)
      → AreChildrenBy nodes id shape def children → All AreSourcesBuilt (fields_of def)
  all_sources_built id shape (Def.Struct struct) children are =
      fields_back id AreSourcesBuilt None 0 struct.fields
      (zip_all_right (IsFieldNode nodes) (λ (placed : Placed). AreSourcesBuilt placed.field) field_sources_built children
      (fields_from id None 0 struct.fields) are)
  all_sources_built id shape (Def.Enum enumeration) children are =
      variant_fields_back id AreSourcesBuilt 0 enumeration.variants
      (zip_all_right (IsFieldNode nodes) (λ (placed : Placed). AreSourcesBuilt placed.field) field_sources_built children
      (variant_fields_from id 0 enumeration.variants) are)
  all_sources_built id shape def children are = All-nil AreSourcesBuilt

  -- all that a shape leads to was built
  pub leads_built : (table : Table) (outline : Outline) (linked : IsLinked table nodes outline)
      → All IsBuilt (leads_to linked.shape)
  leads_built table outline linked =
      let shape : Shape = linked.shape in
      All-append IsBuilt (own_sources shape ++ children_of shape) (flat_map field_sources (fields_of shape.def))
      (All-append IsBuilt (own_sources shape) (children_of shape)
      (sources_built outline.sources (own_sources shape) linked.sources)
      (sources_built outline.children (children_of shape)
      (children_are_nodes outline.shape shape shape.def outline.children linked.children)))
      (all_flat_map IsBuilt field_sources (fields_of shape.def)
      (all_sources_built outline.shape shape shape.def outline.children linked.children))

-- what is reached was built to its end

module _ (table : Table) (root : ShapeId) (made : Made) (complete : IsComplete table root made) where
  -- the node that a shape's mark leads to is linked as the table says of the shape
  pub own_linked : (id : ShapeId) (shape : Shape) → slice_get table id.0 ≡ Some shape → (own : HasOwn made.walk id)
      → (linked : IsLinked table made.walk.nodes own.own.outline) × (linked.shape ≡ shape)
  own_linked id shape here own =
      let linked = (complete.nodes own.node.0 own.own.outline own.own.here).linked own.own.role in
      let P : ShapeId → Type 0 = λ i. slice_get table i.0 ≡ Some linked.shape in
      (linked, same_Some linked.shape shape (sym (subst P own.own.shape linked.here) ∙ here))

  pub reached_has_own : {id : ℕ} → Reached table root.0 id → HasOwn made.walk (record { 0 = id })
  reached_has_own at_root = record {
    node = made.node;
    mark = complete.root_mark;
    own = complete.done root made.node complete.root_mark;
  }
  reached_has_own (further {id} {shape} {next} before here has) =
      let own = reached_has_own before in
      let linked = own_linked (record { 0 = id }) shape here own in
      let P : Shape → Type 0 = λ s. All (IsBuilt made.walk.nodes) (leads_to s) in
      let all : All (IsBuilt made.walk.nodes) (leads_to shape) =
      subst P linked.1 (leads_built made.walk.nodes table own.own.outline linked.0) in
      let built = All-contains (IsBuilt made.walk.nodes) (leads_to shape) next all has in
      let Q : ShapeId → Type 0 = λ i. HasOwn made.walk i in
      subst Q built.is.shape (complete.nodes built.node.0 built.is.outline built.is.here).resolved

  planned_is_plannable : IsPlannable table root.0
  planned_is_plannable id shape reached here =
      let linked = own_linked (record { 0 = id }) shape here (reached_has_own reached) in
      ap refusal_of (sym linked.1) ∙ linked.0.plannable

pub plans_plannable : PlansPlannable
plans_plannable table root checked inside = (to_plannable (planned table root) refl, to_none (planned table root) refl)
  where
    to_plannable : (built : Built Made) → planned table root ≡ built → first_refusal table root.0 ≡ None
        → IsPlannable table root.0
    to_plannable (Ok made) is none =
        planned_is_plannable table root made (plans_are_complete table root made checked inside is)
    to_plannable (Err refused) is none =
        absurd (none-some refused (sym none ∙ sym (refuses_first table root) ∙ ap refusal_in is))

    to_none : (built : Built Made) → planned table root ≡ built → IsPlannable table root.0
        → first_refusal table root.0 ≡ None
    to_none (Ok made) is plannable = sym (refuses_first table root) ∙ ap refusal_in is
    to_none (Err refused) is plannable =
        let blamed =
        MatchResult-at_err (IsFinished table root (start_of table) root) (IsBlamed table root) refused is
        (root_finished table root checked inside) in
        absurd (none-some refused.operation
        (sym (plannable refused.shape.0 blamed.shape blamed.reached blamed.here) ∙ blamed.fault))
