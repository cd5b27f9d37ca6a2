-- Each lookup of a plan gives a node of the shape that the table has there, and so does each path of them.
use Rattle.std.proofs.Common.{◌≡◌, ◌∙◌, ap, sym, refl, subst, ℕ, ◌+◌, Bool, true, false, List, [], ◌∷◌, slice_get, Option, Some, None, is_some, IsSomeAnd}
use Rattle.std.specs.Option.{option_map, option_and_then}
use Rattle.std.proofs.lemmas.Option.{none-some, same_Some}
use Rattle.fr_rules.specs.Pools.{part_of}
use Rattle.fr_shape.specs.declared.shape.Shape.{Shape}
use Rattle.fr_shape.specs.declared.shape.ShapeId.{ShapeId}
use Rattle.fr_shape.specs.declared.shape.Def.{Def}
use Rattle.fr_shape.specs.declared.shape.EnumDef.{EnumDef}
use Rattle.fr_shape.specs.declared.shape.VariantDef.{VariantDef}
use Rattle.fr_shape.specs.Look.{Table, field_in, field_of_variant}
use Rattle.fr_plan.specs.declared.nodes.NodeId.{NodeId}
use Rattle.fr_plan.specs.declared.nodes.TypePlanNode.{TypePlanNode}
use Rattle.fr_plan.specs.declared.nodes.TypePlanNodeKind.{TypePlanNodeKind}
use Rattle.fr_plan.specs.declared.plans.EnumPlan.{EnumPlan}
use Rattle.fr_plan.specs.declared.plans.StructPlan.{StructPlan}
use Rattle.fr_plan.specs.declared.plans.VariantPlanMeta.{VariantPlanMeta}
use Rattle.fr_plan.specs.LookupLaws.{Step, struct_field_step, enum_variant_field_step, list_item_step, set_item_step, map_key_step, map_value_step, option_inner_step, result_ok_step, result_err_step, pointer_pointee_step, inner_step, looked_up, child_of, child_in, shape_of, shape_at, shape_by_lookups, node_by_lookups, LookupsAgree, LookupPathsAgree}
use Rattle.fr_plan.specs.Lookups.{node_at, resolved, field_in_range, own_outline, child_at, child_if, converts, has_items, is_set, is_map, is_option, is_result, is_pointer}
use Rattle.fr_plan.specs.Nodes.{struct_plan_of, enum_plan_of, IsKindBy}
use Rattle.fr_plan.specs.PathLaws.{child_shape}
use Rattle.fr_plan.specs.PlanLaws.{IsNodeOf, IsComplete, AreChildrenBy}
use Rattle.fr_plan.specs.Plans.{IsVariantPlan, IsStructPlan, IsEnumPlan, variants_from}
use Rattle.fr_plan.specs.TypePlan.{Plan, IsPlanOf}
use Rattle.fr_plan.proofs.Wholeness.Looks.{shape_of_field, some_shape, range_agrees, variant_at, variant_none}
use Rattle.fr_plan.proofs.Wholeness.Paths.{zip_get, zip_none, told_at, own_outline_is, linked, linked_here, child_is, child_none}
use Rattle.fr_plan.proofs.Wholeness.Sorts.{Sort, a_struct, an_enum, sort_of_kind, sort_of, sorts_agree, pointer_none, is_list_sort, is_set_sort, is_map_sort, is_option_sort, is_result_sort, is_pointer_sort, items_tested, set_tested, map_tested, option_tested, result_tested, pointer_tested, child_where, item_is, set_item_is, key_is, value_is, some_is, ok_is, err_is, pointee_is}
use Rattle.fr_plan.proofs.Wholeness.Standing.{Standing, standing, standing_sort}
use Rattle.fr_plan.proofs.Wholeness.Whole.{plans_are_complete}

abbrev is_struct_sort : Sort → Bool
is_struct_sort a_struct = true
is_struct_sort _ = false

abbrev is_enum_sort : Sort → Bool
is_enum_sort an_enum = true
is_enum_sort _ = false

struct_none : (is : TypePlanNodeKind) → is_struct_sort (sort_of_kind is) ≡ false → struct_plan_of is ≡ None
struct_none (TypePlanNodeKind.Struct plan) apart = absurd (cc)
struct_none is apart = refl

enum_none : (is : TypePlanNodeKind) → is_enum_sort (sort_of_kind is) ≡ false → enum_plan_of is ≡ None
enum_none (TypePlanNodeKind.Enum plan) apart = absurd (cc)
enum_none is apart = refl

module _ (table : Table) (root : ShapeId) (plan : Plan) (is_plan : IsPlanOf table root plan)
    (complete : IsComplete table root (record { walk = plan.walk; node = plan.root })) where
  abbrev shapes_at : Option NodeId → Option (Option ShapeId)
  shapes_at found = option_map (shape_at plan) found

  -- fields

  module _ (id : ShapeId) (nodes : List NodeId) (shape : Shape) (is : TypePlanNodeKind) (i : ℕ) where
    abbrev struct_looked : Option StructPlan → Option NodeId
    struct_looked found = option_and_then (λ (struct : StructPlan). field_in_range plan struct.fields i) found

    no_struct_field : (def : Def) → IsKindBy table plan.lists id nodes shape def is → is_struct_sort (sort_of def) ≡ false
        → shapes_at (struct_looked (struct_plan_of is)) ≡ None
    no_struct_field def told apart =
        ap (λ (found : Option StructPlan). shapes_at (struct_looked found))
        (struct_none is (ap is_struct_sort (sorts_agree table plan.lists id nodes shape def is told) ∙ apart))

    struct_by : (def : Def) → IsKindBy table plan.lists id nodes shape def is
        → AreChildrenBy plan.walk.nodes id shape def nodes
        → shapes_at (struct_looked (struct_plan_of is))
        ≡ option_map some_shape (option_map shape_of_field (field_in def None i))
    struct_by (Def.Struct struct) told are = by_plan (struct_plan_of is) told
      where
        by_plan : (found : Option StructPlan) → IsSomeAnd found (IsStructPlan table plan.lists id nodes shape struct)
            → shapes_at (struct_looked found)
            ≡ option_map some_shape (option_map shape_of_field (slice_get struct.fields i))
        by_plan None some = absurd some
        by_plan (Some found) some =
            range_agrees table root plan is_plan complete id None nodes struct.fields found.fields i some.fields are
    struct_by (Def.Pointer pointer) told are =
        no_struct_field (Def.Pointer pointer) told (pointer_none is_struct_sort refl refl (is_some pointer.pointee))
    struct_by def told are = no_struct_field def told refl

  module _ (id : ShapeId) (nodes : List NodeId) (shape : Shape) (is : TypePlanNodeKind) (v i : ℕ) where
    abbrev in_variant : Option VariantPlanMeta → Option NodeId
    in_variant found = option_and_then (λ (meta : VariantPlanMeta). field_in_range plan meta.fields i) found

    abbrev enum_looked : Option EnumPlan → Option NodeId
    enum_looked found =
        in_variant (option_and_then (λ (e : EnumPlan). slice_get (part_of plan.lists.variants e.variants) v) found)

    no_variant_field : (def : Def) → IsKindBy table plan.lists id nodes shape def is → is_enum_sort (sort_of def) ≡ false
        → shapes_at (enum_looked (enum_plan_of is)) ≡ None
    no_variant_field def told apart =
        ap (λ (found : Option EnumPlan). shapes_at (enum_looked found))
        (enum_none is (ap is_enum_sort (sorts_agree table plan.lists id nodes shape def is told) ∙ apart))

    variants_agree : (enumeration : EnumDef) (found : EnumPlan) → IsEnumPlan table plan.lists id nodes enumeration found
        → AreChildrenBy plan.walk.nodes id shape (Def.Enum enumeration) nodes
        → shapes_at (enum_looked (Some found))
        ≡ option_map some_shape (option_map shape_of_field (field_of_variant (slice_get enumeration.variants v) i))
    variants_agree enumeration found told are =
        ap (λ (l : List VariantPlanMeta). shapes_at (in_variant (slice_get l v))) told.variants.1.names
        ∙ by_variant (slice_get enumeration.variants v) refl
      where
        by_variant : (variant : Option VariantDef) → slice_get enumeration.variants v ≡ variant
            → shapes_at (in_variant (slice_get told.variants.0 v))
            ≡ option_map some_shape (option_map shape_of_field (field_of_variant variant i))
        by_variant None none =
            ap (λ (f : Option VariantPlanMeta). shapes_at (in_variant f))
            (zip_none (IsVariantPlan table plan.lists id) (variants_from 0 nodes enumeration.variants) told.variants.0 v
            told.variants.2 (variant_none id plan.walk.nodes 0 nodes enumeration.variants v none))
        by_variant (Some variant) some =
            let placed = variant_at id plan.walk.nodes 0 nodes enumeration.variants v variant are some in
            let meta =
            zip_get (IsVariantPlan table plan.lists id) (variants_from 0 nodes enumeration.variants) told.variants.0 v _
            told.variants.2 placed.at in
            ap (λ (f : Option VariantPlanMeta). shapes_at (in_variant f)) meta.1
            ∙ range_agrees table root plan is_plan complete id (Some (0 + v)) placed.nodes variant.fields meta.0.fields i
            meta.2.fields placed.fields

    enum_by : (def : Def) → IsKindBy table plan.lists id nodes shape def is
        → AreChildrenBy plan.walk.nodes id shape def nodes
        → shapes_at (enum_looked (enum_plan_of is))
        ≡ option_map some_shape (option_map shape_of_field (field_in def (Some v) i))
    enum_by (Def.Enum enumeration) told are = by_plan (enum_plan_of is) told
      where
        by_plan : (found : Option EnumPlan) → IsSomeAnd found (IsEnumPlan table plan.lists id nodes enumeration)
            → shapes_at (enum_looked found)
            ≡ option_map some_shape (option_map shape_of_field (field_of_variant (slice_get enumeration.variants v) i))
        by_plan None some = absurd some
        by_plan (Some found) some = variants_agree enumeration found some are
    enum_by (Def.Pointer pointer) told are =
        no_variant_field (Def.Pointer pointer) told (pointer_none is_enum_sort refl refl (is_some pointer.pointee))
    enum_by def told are = no_variant_field def told refl

  -- other children

  module _ (id : NodeId) (node : TypePlanNode) (stands : Standing table root plan is_plan complete id node) where
    abbrev shape : Shape
    shape = stands.linked_as.shape

    shape_here : slice_get table node.shape.0 ≡ Some shape
    shape_here =
        let P : ShapeId → Type 0 = λ s. slice_get table s.0 ≡ Some shape in subst P stands.shape stands.linked_as.here

    child_agrees : (place : ℕ)
        → shapes_at (child_at plan node.shape place) ≡ option_map some_shape (child_shape table node.shape place)
    child_agrees place = by_child (child_at plan node.shape place) refl
      where
        by_child : (found : Option NodeId) → child_at plan node.shape place ≡ found
            → shapes_at found ≡ option_map some_shape (child_shape table node.shape place)
        by_child None none =
            ap (option_map some_shape) (sym (child_none table root plan is_plan complete node.shape stands.own place none))
        by_child (Some next) some =
            let child = child_is table root plan is_plan complete node.shape stands.own place next some in
            let told = told_at table root plan is_plan complete next child.0 child.2 in
            ap (λ (f : Option TypePlanNode). Some (option_map shape_of f)) told.1 ∙ ap (λ (s : ShapeId). Some (Some s)) told.2
            ∙ ap (option_map some_shape) (sym child.1)

    child_where_agrees : (there : Bool) (place : ℕ)
        → shapes_at (child_if there plan node place)
        ≡ option_map some_shape (child_where there shape.def shape place)
    child_where_agrees false place = refl
    child_where_agrees true place =
        child_agrees place
        ∙ ap (λ (f : Option Shape).
        option_map some_shape (option_and_then (λ (s : Shape). child_where true s.def s place) f)) shape_here

    tested : (test_kind : TypePlanNodeKind → Bool) (test : Sort → Bool)
        → ((is : TypePlanNodeKind) → test_kind is ≡ test (sort_of_kind is)) → (place : ℕ) (wanted : Option ShapeId)
        → child_where (test (sort_of shape.def)) shape.def shape place ≡ wanted
        → shapes_at (child_if (test_kind (resolved plan node).kind) plan node place) ≡ option_map some_shape wanted
    tested test_kind test tests place wanted is =
        ap (λ (b : Bool). shapes_at (child_if b plan node place))
        (tests (resolved plan node).kind ∙ ap test (standing_sort table root plan is_plan complete id node stands))
        ∙ child_where_agrees (test (sort_of shape.def)) place ∙ ap (option_map some_shape) is

    converts_is : converts (own_outline plan node.shape) ≡ is_some shape.convert
    converts_is =
        let links = linked table root plan is_plan complete node.shape stands.own in
        let same : links.shape ≡ shape =
        same_Some links.shape shape
        (sym (linked_here table root plan is_plan complete node.shape stands.own) ∙ shape_here) in
        ap converts (own_outline_is table root plan is_plan complete node.shape stands.own) ∙ links.converts
        ∙ ap (λ (s : Shape). is_some s.convert) same

    asked : (step : Step) → shapes_at (looked_up plan node step) ≡ option_map some_shape (child_of shape step)
    asked (struct_field_step i) =
        struct_by stands.outline.shape stands.outline.children shape (resolved plan node).kind i shape.def stands.kind
        stands.linked_as.children
    asked (enum_variant_field_step v i) =
        enum_by stands.outline.shape stands.outline.children shape (resolved plan node).kind v i shape.def stands.kind
        stands.linked_as.children
    asked list_item_step = tested has_items is_list_sort items_tested 0 _ (item_is shape shape.def)
    asked set_item_step = tested is_set is_set_sort set_tested 0 _ (set_item_is shape shape.def)
    asked map_key_step = tested is_map is_map_sort map_tested 0 _ (key_is shape shape.def)
    asked map_value_step = tested is_map is_map_sort map_tested 1 _ (value_is shape shape.def)
    asked option_inner_step = tested is_option is_option_sort option_tested 0 _ (some_is shape shape.def)
    asked result_ok_step = tested is_result is_result_sort result_tested 0 _ (ok_is shape shape.def)
    asked result_err_step = tested is_result is_result_sort result_tested 1 _ (err_is shape shape.def)
    asked pointer_pointee_step = tested is_pointer is_pointer_sort pointer_tested 0 _ (pointee_is shape shape.def)
    asked inner_step =
        ap (λ (b : Bool). shapes_at (child_if b plan node 0)) converts_is
        ∙ child_where_agrees (is_some shape.convert) 0

    pub looks : (step : Step)
        → shapes_at (looked_up plan node step) ≡ option_map some_shape (child_in table node.shape step)
    looks step =
        asked step
        ∙ sym (ap (λ (f : Option Shape). option_map some_shape (option_and_then (λ (s : Shape). child_of s step) f)) shape_here)

  -- paths

  abbrev AgreesAfter : List Step → Type 0
  AgreesAfter path =
      (id : NodeId) (node : TypePlanNode) → node_at plan id ≡ Some node
      → option_map shape_of (node_by_lookups plan id path) ≡ shape_by_lookups table node.shape path

  abbrev further_down : List Step → Option NodeId → Option TypePlanNode
  further_down path found = option_and_then (λ (next : NodeId). node_by_lookups plan next path) found

  abbrev further_along : List Step → Option ShapeId → Option ShapeId
  further_along path found = option_and_then (λ (next : ShapeId). shape_by_lookups table next path) found

  after_step : (path : List Step) → AgreesAfter path → (found : Option NodeId) (wanted : Option ShapeId)
      → shapes_at found ≡ option_map some_shape wanted
      → option_map shape_of (further_down path found) ≡ further_along path wanted
  after_step path rest None None same = refl
  after_step path rest None (Some child) same = absurd (none-some (Some child) same)
  after_step path rest (Some next) None same = absurd (none-some (shape_at plan next) (sym same))
  after_step path rest (Some next) (Some child) same =
      by_node (node_at plan next) refl (same_Some (shape_at plan next) (Some child) same)
    where
      by_node : (found : Option TypePlanNode) → node_at plan next ≡ found → option_map shape_of found ≡ Some child
          → option_map shape_of (node_by_lookups plan next path) ≡ shape_by_lookups table child path
      by_node None at is = absurd (none-some child is)
      by_node (Some node) at is =
          rest next node at ∙ ap (λ (s : ShapeId). shape_by_lookups table s path) (same_Some node.shape child is)

  after : (path : List Step) → AgreesAfter path
  after [] id node at = ap (option_map shape_of) at
  after (step ∷ path) id node at =
      ap (λ (f : Option TypePlanNode).
      option_map shape_of (option_and_then (λ (n : TypePlanNode). further_down path (looked_up plan n step)) f)) at
      ∙ after_step path (after path) (looked_up plan node step) (child_in table node.shape step)
      (looks id node (standing table root plan is_plan complete id node at) step)

  paths_after : (path : List Step)
      → option_map shape_of (node_by_lookups plan plan.root path) ≡ shape_by_lookups table root path
  paths_after path =
      let own = complete.done root plan.root complete.root_mark in
      let is : IsNodeOf plan.walk.nodes plan.root root =
      record { outline = own.outline; here = own.here; shape = own.shape } in
      let told = told_at table root plan is_plan complete plan.root root is in
      after path plan.root told.0 told.1 ∙ ap (λ (s : ShapeId). shape_by_lookups table s path) told.2

pub lookups_agree : LookupsAgree
lookups_agree table root plan id node step checked inside is at =
    let complete = plans_are_complete table root (record { walk = plan.walk; node = plan.root }) checked inside is.built in
    looks table root plan is complete id node (standing table root plan is complete id node at) step

pub lookup_paths_agree : LookupPathsAgree
lookup_paths_agree table root plan path checked inside is =
    paths_after table root plan is
    (plans_are_complete table root (record { walk = plan.walk; node = plan.root }) checked inside is.built) path
