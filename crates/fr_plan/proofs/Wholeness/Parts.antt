-- A plan has all that it lends: its ranges lie inside its lists, its lookups are of its pool, and its nodes are there.
use Rattle.std.proofs.Common.{◌≡◌, ◌∙◌, ap, sym, refl, subst, ℕ, ◌+◌, ◌<◌, Bool, true, false, if◌then◌else◌, List, [], ◌∷◌, length, take, drop, map, zip, slice_get, arith, ⊎_elim, Option, Some, None, is_some, IsSomeAnd}
use Rattle.std.specs.List.{All, AllZip}
use Rattle.std.specs.Option.{option_map, option_and_then, option_to_list}
use Rattle.std.specs.Str.{bytes_eq}
use Rattle.std.proofs.lemmas.Bool.{cases_lt}
use Rattle.std.proofs.lemmas.List.{get_or_past}
use Rattle.std.proofs.lemmas.List.Elements.{All-cons, All-drop, All-head, All-nil, All-tail, All-take, All-weaker}
use Rattle.std.proofs.lemmas.Option.{none-some, get_or_from_slice_get, same_Some, slice_get_cases, slice_get_within}
use Rattle.std.proofs.lemmas.Slice.Zip.{AllZip-long}
use Rattle.fr_arena.specs.Ranges.{Range}
use Rattle.fr_rules.specs.Pools.{part_of}
use Rattle.fr_shape.specs.declared.shape.Def.{Def}
use Rattle.fr_shape.specs.declared.shape.EnumDef.{EnumDef}
use Rattle.fr_shape.specs.declared.shape.FormatProxy.{FormatProxy}
use Rattle.fr_shape.specs.declared.shape.ProxyDef.{ProxyDef}
use Rattle.fr_shape.specs.declared.shape.Shape.{Shape}
use Rattle.fr_shape.specs.declared.shape.ShapeId.{ShapeId}
use Rattle.fr_shape.specs.declared.shape.StructDef.{StructDef}
use Rattle.fr_shape.specs.declared.shape.StructKind.{StructKind}
use Rattle.fr_shape.specs.declared.shape.VariantDef.{VariantDef}
use Rattle.fr_shape.specs.Checked.{IsChecked}
use Rattle.fr_shape.specs.Look.{IsIn, Table}
use Rattle.fr_plan.specs.declared.nodes.NodeId.{NodeId}
use Rattle.fr_plan.specs.declared.nodes.ProxyNodes.{ProxyNodes}
use Rattle.fr_plan.specs.declared.nodes.TypePlanNode.{TypePlanNode}
use Rattle.fr_plan.specs.declared.nodes.TypePlanNodeKind.{TypePlanNodeKind}
use Rattle.fr_plan.specs.declared.outlines.Mark.{Mark}
use Rattle.fr_plan.specs.declared.outlines.Outline.{Outline}
use Rattle.fr_plan.specs.declared.outlines.Role.{Role}
use Rattle.fr_plan.specs.declared.plans.EnumPlan.{EnumPlan}
use Rattle.fr_plan.specs.declared.plans.FieldPlan.{FieldPlan}
use Rattle.fr_plan.specs.declared.plans.StructPlan.{StructPlan}
use Rattle.fr_plan.specs.declared.plans.VariantPlanMeta.{VariantPlanMeta}
use Rattle.fr_plan.specs.Build.{Placed}
use Rattle.fr_plan.specs.LookupLaws.{Step, StandsFor, child_in, looked_up, shape_at, shape_of}
use Rattle.fr_plan.specs.Lookups.{by_id, enum_plan_at, enum_variant, field_plans_at, field_range_at, finished, node_at, own_id, resolved, resolved_id, struct_plan_at, variant_plan_at}
use Rattle.fr_plan.specs.Nodes.{AreProxyNodes, IsKindBy, IsKindOf, IsNode, IsOwnKind, Proxies, enum_plan_of, has_pointee, has_proxy, is_built_from, is_converted, own_strategy, proxies_in, strategy_by_kind, strategy_in, strategy_of, struct_plan_of, struct_strategy}
use Rattle.fr_plan.specs.PartLaws.{HasEnumParts, HasFieldParts, HasFields, HasNode, HasNodeParts, HasPartsAt, HasProxyNodes, HasStrategyNodes, HasStructParts, HasVariantParts, PlansHaveOwnNodes, PlansHaveTheirParts}
use Rattle.fr_plan.specs.PlanLaws.{AreThere, IsComplete}
use Rattle.fr_plan.specs.Plans.{IsEnumPlan, IsFieldPlan, IsStructPlan, IsVariantPlan, NamesFields, nth_node, variants_from}
use Rattle.fr_plan.specs.ProxyLookups.{node_among}
use Rattle.fr_plan.specs.TypePlan.{IsPlanOf, Plan}
use Rattle.fr_plan.proofs.Wholeness.Asked.{lookups_agree}
use Rattle.fr_plan.proofs.Wholeness.Standing.{back_references_resolve, zip_get_right}
use Rattle.fr_plan.proofs.Wholeness.Whole.{plans_are_complete}

-- what holds of one side of a list beside another
zip_all : {A B : Type 0} (R : A → B → Type 0) (P : B → Type 0) → ((x : A) (y : B) → R x y → P y) → (xs : List A) (ys : List B)
    → AllZip R xs ys → All P ys
zip_all R P so [] [] all = All-nil P
zip_all R P so [] (y ∷ ys) all = absurd all
zip_all R P so (x ∷ xs) [] all = absurd all
zip_all R P so (x ∷ xs) (y ∷ ys) all = All-cons P y ys (so x y all.0) (zip_all R P so xs ys all.1)

either : {X : Type 0} (P : X → Type 0) (b : Bool) (x y : X) → P x → P y → P (if b then x else y)
either P true x y this that = this
either P false x y this that = that

-- what is found by two steps, is found by the first
found_by : {A B : Type 0} (f : A → Option B) (found : Option A) (y : B) → option_and_then f found ≡ Some y
    → (x : A) × (found ≡ Some x) × (f x ≡ Some y)
found_by f None y at = absurd (none-some y at)
found_by f (Some x) y at = (x, refl, at)

mapped_by : {A B : Type 0} (f : A → B) (found : Option A) (y : B) → option_map f found ≡ Some y
    → (x : A) × (found ≡ Some x) × (f x ≡ y)
mapped_by f None y at = absurd (none-some y at)
mapped_by f (Some x) y at = (x, refl, same_Some (f x) y at)

-- an element that is there, and one at all
all_get : {X : Type 0} (P : X → Type 0) (xs : List X) (i : ℕ) (x : X) → All P xs → slice_get xs i ≡ Some x → P x
all_get P xs i x all at =
    subst P (get_or_from_slice_get xs i x x at) (all i x (slice_get_within xs i x at))

module _ (plan : Plan) where
  -- what the plan has of a node's kind
  pub record HasKindParts (is : TypePlanNodeKind) : Type 0 where
    pub structs : (struct : StructPlan) → struct_plan_of is ≡ Some struct → HasStructParts plan struct
    pub enums : (enumeration : EnumPlan) → enum_plan_of is ≡ Some enumeration → HasEnumParts plan enumeration

  -- a kind that is neither a struct's nor an enum's
  bare : (is : TypePlanNodeKind) → struct_plan_of is ≡ None → enum_plan_of is ≡ None → HasKindParts is
  bare is no_struct no_enum = record {
    structs = λ struct at. absurd (none-some struct (sym no_struct ∙ at));
    enums = λ enumeration at. absurd (none-some enumeration (sym no_enum ∙ at));
  }

  bare_of : (is other : TypePlanNodeKind) → is ≡ other → HasKindParts other → HasKindParts is
  bare_of is other same so = subst HasKindParts (sym same) so

  opaque_here : (built : Bool) (is : TypePlanNodeKind)
      → is ≡ (if built then TypePlanNodeKind.Transparent else TypePlanNodeKind.Opaque) → HasKindParts is
  opaque_here built is told =
      bare_of is _ told (either HasKindParts built _ _ (bare TypePlanNodeKind.Transparent refl refl)
      (bare TypePlanNodeKind.Opaque refl refl))

  abbrev AllHere : List NodeId → Type 0
  AllHere nodes = All (HasNode plan) nodes

  -- some node is there, and so is each that is read of a list of such
  module _ (first : 0 < length plan.nodes) where
    nth_here : (nodes : List NodeId) (i : ℕ) → AllHere nodes → HasNode plan (nth_node nodes i)
    nth_here nodes i here =
        ⊎_elim (λ inside. here i (record { 0 = 0 }) inside)
        (λ past. subst (HasNode plan) (sym (get_or_past nodes i (record { 0 = 0 }) past)) first) (cases_lt i (length nodes))

    -- Fields.

    module _ (table : Table) (nodes : List NodeId) (here : AllHere nodes) where
      field_here : (placed : Placed) (field : FieldPlan) → IsFieldPlan table plan.lists nodes placed field → HasFieldParts plan field
      field_here placed field is = record {
        node = subst (HasNode plan) (sym is.type_node) (nth_here nodes placed.meant.index here);
        validators = is.validators.inside;
      }

      fields_here : (placed : List Placed) (range : Range) → NamesFields table plan.lists nodes placed range → HasFields plan range
      fields_here placed range names = record {
        inside = names.1.inside;
        each = subst (All (HasFieldParts plan)) (sym names.1.names)
            (zip_all (IsFieldPlan table plan.lists nodes) (HasFieldParts plan) field_here placed names.0 names.2);
      }

    -- Variants.

    module _ (table : Table) (id : ShapeId) where
      variants_here : (k : ℕ) (nodes : List NodeId) (variants : List VariantDef) (plans : List VariantPlanMeta) → AllHere nodes
          → AllZip (IsVariantPlan table plan.lists id) (variants_from k nodes variants) plans → All (HasVariantParts plan) plans
      variants_here k nodes [] [] here all = All-nil (HasVariantParts plan)
      variants_here k nodes [] (told ∷ plans) here all = absurd all
      variants_here k nodes (variant ∷ variants) [] here all = absurd all
      variants_here k nodes (variant ∷ variants) (told ∷ plans) here all =
          let count = length variant.fields in
          let parts : HasVariantParts plan told
          = record {
            fields = fields_here table (take count nodes) (All-take (HasNode plan) count nodes here) _ told.fields all.0.fields;
            lookup = (_, all.0.field_lookup);
          } in
          All-cons (HasVariantParts plan) told plans parts
          (variants_here (k + 1) (drop count nodes) variants plans (All-drop (HasNode plan) count nodes here) all.1)

    -- Kinds.

    module _ (table : Table) (id : ShapeId) (nodes : List NodeId) (shape : Shape) (here : AllHere nodes) where
      struct_here : (struct : StructDef) (is : TypePlanNodeKind)
          → IsSomeAnd (struct_plan_of is) (IsStructPlan table plan.lists id nodes shape struct) → HasKindParts is
      struct_here struct (TypePlanNodeKind.Struct told) planned = record {
        structs = λ found at. subst (HasStructParts plan) (same_Some told found at)
            (record { fields = fields_here table nodes here _ told.fields planned.fields; lookup = (_, planned.field_lookup) });
        enums = λ found at. absurd (none-some found at);
      }
      struct_here struct is planned = absurd planned

      enum_here : (enumeration : EnumDef) (is : TypePlanNodeKind)
          → IsSomeAnd (enum_plan_of is) (IsEnumPlan table plan.lists id nodes enumeration) → HasKindParts is
      enum_here enumeration (TypePlanNodeKind.Enum told) planned = record {
        structs = λ found at. absurd (none-some found at);
        enums = λ found at. subst (HasEnumParts plan) (same_Some told found at) (record {
          inside = planned.variants.1.inside;
          each = subst (All (HasVariantParts plan)) (sym planned.variants.1.names)
              (variants_here table id 0 nodes enumeration.variants planned.variants.0 here planned.variants.2);
        });
      }
      enum_here enumeration is planned = absurd planned

      kind_here : (def : Def) (is : TypePlanNodeKind) → IsKindBy table plan.lists id nodes shape def is → HasKindParts is
      kind_here (Def.Struct struct) is told = struct_here struct is told
      kind_here (Def.Enum enumeration) is told = enum_here enumeration is told
      kind_here (Def.Pointer pointer) is told =
          bare_of is _ told (either HasKindParts (is_some pointer.pointee) _ _ (bare TypePlanNodeKind.Pointer refl refl)
          (bare TypePlanNodeKind.OpaquePointer refl refl))
      kind_here Def.Opaque is told = opaque_here (is_built_from shape) is told
      kind_here Def.Undefined is told = opaque_here (is_built_from shape) is told
      kind_here def is told = bare_of is _ told (bare _ refl refl)

      -- Strategies.

      nth : (i : ℕ) → HasNode plan (nth_node nodes i)
      nth i = nth_here nodes i here

      struct_strategy_here : (struct : StructDef) (kind : StructKind) (transparent : Bool)
          → HasStrategyNodes plan (struct_strategy struct kind transparent)
      struct_strategy_here struct StructKind.Struct transparent = tt
      struct_strategy_here struct StructKind.Unit transparent = tt
      struct_strategy_here struct StructKind.Tuple transparent = tt
      struct_strategy_here struct StructKind.TupleStruct transparent = tt

      by_kind_here : (def : Def) → HasStrategyNodes plan (strategy_by_kind table nodes shape def)
      by_kind_here (Def.Struct struct) = struct_strategy_here struct struct.kind shape.transparent
      by_kind_here (Def.Option t) = nth 0
      by_kind_here (Def.Result t e) = (nth 0, nth 1)
      by_kind_here (Def.List t) = nth 0
      by_kind_here (Def.Map k v) = (nth 0, nth 1)
      by_kind_here (Def.Set t) = nth 0
      by_kind_here (Def.Array t n) = nth 0
      by_kind_here (Def.Slice t) = nth 0
      by_kind_here Def.Other = nth 0
      by_kind_here def = tt

      strategy_here : HasStrategyNodes plan (own_strategy table nodes shape)
      strategy_here =
          either (HasStrategyNodes plan) (has_proxy shape) _ _ tt
          (either (HasStrategyNodes plan) (has_pointee shape.def) _ _ (nth 0)
          (either (HasStrategyNodes plan) shape.metadata _ _ tt
          (either (HasStrategyNodes plan) (is_converted shape) _ _ (nth 0) (by_kind_here shape.def))))

    -- Proxies.

    abbrev EntryHere : List ℕ × NodeId → Type 0
    EntryHere entry = HasNode plan entry.1

    abbrev EntriesHere : List (List ℕ × NodeId) → Type 0
    EntriesHere entries = All EntryHere entries

    zip_here : (formats : List (List ℕ)) (nodes : List NodeId) → AllHere nodes → EntriesHere (zip formats nodes)
    zip_here [] nodes here = All-nil EntryHere
    zip_here (format ∷ formats) [] here = All-nil EntryHere
    zip_here (format ∷ formats) (node ∷ nodes) here =
        All-cons EntryHere (format, node) (zip formats nodes) (All-head (HasNode plan) node nodes here)
        (zip_here formats nodes (All-tail (HasNode plan) node nodes here))

    among_here : (entries : List (List ℕ × NodeId)) (generic : Option NodeId) (format : List ℕ) → EntriesHere entries
        → ((id : NodeId) → generic ≡ Some id → HasNode plan id) → (id : NodeId) → node_among entries generic format ≡ Some id
        → HasNode plan id
    among_here [] generic format here otherwise id at = otherwise id at
    among_here (entry ∷ entries) generic format here otherwise id at =
        either (λ (found : Option NodeId). found ≡ Some id → HasNode plan id) (bytes_eq entry.0 format) (Some entry.1)
        (node_among entries generic format)
        (λ same. subst (HasNode plan) (same_Some entry.1 id same) (All-head EntryHere entry entries here))
        (among_here entries generic format (All-tail EntryHere entry entries here) otherwise id) at

    module _ (proxies : Proxies) (nodes : List NodeId) (is : ProxyNodes) (here : AllHere nodes)
        (told : AreProxyNodes proxies nodes is) where
      generic_here : (id : NodeId) → is.generic ≡ Some id → HasNode plan id
      generic_here id at =
          let found = mapped_by (λ (proxy : ProxyDef). nth_node nodes 0) proxies.generic id (sym told.generic ∙ at) in
          subst (HasNode plan) found.2 (nth_here nodes 0 here)

      entries_here : EntriesHere is.format_specific.items
      entries_here = subst EntriesHere (sym told.format_specific)
          (zip_here (map (λ (formatted : FormatProxy). formatted.format) proxies.by_format) _
          (All-drop (HasNode plan) (length (option_to_list proxies.generic)) nodes here))

      proxies_here : HasProxyNodes plan is
      proxies_here (Some format) id at =
          among_here is.format_specific.items is.generic format entries_here generic_here id at
      proxies_here None id at = generic_here id at

-- Nodes.

module _ (table : Table) (root : ShapeId) (plan : Plan) (is_plan : IsPlanOf table root plan)
    (complete : IsComplete table root (record { walk = plan.walk; node = plan.root })) where
  as_many : length plan.nodes ≡ length plan.walk.nodes
  as_many = AllZip-long (IsNode table plan.lists) plan.walk.nodes plan.nodes is_plan.told

  some_node : 0 < length plan.nodes
  some_node = omega (arith, as_many, complete.last)

  here_all : (nodes : List NodeId) → AreThere plan.walk.nodes nodes → AllHere plan nodes
  here_all nodes there =
      All-weaker (λ (node : NodeId). node.0 < length plan.walk.nodes) (HasNode plan) (λ node inside. omega (arith, as_many, inside))
      nodes there

  module _ (id : ℕ) (outline : Outline) (at : slice_get plan.walk.nodes id ≡ Some outline) (node : TypePlanNode)
      (is : IsNode table plan.lists outline node) where
    children_here : AllHere plan outline.children
    children_here = here_all outline.children (complete.nodes id outline at).children

    by_role : (role : Role) → outline.role ≡ role → IsKindOf table plan.lists outline role node.kind
        → node.strategy ≡ strategy_of table outline role → HasKindParts plan node.kind × HasStrategyNodes plan node.strategy
    by_role Role.Own is_role kind strategy =
        let links = (complete.nodes id outline at).linked is_role in
        let told : IsKindBy table plan.lists outline.shape outline.children links.shape links.shape.def node.kind
        = subst (λ (s : Option Shape). IsOwnKind table plan.lists outline.shape outline.children s node.kind) links.here kind in
        let followed : node.strategy ≡ own_strategy table outline.children links.shape
        = strategy ∙ ap (strategy_in table outline.shape outline.children) links.here in (
          kind_here plan some_node table outline.shape outline.children links.shape children_here links.shape.def node.kind told,
          subst (HasStrategyNodes plan) (sym followed)
              (strategy_here plan some_node table outline.shape outline.children links.shape children_here),
        )
    by_role Role.BackRef is_role kind strategy =
        (bare_of plan node.kind _ kind (bare plan _ refl refl), subst (HasStrategyNodes plan) (sym strategy) tt)
    by_role (Role.FieldProxy field) is_role kind strategy =
        (bare_of plan node.kind _ kind (bare plan _ refl refl), subst (HasStrategyNodes plan) (sym strategy) tt)

    node_here : HasNodeParts plan node
    node_here =
        let parts = by_role outline.role refl is.kind is.strategy in
        record {
          structs = parts.0.structs;
          enums = parts.0.enums;
          strategy = parts.1;
          proxies = proxies_here plan some_node (proxies_in table outline outline.role) outline.sources node.proxies
              (here_all outline.sources (complete.nodes id outline at).sources) is.proxies;
        }

  pub nodes_here : (id : NodeId) (node : TypePlanNode) → node_at plan id ≡ Some node → HasNodeParts plan node
  nodes_here id node at =
      let told = zip_get_right (IsNode table plan.lists) plan.walk.nodes plan.nodes id.0 node is_plan.told at in
      node_here id.0 told.0 told.1 node told.2

  pub own_here : (shape : ShapeId) (id : NodeId) → own_id plan shape ≡ Some id → HasNode plan id
  own_here shape id at = go (slice_get plan.walk.marks shape.0) refl at
    where
      go : (mark : Option Mark) → slice_get plan.walk.marks shape.0 ≡ mark → finished mark ≡ Some id → HasNode plan id
      go (Some (Mark.Done node)) is same =
          let own = complete.done shape node is in
          let inside : node.0 < length plan.walk.nodes = slice_get_within plan.walk.nodes node.0 own.outline own.here in
          subst (HasNode plan) (same_Some node id same) (omega (arith, as_many, inside))
      go (Some Mark.Unseen) is same = absurd (none-some id same)
      go (Some Mark.Building) is same = absurd (none-some id same)
      go None is same = absurd (none-some id same)

-- What is lent at a number.

module _ (table : Table) (root : ShapeId) (plan : Plan) (checked : IsChecked table) (inside : IsIn table root.0)
    (is : IsPlanOf table root plan) (id : NodeId) where
  each_node : (at : NodeId) (node : TypePlanNode) → node_at plan at ≡ Some node → HasNodeParts plan node
  each_node =
      nodes_here table root plan is
      (plans_are_complete table root (record { walk = plan.walk; node = plan.root }) checked inside is.built)

  stands : (node : TypePlanNode) → node_at plan id ≡ Some node → StandsFor plan id node
  stands node at = back_references_resolve table root plan id node checked inside is at

  stands_here : HasNode plan id → HasNode plan (resolved_id plan id)
  stands_here there =
      ⊎_elim (λ found. slice_get_within plan.nodes (resolved_id plan id).0 (resolved plan found.0) (stands found.0 found.2).there)
      (λ past. absurd (omega (arith, past.0, there))) (slice_get_cases plan.nodes id.0).1

  resolved_parts : (node : TypePlanNode) → node_at plan id ≡ Some node → HasNodeParts plan (resolved plan node)
  resolved_parts node at = each_node (resolved_id plan id) (resolved plan node) (stands node at).there

  struct_parts : (struct : StructPlan) → by_id plan (struct_plan_at plan) id ≡ Some struct → HasStructParts plan struct
  struct_parts struct at =
      let found = found_by (struct_plan_at plan) (node_at plan id) struct at in
      (resolved_parts found.0 found.1).structs struct found.2

  enum_parts : (enumeration : EnumPlan) → by_id plan (enum_plan_at plan) id ≡ Some enumeration → HasEnumParts plan enumeration
  enum_parts enumeration at =
      let found = found_by (enum_plan_at plan) (node_at plan id) enumeration at in
      (resolved_parts found.0 found.1).enums enumeration found.2

  variant_parts : (selected : Option ℕ) (variant : VariantPlanMeta) → variant_plan_at plan selected id ≡ Some variant
      → HasVariantParts plan variant
  variant_parts None variant at = absurd (none-some variant at)
  variant_parts (Some k) variant at =
      let node = found_by (λ (node : TypePlanNode). enum_variant plan node k) (node_at plan id) variant at in
      let found = found_by (λ (e : EnumPlan). slice_get (part_of plan.lists.variants e.variants) k) (enum_plan_at plan node.0)
      variant node.2 in
      let parts : HasEnumParts plan found.0 = (resolved_parts node.0 node.1).enums found.0 found.1 in
      all_get (HasVariantParts plan) (part_of plan.lists.variants found.0.variants) k variant parts.each found.2

  range_parts : (selected : Option ℕ) (range : Range) → field_range_at plan selected id ≡ Some range → HasFields plan range
  range_parts None range at =
      let found = mapped_by (λ (struct : StructPlan). struct.fields) (by_id plan (struct_plan_at plan) id) range at in
      subst (HasFields plan) found.2 (struct_parts found.0 found.1).fields
  range_parts (Some k) range at =
      let found = mapped_by (λ (variant : VariantPlanMeta). variant.fields) (variant_plan_at plan (Some k) id) range at in
      subst (HasFields plan) found.2 (variant_parts (Some k) found.0 found.1).fields

  field_parts : (selected : Option ℕ) (fields : List FieldPlan) → field_plans_at plan selected id ≡ Some fields
      → All (HasFieldParts plan) fields
  field_parts selected fields at =
      let found = mapped_by (part_of plan.lists.fields) (field_range_at plan selected id) fields at in
      subst (All (HasFieldParts plan)) found.2 (range_parts selected found.0 found.1).each

  -- a node that has a shape is there
  has_shape : (child : NodeId) (found : Option ShapeId) → Some (shape_at plan child) ≡ option_map (λ (s : ShapeId). Some s) found
      → HasNode plan child
  has_shape child None at = absurd (none-some (shape_at plan child) (sym at))
  has_shape child (Some s) at =
      let node = mapped_by shape_of (node_at plan child) s (same_Some (shape_at plan child) (Some s) at) in
      slice_get_within plan.nodes child.0 node.0 node.1

  child_parts : (step : Step) (child : NodeId) → by_id plan (λ (node : TypePlanNode). looked_up plan node step) id ≡ Some child
      → HasNode plan child
  child_parts step child at =
      let found = found_by (λ (node : TypePlanNode). looked_up plan node step) (node_at plan id) child at in
      has_shape child (child_in table found.0.shape step)
      (sym (ap (option_map (shape_at plan)) found.2) ∙ lookups_agree table root plan id found.0 step checked inside is found.1)

  parts_at : HasPartsAt plan id
  parts_at = record {
    node = each_node id;
    resolved = resolved_parts;
    resolved_id = stands_here;
    structs = struct_parts;
    enums = enum_parts;
    variants = variant_parts;
    fields = field_parts;
    children = child_parts;
  }

pub plans_have_their_parts : PlansHaveTheirParts
plans_have_their_parts table root plan id checked inside is = parts_at table root plan checked inside is id

pub plans_have_own_nodes : PlansHaveOwnNodes
plans_have_own_nodes table root plan shape id checked inside is at =
    own_here table root plan is
    (plans_are_complete table root (record { walk = plan.walk; node = plan.root }) checked inside is.built) shape id at
