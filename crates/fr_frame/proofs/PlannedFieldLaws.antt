-- What a plan of a checked table says of the fields of a struct, and of a variant.
use Rattle.std.proofs.Common.{◌≡◌, ℕ, zero, suc, ◌+◌, ◌≤◌, Bool, true, false, List, [], ◌∷◌, length, take, drop, Option, Some, None, IsSomeAnd, slice_get, refl, sym, ◌∙◌, ap, subst, arith, ⊎_elim, if◌then◌else◌}
use Rattle.std.specs.List.{AllZip}
use Rattle.fr_frame.specs.Common.{AreTold, Def, Field, FieldPlan, HasValidators, IsChecked, IsFullAs, IsPlanFor, IsPlanned, NodeId, Plan, Table, TypePlanNode, VariantDef, as_fields, def_of, field_in, field_of_variant, fill_of_field, fill_told, is_some, option_and_then, option_map, part_of, shape_of, strict_column, unwrap_or}
use Rattle.std.proofs.lemmas.Option.{slice_get_cases}
use Rattle.std.proofs.lemmas.Slice.Zip.{AllZip-long}
use Rattle.fr_shape.specs.declared.shape.Shape.{Shape}
use Rattle.fr_shape.specs.declared.shape.ShapeId.{ShapeId}
use Rattle.fr_shape.specs.declared.shape.EnumDef.{EnumDef}
use Rattle.fr_shape.specs.Look.{def_or_other}
use Rattle.fr_shape.specs.Plannable.{Reached}
use Rattle.fr_rules.specs.FillLaws.{told_is_fill}
use Rattle.fr_model.specs.Well.{HasFieldsOf}
use Rattle.fr_plan.specs.declared.nodes.TypePlanNodeKind.{TypePlanNodeKind}
use Rattle.fr_plan.specs.declared.outlines.Outline.{Outline}
use Rattle.fr_plan.specs.declared.outlines.Role.{Role}
use Rattle.fr_plan.specs.declared.plans.EnumPlan.{EnumPlan}
use Rattle.fr_plan.specs.declared.plans.StructPlan.{StructPlan}
use Rattle.fr_plan.specs.declared.plans.VariantPlanMeta.{VariantPlanMeta}
use Rattle.fr_plan.specs.Build.{Placed, fields_from}
use Rattle.fr_plan.specs.LookupLaws.{StandsFor, BackReferencesResolve, shape_of as shape_of_node}
use Rattle.fr_plan.specs.Lookups.{node_at, resolved, resolved_id, struct_plan_at, enum_plan_at, by_id}
use Rattle.fr_plan.specs.Nodes.{struct_plan_of, enum_plan_of, is_built_from, IsKindBy, IsOwnKind, IsKindOf, IsNode}
use Rattle.fr_plan.specs.PlanLaws.{IsComplete, PlansAreComplete}
use Rattle.fr_plan.specs.Plans.{IsStructPlan, IsEnumPlan, IsFieldPlan, IsVariantPlan, NamesFields, variants_from}
use Rattle.fr_arena.specs.Ranges.{Range}
use Rattle.fr_frame.specs.Filling.{IsToldAt}

-- The kind of a node that doesn't refer back.

zip_there : {A B : Type 0} (Q : A → B → Type 0) (xs : List A) (ys : List B) → AllZip Q xs ys → (k : ℕ) (y : B)
    → slice_get ys k ≡ Some y → (x : A) × (slice_get xs k ≡ Some x) × Q x y
zip_there Q [] [] h k y e = let no : None ≡ Some y = e in absurd (cc)
zip_there Q (x ∷ xs) (z ∷ ys) h zero y e =
    let same : z ≡ y = cc in
    (x, refl, subst (Q x) same h.0)
zip_there Q (x ∷ xs) (z ∷ ys) h (suc k) y e = zip_there Q xs ys h.1 k y e
zip_there Q _ _ h k y e = absurd h

record HasKind (table : Table) (plan : Plan) (s : ℕ) (is : TypePlanNodeKind) : Type 0 where
  nodes : List NodeId
  shape : Shape
  there : slice_get table s ≡ Some shape
  told : IsKindBy table plan.lists (record { 0 = s }) nodes shape shape.def is

module _ (table : Table) (plan : Plan) (outline : Outline) (is : TypePlanNodeKind)
    (apart : (target : ShapeId) → is ≡ TypePlanNodeKind.BackRef target → ⊥) where
  kind_own : (shape : Option Shape) → slice_get table outline.shape.0 ≡ shape
      → IsOwnKind table plan.lists outline.shape outline.children shape is → HasKind table plan outline.shape.0 is
  kind_own None at told = absurd (apart outline.shape told)
  kind_own (Some shape) at told = record { nodes = outline.children; shape = shape; there = at; told = told }

  kind_by_role : (role : Role) → IsKindOf table plan.lists outline role is → HasKind table plan outline.shape.0 is
  kind_by_role Role.Own told = kind_own (slice_get table outline.shape.0) refl told
  kind_by_role _ told = absurd (apart outline.shape told)

module _ (resolve : BackReferencesResolve) {plan : Plan} {id : NodeId} (p : IsPlanned plan id) where
  kind_at : (node : TypePlanNode) → node_at plan id ≡ Some node → HasKind p.table plan node.shape.0 (resolved plan node).kind
  kind_at node at =
      let stands : StandsFor plan id node = resolve p.table p.planned.root plan id node p.checked p.planned.inside
      p.planned.planned at in
      let pair = zip_there (IsNode p.table plan.lists) plan.walk.nodes plan.nodes p.planned.planned.told (resolved_id plan id).0
      (resolved plan node) stands.there in
      subst (λ (shape : ShapeId). HasKind p.table plan shape.0 (resolved plan node).kind) (sym pair.2.shape ∙ stands.shape)
      (kind_by_role p.table plan pair.0 (resolved plan node).kind stands.kind pair.0.role pair.2.kind)

  -- what is looked up by the kind of the node under this number
  looked_up : {X : Type 0} (by_kind : TypePlanNodeKind → Option X) (For : ℕ → Option X → Type 0)
      → ((s : ℕ) (is : TypePlanNodeKind) → HasKind p.table plan s is → For s (by_kind is)) → (found : Option X)
      → found ≡ by_id plan (λ (node : TypePlanNode). by_kind (resolved plan node).kind) id → For (shape_of plan id) found
  looked_up by_kind For so found e =
      let here : (node : TypePlanNode) × (slice_get plan.nodes id.0 ≡ Some node)
      = ⊎_elim (λ at. (at.0, at.2)) (λ past. absurd (omega (arith, past.0, p.inside))) (slice_get_cases plan.nodes id.0).1 in
      subst (For (shape_of plan id)) (sym e) (subst (λ (node : Option TypePlanNode).
      For (unwrap_or (option_map shape_of_node node) (record { 0 = 0 })).0
      (option_and_then (λ (x : TypePlanNode). by_kind (resolved plan x).kind) node))
      (sym here.1) (so here.0.shape.0 (resolved plan here.0).kind (kind_at here.0 here.1)))

-- a node is of a shape that the plan's root reaches
pub node_reached : PlansAreComplete → (table : Table) (plan : Plan) → IsChecked table → (planned : IsPlanFor table plan)
    → (id : NodeId) (node : TypePlanNode) → node_at plan id ≡ Some node → Reached table planned.root.0 node.shape.0
node_reached complete table plan checked planned id node at =
    let pair = zip_there (IsNode table plan.lists) plan.walk.nodes plan.nodes planned.planned.told id.0 node at in
    let made : IsComplete table planned.root (record { walk = plan.walk; node = plan.root })
    = complete table planned.root (record { walk = plan.walk; node = plan.root }) checked planned.inside planned.planned.built in
    subst (λ (shape : ShapeId). Reached table planned.root.0 shape.0) (sym pair.2.shape) (made.nodes id.0 pair.0 pair.1).reached

-- What the plan says of some fields.

-- what two lists in step have at one place is so, or neither has one there
abbrev Both : {A B : Type 0} (Q : A → B → Type 0) → Option A → Option B → Type 0
Both Q (Some x) (Some y) = Q x y
Both Q None None = Unit {0}
Both Q _ _ = ⊥

module _ (table : Table) (plan : Plan) (s : ℕ) (selected : Option ℕ) where
  -- the plan tells of these fields, within its list
  pub record NamesTold (range : Range) : Type 0 where
    pub inside : range.start + range.len ≤ length plan.lists.fields
    pub told : AreTold table plan s selected (part_of plan.lists.fields range)

  abbrev placed : ℕ → Field → Placed
  placed i field = record { meant = record { shape = record { 0 = s }; variant = selected; index = i }; field = field }

  abbrev Says : (nodes : List NodeId) → ℕ → Field → FieldPlan → Type 0
  Says nodes i field told = IsFieldPlan table plan.lists nodes (placed i field) told

  says_at : (nodes : List NodeId) (k : ℕ) (fields : List Field) (plans : List FieldPlan)
      → AllZip (IsFieldPlan table plan.lists nodes) (fields_from (record { 0 = s }) selected k fields) plans
      → (i n : ℕ) → n ≡ k + i → Both (Says nodes n) (slice_get fields i) (slice_get plans i)
  says_at nodes k [] [] h i n e = tt
  says_at nodes k (field ∷ fields) (told ∷ plans) h zero n e =
      let here : k ≡ n = omega arith in
      subst (λ (m : ℕ). Says nodes m field told) here h.0
  says_at nodes k (field ∷ fields) (told ∷ plans) h (suc i) n e = says_at nodes (k + 1) fields plans h.1 i n (omega arith)
  says_at nodes k _ _ h i n e = absurd h

  placed_count : (k : ℕ) (fields : List Field) → length (fields_from (record { 0 = s }) selected k fields) ≡ length fields
  placed_count k [] = refl
  placed_count k (field ∷ fields) = ap suc (placed_count (k + 1) fields)

  told_of : (nodes : List NodeId) (i : ℕ) (field : Option Field) (told : Option FieldPlan)
      → field_in (def_of table s) selected i ≡ field → Both (Says nodes i) field told → IsToldAt table plan s selected i told
  told_of nodes i (Some field) (Some told) at says = record {
    field = field;
    here = at;
    meant = says.field;
    fill =
        ap (fill_told table) says.fill_rule ∙ told_is_fill table (placed i field).meant field at
        ∙ sym (ap (fill_of_field strict_column table s (is_some selected)) at);
    validators = says.validators;
  }
  told_of nodes i None None at says = at
  told_of nodes i _ _ at says = absurd says

  module _ (def : Def) (is : def_of table s ≡ def) where
    fields_told : (fields : List Field) → ((i : ℕ) → field_in def selected i ≡ slice_get fields i)
        → ((n : ℕ) → IsFullAs def (as_fields selected) n → n ≡ length fields) → (nodes : List NodeId) (range : Range)
        → NamesFields table plan.lists nodes (fields_from (record { 0 = s }) selected 0 fields) range → NamesTold range
    fields_told fields are full nodes range names = record {
      inside = names.1.inside;
      told = subst (AreTold table plan s selected) (sym names.1.names) (record {
        each = λ i. told_of nodes i (slice_get fields i) (slice_get names.0 i)
            (ap (λ (d : Def). field_in d selected i) is ∙ are i) (says_at nodes 0 fields names.0 names.2 i i (omega arith));
        count = λ n so. full n (subst (λ (d : Def). IsFullAs d (as_fields selected) n) is so) ∙ sym (placed_count 0 fields)
            ∙ sym (AllZip-long (IsFieldPlan table plan.lists nodes) (fields_from (record { 0 = s }) selected 0 fields)
            names.0 names.2);
      });
    }

    none_told : ((i : ℕ) → field_in def selected i ≡ None) → ((n : ℕ) → IsFullAs def (as_fields selected) n → ⊥)
        → AreTold table plan s selected []
    none_told nowhere never = record {
      each = λ i. ap (λ (d : Def). field_in d selected i) is ∙ nowhere i;
      count = λ n so. absurd (never n (subst (λ (d : Def). IsFullAs d (as_fields selected) n) is so));
    }

module _ {table : Table} {plan : Plan} {s : ℕ} {selected : Option ℕ} {told : List FieldPlan}
    (are : AreTold table plan s selected told) (i : ℕ) where
  pub has_told : HasValidators plan (slice_get told i)
  has_told = go (slice_get told i) (are.each i)
    where
      go : (one : Option FieldPlan) → IsToldAt table plan s selected i one → HasValidators plan one
      go (Some one) is = is.validators.inside
      go None is = tt

-- Structs and enums.

-- the kind has neither the plan of a struct nor that of an enum
abbrev IsBare : TypePlanNodeKind → Type 0
IsBare is = (struct_plan_of is ≡ None) × (enum_plan_of is ≡ None)

bare_if : (b : Bool) (x y : TypePlanNodeKind) → IsBare x → IsBare y → IsBare (if b then x else y)
bare_if true x y this that = this
bare_if false x y this that = that

abbrev is_plain : Def → Bool
is_plain (Def.Struct struct) = false
is_plain (Def.Enum enumeration) = false
is_plain _ = true

struct_no_enum : (P : StructPlan → Type 0) (is : TypePlanNodeKind) → IsSomeAnd (struct_plan_of is) P → enum_plan_of is ≡ None
struct_no_enum P (TypePlanNodeKind.Enum found) told = absurd told
struct_no_enum P is told = refl

enum_no_struct : (P : EnumPlan → Type 0) (is : TypePlanNodeKind) → IsSomeAnd (enum_plan_of is) P → struct_plan_of is ≡ None
enum_no_struct P (TypePlanNodeKind.Struct found) told = absurd told
enum_no_struct P is told = refl

-- a struct's node tells of its fields, any other of none
abbrev pub FoundFor : Table → Plan → ℕ → Option StructPlan → Type 0
FoundFor table plan s (Some found) = NamesTold table plan s None found.fields
FoundFor table plan s None = AreTold table plan s None []

-- a variant's plan tells of its fields, and where there is no such variant there are none
abbrev pub VariantFor : Table → Plan → ℕ → ℕ → Option VariantPlanMeta → Type 0
VariantFor table plan s k (Some one) = NamesTold table plan s (Some k) one.fields
VariantFor table plan s k None = AreTold table plan s (Some k) []

pub record IsEnumFound (table : Table) (plan : Plan) (s : ℕ) (found : EnumPlan) : Type 0 where
  pub inside : found.variants.start + found.variants.len ≤ length plan.lists.variants
  pub variants : (k : ℕ) → VariantFor table plan s k (slice_get (part_of plan.lists.variants found.variants) k)

-- an enum's node tells of its variants, any other of none
abbrev pub EnumFor : Table → Plan → ℕ → Option EnumPlan → Type 0
EnumFor table plan s (Some found) = IsEnumFound table plan s found
EnumFor table plan s None = (k : ℕ) → AreTold table plan s (Some k) []

module _ (table : Table) (plan : Plan) (s : ℕ) (nodes : List NodeId) where
  abbrev SaysOf : ℕ → VariantDef → VariantPlanMeta → Type 0
  SaysOf n variant told =
      (of_fields : List NodeId)
      × NamesFields table plan.lists of_fields (fields_from (record { 0 = s }) (Some n) 0 variant.fields) told.fields

  variant_at : (nodes : List NodeId) (k : ℕ) (variants : List VariantDef) (plans : List VariantPlanMeta)
      → AllZip (IsVariantPlan table plan.lists (record { 0 = s })) (variants_from k nodes variants) plans → (i n : ℕ) → n ≡ k + i
      → Both (SaysOf n) (slice_get variants i) (slice_get plans i)
  variant_at nodes k [] [] h i n e = tt
  variant_at nodes k (variant ∷ variants) (told ∷ plans) h zero n e =
      let here : k ≡ n = omega arith in
      subst (λ (m : ℕ). SaysOf m variant told) here (take (length variant.fields) nodes, h.0.fields)
  variant_at nodes k (variant ∷ variants) (told ∷ plans) h (suc i) n e =
      variant_at (drop (length variant.fields) nodes) (k + 1) variants plans h.1 i n (omega arith)
  variant_at nodes k _ _ h i n e = absurd h

  module _ (enumeration : EnumDef) (at : def_of table s ≡ Def.Enum enumeration) where
    variant_of : (k : ℕ) (variant : Option VariantDef) → slice_get enumeration.variants k ≡ variant
        → (told : Option VariantPlanMeta) → Both (SaysOf k) variant told → VariantFor table plan s k told
    variant_of k (Some variant) there (Some told) says =
        fields_told table plan s (Some k) (Def.Enum enumeration) at variant.fields
        (λ i. ap (λ (v : Option VariantDef). field_of_variant v i) there)
        (λ n full. subst (λ (v : Option VariantDef). HasFieldsOf v n) there full) says.0 told.fields says.1
    variant_of k None past None says =
        none_told table plan s (Some k) (Def.Enum enumeration) at (λ i. ap (λ (v : Option VariantDef). field_of_variant v i) past)
        (λ n full. subst (λ (v : Option VariantDef). HasFieldsOf v n) past full)
    variant_of k _ there _ says = absurd says

    enum_told : (found : Option EnumPlan) → IsSomeAnd found (IsEnumPlan table plan.lists (record { 0 = s }) nodes enumeration)
        → EnumFor table plan s found
    enum_told None some = absurd some
    enum_told (Some found) told = record {
      inside = told.variants.1.inside;
      variants = λ k. subst (λ (plans : List VariantPlanMeta). VariantFor table plan s k (slice_get plans k))
          (sym told.variants.1.names) (variant_of k (slice_get enumeration.variants k) refl (slice_get told.variants.0 k)
          (variant_at nodes 0 enumeration.variants told.variants.0 told.variants.2 k k (omega arith)));
    }

  module _ (shape : Shape) (is : TypePlanNodeKind) where
    abbrev IsKind : Def → Type 0
    IsKind def = IsKindBy table plan.lists (record { 0 = s }) nodes shape def is

    bare : (def : Def) → is_plain def ≡ true → IsKind def → IsBare is
    bare (Def.Struct struct) plain told = absurd (cc)
    bare (Def.Enum enumeration) plain told = absurd (cc)
    bare (Def.Pointer pointer) plain told =
        subst IsBare (sym told)
        (bare_if (is_some pointer.pointee) TypePlanNodeKind.Pointer TypePlanNodeKind.OpaquePointer (refl, refl) (refl, refl))
    bare Def.Opaque plain told =
        subst IsBare (sym told) (bare_if (is_built_from shape) TypePlanNodeKind.Transparent TypePlanNodeKind.Opaque
        (refl, refl) (refl, refl))
    bare Def.Undefined plain told =
        subst IsBare (sym told) (bare_if (is_built_from shape) TypePlanNodeKind.Transparent TypePlanNodeKind.Opaque
        (refl, refl) (refl, refl))
    bare _ plain told = subst IsBare (sym told) (refl, refl)

    struct_of : (def : Def) → def_of table s ≡ def → IsKind def → FoundFor table plan s (struct_plan_of is)
    struct_of (Def.Struct struct) at told = go (struct_plan_of is) told
      where
        go : (found : Option StructPlan) → IsSomeAnd found (IsStructPlan table plan.lists (record { 0 = s }) nodes shape struct)
            → FoundFor table plan s found
        go None some = absurd some
        go (Some found) says =
            fields_told table plan s None (Def.Struct struct) at struct.fields (λ i. refl) (λ n full. full) nodes
            found.fields says.fields
    struct_of (Def.Enum enumeration) at told =
        subst (FoundFor table plan s)
        (sym (enum_no_struct (IsEnumPlan table plan.lists (record { 0 = s }) nodes enumeration) is told))
        (none_told table plan s None (Def.Enum enumeration) at (λ i. refl) (λ n full. full))
    struct_of def at told =
        subst (FoundFor table plan s) (sym (bare def refl told).0) (none_told table plan s None def at (λ i. refl)
        (λ n full. full))

    enum_of : (def : Def) → def_of table s ≡ def → IsKind def → EnumFor table plan s (enum_plan_of is)
    enum_of (Def.Enum enumeration) at told = enum_told enumeration at (enum_plan_of is) told
    enum_of (Def.Struct struct) at told =
        subst (EnumFor table plan s)
        (sym (struct_no_enum (IsStructPlan table plan.lists (record { 0 = s }) nodes shape struct) is told))
        (λ k. none_told table plan s (Some k) (Def.Struct struct) at (λ i. refl) (λ n full. full))
    enum_of def at told =
        subst (EnumFor table plan s) (sym (bare def refl told).1) (λ k. none_told table plan s (Some k) def at (λ i. refl)
        (λ n full. full))

module _ (resolve : BackReferencesResolve) {plan : Plan} {id : NodeId} (p : IsPlanned plan id) where
  pub struct_found : {found : Option StructPlan} → found ≡ by_id plan (struct_plan_at plan) id
      → FoundFor p.table plan (shape_of plan id) found
  struct_found {found} e =
      looked_up resolve p struct_plan_of (FoundFor p.table plan)
      (λ s is kind. struct_of p.table plan s kind.nodes kind.shape is kind.shape.def (ap def_or_other kind.there)
      kind.told) found e

  pub enum_found : {found : Option EnumPlan} → found ≡ by_id plan (enum_plan_at plan) id
      → EnumFor p.table plan (shape_of plan id) found
  enum_found {found} e =
      looked_up resolve p enum_plan_of (EnumFor p.table plan)
      (λ s is kind. enum_of p.table plan s kind.nodes kind.shape is kind.shape.def (ap def_or_other kind.there) kind.told) found e

pub variant_found : {table : Table} {plan : Plan} {s : ℕ} {found : EnumPlan} → IsEnumFound table plan s found
    → {plans : List VariantPlanMeta}
    {one : Option VariantPlanMeta} (k : ℕ) → one ≡ slice_get plans k → plans ≡ part_of plan.lists.variants found.variants
    → VariantFor table plan s k one
variant_found {table} {plan} {s} {found} is {plans} {one} k there named =
    subst (VariantFor table plan s k) (sym (there ∙ ap (λ (l : List VariantPlanMeta). slice_get l k) named)) (is.variants k)
