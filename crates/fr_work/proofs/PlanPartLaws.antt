-- What a plan has of the place of one of its nodes: the plans of a struct, of an enum and of its variants, as the table describes them.
use Rattle.std.proofs.Common.{◌≡◌, ℕ, zero, suc, ◌+◌, ◌<◌, Bool, true, false, List, [], ◌∷◌, length, take, drop, Option, Some, None, is_some, slice_get, refl, sym, ◌∙◌, ap, subst}
use Rattle.std.specs.List.{AllZip}
use Rattle.std.specs.Option.{option_and_then, option_map_or}
use Rattle.std.specs.Prelude.{◌≢◌, IsSomeAnd, if◌then◌else◌}
use Rattle.fr_shape.specs.declared.shape.Def.{Def}
use Rattle.fr_shape.specs.declared.shape.EnumDef.{EnumDef}
use Rattle.fr_shape.specs.declared.shape.Shape.{Shape}
use Rattle.fr_shape.specs.declared.shape.ShapeId.{ShapeId}
use Rattle.fr_shape.specs.declared.shape.StructDef.{StructDef}
use Rattle.fr_shape.specs.declared.shape.VariantDef.{VariantDef}
use Rattle.fr_shape.specs.Checked.{IsChecked}
use Rattle.fr_shape.specs.Look.{IsIn, Table, def_of, def_or_other, variants_of}
use Rattle.fr_rules.specs.Pools.{part_of}
use Rattle.fr_model.specs.Variants.{is_enum}
use Rattle.fr_plan.specs.Fields.{fields_in}
use Rattle.fr_plan.specs.LookupLaws.{BackReferencesResolve, StandsFor}
use Rattle.fr_plan.specs.Lookups.{by_id, enum_plan_at, enum_variant, node_at, resolved, resolved_id, struct_plan_at}
use Rattle.fr_plan.specs.Nodes.{IsKindBy, IsKindOf, IsNode, IsOwnKind, enum_plan_of, is_built_from, opaque_kind, pointer_kind, struct_plan_of}
use Rattle.fr_plan.specs.Plans.{IsEnumPlan, IsStructPlan, IsVariantPlan, PlacedVariant, variants_from}
use Rattle.fr_plan.specs.TypePlan.{IsPlanOf, Plan}
use Rattle.fr_plan.specs.declared.nodes.NodeId.{NodeId}
use Rattle.fr_plan.specs.declared.nodes.TypePlanNode.{TypePlanNode}
use Rattle.fr_plan.specs.declared.nodes.TypePlanNodeKind.{TypePlanNodeKind}
use Rattle.fr_plan.specs.declared.outlines.Outline.{Outline}
use Rattle.fr_plan.specs.declared.outlines.Role.{Role}
use Rattle.fr_plan.specs.declared.plan_lists.PlanLists.{PlanLists}
use Rattle.fr_plan.specs.declared.plans.EnumPlan.{EnumPlan}
use Rattle.fr_plan.specs.declared.plans.StructPlan.{StructPlan}
use Rattle.fr_plan.specs.declared.plans.VariantPlanMeta.{VariantPlanMeta}
use Rattle.fr_work.specs.PlanParts.{Finds, HasParts, IsWithin}
use Rattle.fr_work.specs.Readings.{is_struct, variant_plan_at}
use Rattle.fr_work.proofs.ReachedShapes.{beside}

-- Lists side by side.

pub zip_some : {A B : Type 0} (R : A → B → Type 0) (xs : List A) (ys : List B) (i : ℕ) → AllZip R xs ys
    → is_some (slice_get xs i) ≡ is_some (slice_get ys i)
zip_some R [] [] i all = refl
zip_some R [] (y ∷ ys) i all = absurd all
zip_some R (x ∷ xs) [] i all = absurd all
zip_some R (x ∷ xs) (y ∷ ys) zero all = refl
zip_some R (x ∷ xs) (y ∷ ys) (suc i) all = zip_some R xs ys i all.1

placed_some : (first : ℕ) (nodes : List NodeId) (variants : List VariantDef) (k : ℕ)
    → is_some (slice_get (variants_from first nodes variants) k) ≡ is_some (slice_get variants k)
placed_some first nodes [] k = refl
placed_some first nodes (variant ∷ variants) zero = refl
placed_some first nodes (variant ∷ variants) (suc k) =
    placed_some (first + 1) (drop (length variant.fields) nodes) variants k

placed_is : (first : ℕ) (nodes : List NodeId) (variants : List VariantDef) (k : ℕ) (placed : PlacedVariant)
    → slice_get (variants_from first nodes variants) k ≡ Some placed → slice_get variants k ≡ Some placed.variant
placed_is first nodes [] k placed e = cc
placed_is first nodes (variant ∷ variants) zero placed e =
    let same : record { number = first; variant = variant; nodes = take (length variant.fields) nodes } ≡ placed = cc in
    ap (λ (p : PlacedVariant). Some p.variant) same
placed_is first nodes (variant ∷ variants) (suc k) placed e =
    placed_is (first + 1) (drop (length variant.fields) nodes) variants k placed e

-- Kinds.

abbrev pub is_back : TypePlanNodeKind → Bool
is_back (TypePlanNodeKind.BackRef target) = true
is_back _ = false

-- neither a struct's nor an enum's, and no reference back
abbrev pub IsOther : TypePlanNodeKind → Type 0
IsOther kind = (struct_plan_of kind ≡ None) × (enum_plan_of kind ≡ None) × (is_back kind ≡ false)

pointer_other : (there : Bool) → IsOther (if there then TypePlanNodeKind.Pointer else TypePlanNodeKind.OpaquePointer)
pointer_other true = (refl, refl, refl)
pointer_other false = (refl, refl, refl)

opaque_other : (built : Bool) → IsOther (if built then TypePlanNodeKind.Transparent else TypePlanNodeKind.Opaque)
opaque_other true = (refl, refl, refl)
opaque_other false = (refl, refl, refl)

struct_is : (kind : TypePlanNodeKind) (plan : StructPlan) → struct_plan_of kind ≡ Some plan → kind ≡ TypePlanNodeKind.Struct plan
struct_is (TypePlanNodeKind.Struct other) plan e =
    let same : other ≡ plan = cc in
    ap (λ (p : StructPlan). TypePlanNodeKind.Struct p) same
struct_is _ plan e = cc

enum_is : (kind : TypePlanNodeKind) (plan : EnumPlan) → enum_plan_of kind ≡ Some plan → kind ≡ TypePlanNodeKind.Enum plan
enum_is (TypePlanNodeKind.Enum other) plan e =
    let same : other ≡ plan = cc in
    ap (λ (p : EnumPlan). TypePlanNodeKind.Enum p) same
enum_is _ plan e = cc

some_and : {A : Type 0} (P : A → Type 0) (found : Option A) → IsSomeAnd found P → (x : A) × (found ≡ Some x) × P x
some_and P (Some x) is = (x, refl, is)
some_and P None is = absurd is

-- what the kind of a shape's own node is, by the shape's definition
pub data KindOf (table : Table) (lists : PlanLists) (id : ShapeId) (nodes : List NodeId) (shape : Shape) (def : Def) (kind : TypePlanNodeKind) : Type 0 where
  a_struct :
      (struct : StructDef) (plan : StructPlan) → def ≡ Def.Struct struct → kind ≡ TypePlanNodeKind.Struct plan
      → IsStructPlan table lists id nodes shape struct plan → KindOf table lists id nodes shape def kind
  an_enum :
      (enumeration : EnumDef) (plan : EnumPlan) → def ≡ Def.Enum enumeration → kind ≡ TypePlanNodeKind.Enum plan
      → IsEnumPlan table lists id nodes enumeration plan → KindOf table lists id nodes shape def kind
  another :
      is_struct def ≡ false → is_enum def ≡ false → fields_in def None ≡ [] → variants_of def ≡ [] → IsOther kind
      → KindOf table lists id nodes shape def kind

module _ (table : Table) (lists : PlanLists) (id : ShapeId) (nodes : List NodeId) (shape : Shape) (kind : TypePlanNodeKind) where
  other_by : (def : Def) (told : TypePlanNodeKind) → is_struct def ≡ false → is_enum def ≡ false → fields_in def None ≡ []
      → variants_of def ≡ [] → IsOther told → kind ≡ told → KindOf table lists id nodes shape def kind
  other_by def told no_struct no_enum no_fields no_variants other e =
      another no_struct no_enum no_fields no_variants (subst IsOther (sym e) other)

  pub kind_of : (def : Def) → IsKindBy table lists id nodes shape def kind → KindOf table lists id nodes shape def kind
  kind_of (Def.Struct struct) is =
      let found = some_and (IsStructPlan table lists id nodes shape struct) (struct_plan_of kind) is in
      a_struct struct found.0 refl (struct_is kind found.0 found.1) found.2
  kind_of (Def.Enum enumeration) is =
      let found = some_and (IsEnumPlan table lists id nodes enumeration) (enum_plan_of kind) is in
      an_enum enumeration found.0 refl (enum_is kind found.0 found.1) found.2
  kind_of (Def.Pointer pointer) is =
      other_by (Def.Pointer pointer) (pointer_kind pointer) refl refl refl refl (pointer_other (is_some pointer.pointee)) is
  kind_of Def.Opaque is = other_by Def.Opaque (opaque_kind shape) refl refl refl refl (opaque_other (is_built_from shape)) is
  kind_of Def.Undefined is = other_by Def.Undefined (opaque_kind shape) refl refl refl refl (opaque_other (is_built_from shape)) is
  kind_of (Def.Scalar scalar) is = other_by (Def.Scalar scalar) _ refl refl refl refl (refl, refl, refl) is
  kind_of Def.Str is = other_by Def.Str _ refl refl refl refl (refl, refl, refl) is
  kind_of (Def.Option t) is = other_by (Def.Option t) _ refl refl refl refl (refl, refl, refl) is
  kind_of (Def.Result t e) is = other_by (Def.Result t e) _ refl refl refl refl (refl, refl, refl) is
  kind_of (Def.List t) is = other_by (Def.List t) _ refl refl refl refl (refl, refl, refl) is
  kind_of (Def.Map k v) is = other_by (Def.Map k v) _ refl refl refl refl (refl, refl, refl) is
  kind_of (Def.Set t) is = other_by (Def.Set t) _ refl refl refl refl (refl, refl, refl) is
  kind_of (Def.Array t n) is = other_by (Def.Array t n) _ refl refl refl refl (refl, refl, refl) is
  kind_of (Def.Slice t) is = other_by (Def.Slice t) _ refl refl refl refl (refl, refl, refl) is
  kind_of Def.Dynamic is = other_by Def.Dynamic _ refl refl refl refl (refl, refl, refl) is
  kind_of Def.Other is = other_by Def.Other _ refl refl refl refl (refl, refl, refl) is

-- The node that one stands for is its shape's own.

pub record IsOwn (table : Table) (plan : Plan) (id : NodeId) (node : TypePlanNode) : Type 0 where
  pub outline : Outline
  pub listed : slice_get plan.walk.nodes (resolved_id plan id).0 ≡ Some outline
  pub role : outline.role ≡ Role.Own
  pub shape : Shape
  pub described : slice_get table outline.shape.0 ≡ Some shape
  pub same : outline.shape ≡ node.shape
  pub kind : KindOf table plan.lists outline.shape outline.children shape shape.def (resolved plan node).kind

own_by : (table : Table) (plan : Plan) (id : NodeId) (node : TypePlanNode) (outline : Outline)
    → slice_get plan.walk.nodes (resolved_id plan id).0 ≡ Some outline → outline.shape ≡ node.shape
    → ((target : ShapeId) → (resolved plan node).kind ≢ TypePlanNodeKind.BackRef target) → (role : Role) → outline.role ≡ role
    → IsKindOf table plan.lists outline role (resolved plan node).kind → IsOwn table plan id node
own_by table plan id node outline listed same never Role.BackRef is kind = absurd (never outline.shape kind)
own_by table plan id node outline listed same never (Role.FieldProxy field) is kind = absurd (never outline.shape kind)
own_by table plan id node outline listed same never Role.Own is kind = go (slice_get table outline.shape.0) refl kind
  where
    go : (found : Option Shape) → slice_get table outline.shape.0 ≡ found
        → IsOwnKind table plan.lists outline.shape outline.children found (resolved plan node).kind → IsOwn table plan id node
    go None e kind = absurd (never outline.shape kind)
    go (Some shape) e kind = record {
      outline = outline;
      listed = listed;
      role = is;
      shape = shape;
      described = e;
      same = same;
      kind = kind_of table plan.lists outline.shape outline.children shape (resolved plan node).kind shape.def kind;
    }

pub own_of : BackReferencesResolve → (table : Table) (root : ShapeId) (plan : Plan) → IsChecked table → IsIn table root.0
    → IsPlanOf table root plan → (id : NodeId) (node : TypePlanNode) → node_at plan id ≡ Some node → IsOwn table plan id node
own_of resolve table root plan checked inside planned id node there =
    let stands : StandsFor plan id node = resolve table root plan id node checked inside planned there in
    let found = beside (IsNode table plan.lists) plan.walk.nodes plan.nodes (resolved_id plan id).0 (resolved plan node) planned.told
    stands.there in
    own_by table plan id node found.other found.there (sym found.holds.shape ∙ stands.shape) stands.kind found.other.role refl
    found.holds.kind

-- What it has.

module _ (table : Table) (plan : Plan) (id : NodeId) (node : TypePlanNode) (there : node_at plan id ≡ Some node)
    (own : IsOwn table plan id node) where
  abbrev kind : TypePlanNodeKind
  kind = (resolved plan node).kind

  struct_there : by_id plan (struct_plan_at plan) id ≡ struct_plan_of kind
  struct_there = ap (option_and_then (struct_plan_at plan)) there

  enum_there : by_id plan (enum_plan_at plan) id ≡ enum_plan_of kind
  enum_there = ap (option_and_then (enum_plan_at plan)) there

  abbrev nth_in : ℕ → EnumPlan → Option VariantPlanMeta
  nth_in k enumeration = slice_get (part_of plan.lists.variants enumeration.variants) k

  variant_there : (k : ℕ) → variant_plan_at plan (Some k) id ≡ option_and_then (nth_in k) (enum_plan_of kind)
  variant_there k = ap (option_and_then (λ (n : TypePlanNode). enum_variant plan n k)) there

  some_same : {A : Type 0} {x y : A} → Some x ≡ Some y → x ≡ y
  some_same e = cc

  never_some : {A : Type 0} {x : A} → None ≡ Some x → ⊥
  never_some e = cc

  module _ (inside : id.0 < length plan.nodes) where
    by_kind : KindOf table plan.lists own.outline.shape own.outline.children own.shape own.shape.def kind
        → HasParts plan id own.shape.def
    by_kind (a_struct struct told def_is kind_is planned) =
        let there_is : by_id plan (struct_plan_at plan) id ≡ Some told = struct_there ∙ ap struct_plan_of kind_is in
        let no_enum : by_id plan (enum_plan_at plan) id ≡ None = enum_there ∙ ap enum_plan_of kind_is in
        let no_variant : (k : ℕ) → variant_plan_at plan (Some k) id ≡ None
        = λ k. variant_there k ∙ ap (λ (t : TypePlanNodeKind). option_and_then (nth_in k) (enum_plan_of t)) kind_is in
        record {
          inside = inside;
          structs = ap is_some there_is ∙ sym (ap is_struct def_is);
          enums = ap is_some no_enum ∙ sym (ap is_enum def_is);
          variants = λ k. ap is_some (no_variant k) ∙ sym (ap (λ (def : Def). is_some (slice_get (variants_of def) k)) def_is);
          fields = λ found e. subst (λ (p : StructPlan). Finds plan p.fields p.field_lookup (fields_in own.shape.def None))
              (some_same (sym there_is ∙ e)) (subst (λ (def : Def). Finds plan told.fields told.field_lookup (fields_in def None)) (sym def_is)
              (record { within = planned.fields.1.inside; finds = planned.field_lookup }));
          listed = λ found e. absurd (never_some (sym no_enum ∙ e));
          variant_fields = λ k found e. absurd (never_some (sym (no_variant k) ∙ e));
        }
    by_kind (an_enum enumeration told def_is kind_is planned) =
        let no_struct : by_id plan (struct_plan_at plan) id ≡ None = struct_there ∙ ap struct_plan_of kind_is in
        let there_is : by_id plan (enum_plan_at plan) id ≡ Some told = enum_there ∙ ap enum_plan_of kind_is in
        let names = planned.variants.1 in
        let all = planned.variants.2 in
        let of_variant : PlacedVariant → VariantPlanMeta → Type 0 = IsVariantPlan table plan.lists own.outline.shape in
        let placed : List PlacedVariant = variants_from 0 own.outline.children enumeration.variants in
        let nth_is : (k : ℕ) → variant_plan_at plan (Some k) id ≡ slice_get planned.variants.0 k
        = λ k. variant_there k ∙ ap (λ (t : TypePlanNodeKind). option_and_then (nth_in k) (enum_plan_of t)) kind_is
        ∙ ap (λ (plans : List VariantPlanMeta). slice_get plans k) names.names in
        record {
          inside = inside;
          structs = ap is_some no_struct ∙ sym (ap is_struct def_is);
          enums = ap is_some there_is ∙ sym (ap is_enum def_is);
          variants = λ k. ap is_some (nth_is k) ∙ sym (zip_some of_variant placed planned.variants.0 k all)
              ∙ placed_some 0 own.outline.children enumeration.variants k
              ∙ sym (ap (λ (def : Def). is_some (slice_get (variants_of def) k)) def_is);
          fields = λ found e. absurd (never_some (sym no_struct ∙ e));
          listed = λ found e. subst (λ (p : EnumPlan). IsWithin plan.lists.variants p.variants) (some_same (sym there_is ∙ e)) names.inside;
          variant_fields = λ k found e.
              let beside_it = beside of_variant placed planned.variants.0 k found all (sym (nth_is k) ∙ e) in
              let here = placed_is 0 own.outline.children enumeration.variants k beside_it.other beside_it.there in
              subst (λ (def : Def). Finds plan found.fields found.field_lookup (fields_in def (Some k))) (sym def_is)
              (subst (λ (v : Option VariantDef). Finds plan found.fields found.field_lookup (option_map_or (λ (d : VariantDef). d.fields) v []))
              (sym here) (record { within = beside_it.holds.fields.1.inside; finds = beside_it.holds.field_lookup }));
        }
    by_kind (another no_struct no_enum no_fields no_variants other) =
        let no_struct_plan : by_id plan (struct_plan_at plan) id ≡ None = struct_there ∙ other.0 in
        let no_enum_plan : by_id plan (enum_plan_at plan) id ≡ None = enum_there ∙ other.1 in
        let no_variant : (k : ℕ) → variant_plan_at plan (Some k) id ≡ None
        = λ k. variant_there k ∙ ap (option_and_then (nth_in k)) other.1 in
        record {
          inside = inside;
          structs = ap is_some no_struct_plan ∙ sym no_struct;
          enums = ap is_some no_enum_plan ∙ sym no_enum;
          variants = λ k. ap is_some (no_variant k) ∙ sym (ap (λ (vs : List VariantDef). is_some (slice_get vs k)) no_variants);
          fields = λ found e. absurd (never_some (sym no_struct_plan ∙ e));
          listed = λ found e. absurd (never_some (sym no_enum_plan ∙ e));
          variant_fields = λ k found e. absurd (never_some (sym (no_variant k) ∙ e));
        }

    -- by the table's definition of this shape
    pub parts_by : (s : ℕ) → node.shape.0 ≡ s → HasParts plan id (def_of table s)
    parts_by s shape_is =
        let def_is : def_of table s ≡ own.shape.def
        = ap (def_of table) (sym (ap (λ (t : ShapeId). t.0) own.same ∙ shape_is)) ∙ ap def_or_other own.described in
        subst (HasParts plan id) (sym def_is) (by_kind own.kind)
