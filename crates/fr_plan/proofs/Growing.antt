-- What was told of nodes stays true while the lists grow.
use Rattle.std.proofs.Common.{◌≡◌, ◌∙◌, ap, sym, ◌+◌, ◌-◌, ◌≤◌, List, [], ◌∷◌, ◌++◌, length, take, drop, Option, Some, None, arith, IsSomeAnd, Result, Ok, Err, IfOk}
use Rattle.std.specs.List.{AllZip}
use Rattle.std.proofs.lemmas.List.{drop-append-le, take-append-le, length-drop, length-append, append-nil, append_assoc}
use Rattle.fr_arena.specs.Ranges.{Range}
use Rattle.fr_rules.specs.FieldLookups.{LookupsStay}
use Rattle.fr_rules.specs.Pools.{Pool, Continues, HasGrown, part_of}
use Rattle.fr_shape.specs.declared.shape.Shape.{Shape}
use Rattle.fr_shape.specs.declared.shape.ShapeId.{ShapeId}
use Rattle.fr_shape.specs.declared.shape.Def.{Def}
use Rattle.fr_shape.specs.declared.shape.StructDef.{StructDef}
use Rattle.fr_shape.specs.declared.shape.EnumDef.{EnumDef}
use Rattle.fr_shape.specs.Look.{Table}
use Rattle.fr_plan.specs.declared.nodes.NodeId.{NodeId}
use Rattle.fr_plan.specs.declared.nodes.TypePlanNode.{TypePlanNode}
use Rattle.fr_plan.specs.declared.nodes.TypePlanNodeKind.{TypePlanNodeKind}
use Rattle.fr_plan.specs.declared.outlines.Outline.{Outline}
use Rattle.fr_plan.specs.declared.outlines.Role.{Role}
use Rattle.fr_plan.specs.declared.plan_lists.PlanLists.{PlanLists}
use Rattle.fr_plan.specs.declared.plans.EnumPlan.{EnumPlan}
use Rattle.fr_plan.specs.declared.plans.FieldPlan.{FieldPlan}
use Rattle.fr_plan.specs.declared.plans.StructPlan.{StructPlan}
use Rattle.fr_plan.specs.declared.plans.VariantPlanMeta.{VariantPlanMeta}
use Rattle.fr_plan.specs.Build.{Placed}
use Rattle.fr_plan.specs.Lists.{ListsGrow}
use Rattle.fr_plan.specs.Plans.{Names, IsFieldPlan, NamesFields, IsStructPlan, PlacedVariant, IsVariantPlan, IsEnumPlan}
use Rattle.fr_plan.specs.Nodes.{struct_plan_of, enum_plan_of, IsKindBy, IsOwnKind, IsKindOf, IsNode}

-- Lists.

pub continues_itself : {X : Type 0} (xs : List X) → Continues xs xs
continues_itself xs = ([], sym (append-nil xs))

pub continues_on : {X : Type 0} (xs ys zs : List X) → Continues xs ys → Continues ys zs → Continues xs zs
continues_on xs ys zs first second =
    (first.0 ++ second.0, second.1 ∙ ap (λ l. l ++ second.0) first.1 ∙ append_assoc xs first.0 second.0)

pub grown_twice : (first second third : PlanLists) → ListsGrow first second → ListsGrow second third
    → ListsGrow first third
grown_twice first second third once again = record {
  fields = continues_on first.fields second.fields third.fields once.fields again.fields;
  variants = continues_on first.variants second.variants third.variants once.variants again.variants;
  validators = continues_on first.validators second.validators third.validators once.validators again.validators;
  lookups = record {
    entries =
        continues_on first.lookups.entries second.lookups.entries third.lookups.entries once.lookups.entries
        again.lookups.entries;
    buckets =
        continues_on first.lookups.buckets second.lookups.buckets third.lookups.buckets once.lookups.buckets
        again.lookups.buckets;
  };
}

-- a range names the same values in a list that went on
pub names_grow : {X : Type 0} (before after : List X) (range : Range) (values : List X) → Continues before after
    → Names before range values → Names after range values
names_grow before after range values grew names =
    let begins : range.start ≤ length before = omega (arith, names.inside) in
    let room : range.start + range.len - range.start ≤ length (drop range.start before) =
    omega (arith, names.inside, length-drop range.start before) in
    let same : part_of (before ++ grew.0) range ≡ part_of before range =
    ap (take (range.start + range.len - range.start)) (drop-append-le range.start before grew.0 begins)
    ∙ take-append-le (range.start + range.len - range.start) (drop range.start before) grew.0 room in
    record {
      inside = omega (arith, names.inside, ap length grew.1, length-append before grew.0);
      names = ap (λ l. part_of l range) grew.1 ∙ same ∙ names.names;
    }

pub zip_weaker : {A B : Type 0} (R S : A → B → Type 0) → ((a : A) (b : B) → R a b → S a b) → (xs : List A) (ys : List B)
    → AllZip R xs ys → AllZip S xs ys
zip_weaker R S weaker [] [] all = tt
zip_weaker R S weaker [] (y ∷ ys) all = absurd all
zip_weaker R S weaker (x ∷ xs) [] all = absurd all
zip_weaker R S weaker (x ∷ xs) (y ∷ ys) all = (weaker x y all.0, zip_weaker R S weaker xs ys all.1)

pub some_weaker : {X : Type 0} (P Q : X → Type 0) → ((x : X) → P x → Q x) → (found : Option X) → IsSomeAnd found P
    → IsSomeAnd found Q
some_weaker P Q weaker None some = absurd some
some_weaker P Q weaker (Some x) some = weaker x some

pub ok_weaker : {X E : Type 0} (P Q : X → Type 0) → ((x : X) → P x → Q x) → (result : Result X E) → IfOk result P
    → IfOk result Q
ok_weaker P Q weaker (Ok x) told = weaker x told
ok_weaker P Q weaker (Err e) told = tt

-- one of the lists went on, and the others stayed

stays : {X : Type 0} (before after : List X) → after ≡ before → Continues before after
stays before after same = ([], same ∙ sym (append-nil before))

pub fields_added : (before after : PlanLists) → after ≡ record before { fields = after.fields }
    → Continues before.fields after.fields → ListsGrow before after
fields_added before after others grew = record {
  fields = grew;
  variants = stays before.variants after.variants (ap (λ (l : PlanLists). l.variants) others);
  validators = stays before.validators after.validators (ap (λ (l : PlanLists). l.validators) others);
  lookups = record {
    entries = stays before.lookups.entries after.lookups.entries (ap (λ (l : PlanLists). l.lookups.entries) others);
    buckets = stays before.lookups.buckets after.lookups.buckets (ap (λ (l : PlanLists). l.lookups.buckets) others);
  };
}

pub variants_added : (before after : PlanLists) → after ≡ record before { variants = after.variants }
    → Continues before.variants after.variants → ListsGrow before after
variants_added before after others grew = record {
  fields = stays before.fields after.fields (ap (λ (l : PlanLists). l.fields) others);
  variants = grew;
  validators = stays before.validators after.validators (ap (λ (l : PlanLists). l.validators) others);
  lookups = record {
    entries = stays before.lookups.entries after.lookups.entries (ap (λ (l : PlanLists). l.lookups.entries) others);
    buckets = stays before.lookups.buckets after.lookups.buckets (ap (λ (l : PlanLists). l.lookups.buckets) others);
  };
}

pub lookups_added : (lists : PlanLists) (pool : Pool) → HasGrown lists.lookups pool
    → ListsGrow lists (record lists { lookups = pool })
lookups_added lists pool grew = record {
  fields = continues_itself lists.fields;
  variants = continues_itself lists.variants;
  validators = continues_itself lists.validators;
  lookups = grew;
}

-- Plans.

module _ (table : Table) (before after : PlanLists) where
  pub field_grows : ListsGrow before after → (nodes : List NodeId) (placed : Placed) (plan : FieldPlan)
      → IsFieldPlan table before nodes placed plan → IsFieldPlan table after nodes placed plan
  field_grows grew nodes placed plan told = record {
    field = told.field;
    is_flattened = told.is_flattened;
    type_node = told.type_node;
    index = told.index;
    field_shape = told.field_shape;
    fill_rule = told.fill_rule;
    validators = names_grow before.validators after.validators _ _ grew.validators told.validators;
  }

  pub fields_grow : ListsGrow before after → (nodes : List NodeId) (fields : List Placed) (range : Range)
      → NamesFields table before nodes fields range → NamesFields table after nodes fields range
  fields_grow grew nodes fields range told = (
    told.0,
    names_grow before.fields after.fields range told.0 grew.fields told.1,
    zip_weaker (IsFieldPlan table before nodes) (IsFieldPlan table after nodes) (field_grows grew nodes) fields told.0 told.2,
  )

  module _ (stay : LookupsStay) (grew : ListsGrow before after) where
    pub struct_grows : (id : ShapeId) (nodes : List NodeId) (shape : Shape) (struct : StructDef) (plan : StructPlan)
        → IsStructPlan table before id nodes shape struct plan → IsStructPlan table after id nodes shape struct plan
    struct_grows id nodes shape struct plan told = record {
      fields = fields_grow grew nodes _ plan.fields told.fields;
      field_lookup = stay before.lookups after.lookups plan.field_lookup _ grew.lookups told.field_lookup;
      has_flatten = told.has_flatten;
      deny_unknown_fields = told.deny_unknown_fields;
    }

    pub variant_grows : (id : ShapeId) (placed : PlacedVariant) (plan : VariantPlanMeta)
        → IsVariantPlan table before id placed plan → IsVariantPlan table after id placed plan
    variant_grows id placed plan told = record {
      shape = told.shape;
      variant = told.variant;
      fields = fields_grow grew placed.nodes _ plan.fields told.fields;
      field_lookup = stay before.lookups after.lookups plan.field_lookup _ grew.lookups told.field_lookup;
      has_flatten = told.has_flatten;
    }

    pub enum_grows : (id : ShapeId) (nodes : List NodeId) (enumeration : EnumDef) (plan : EnumPlan)
        → IsEnumPlan table before id nodes enumeration plan → IsEnumPlan table after id nodes enumeration plan
    enum_grows id nodes enumeration plan told = record {
      variants = (
        told.variants.0,
        names_grow before.variants after.variants plan.variants told.variants.0 grew.variants told.variants.1,
        zip_weaker (IsVariantPlan table before id) (IsVariantPlan table after id) (variant_grows id) _ told.variants.0
            told.variants.2,
      );
      variant_lookup = told.variant_lookup;
      num_variants = told.num_variants;
      other_variant_idx = told.other_variant_idx;
    }

    -- Nodes.

    kind_by_grows : (id : ShapeId) (nodes : List NodeId) (shape : Shape) (def : Def) (is : TypePlanNodeKind)
        → IsKindBy table before id nodes shape def is → IsKindBy table after id nodes shape def is
    kind_by_grows id nodes shape (Def.Scalar kind) is told = told
    kind_by_grows id nodes shape Def.Str is told = told
    kind_by_grows id nodes shape (Def.Option t) is told = told
    kind_by_grows id nodes shape (Def.List t) is told = told
    kind_by_grows id nodes shape (Def.Set t) is told = told
    kind_by_grows id nodes shape (Def.Array t n) is told = told
    kind_by_grows id nodes shape (Def.Slice t) is told = told
    kind_by_grows id nodes shape (Def.Result t e) is told = told
    kind_by_grows id nodes shape (Def.Map k v) is told = told
    kind_by_grows id nodes shape (Def.Pointer pointer) is told = told
    kind_by_grows id nodes shape Def.Dynamic is told = told
    kind_by_grows id nodes shape (Def.Struct struct) is told =
        some_weaker (IsStructPlan table before id nodes shape struct) (IsStructPlan table after id nodes shape struct)
        (struct_grows id nodes shape struct) (struct_plan_of is) told
    kind_by_grows id nodes shape (Def.Enum enumeration) is told =
        some_weaker (IsEnumPlan table before id nodes enumeration) (IsEnumPlan table after id nodes enumeration)
        (enum_grows id nodes enumeration) (enum_plan_of is) told
    kind_by_grows id nodes shape Def.Opaque is told = told
    kind_by_grows id nodes shape Def.Undefined is told = told
    kind_by_grows id nodes shape Def.Other is told = told

    own_kind_grows : (id : ShapeId) (nodes : List NodeId) (found : Option Shape) (is : TypePlanNodeKind)
        → IsOwnKind table before id nodes found is → IsOwnKind table after id nodes found is
    own_kind_grows id nodes None is told = told
    own_kind_grows id nodes (Some shape) is told = kind_by_grows id nodes shape shape.def is told

    kind_grows : (outline : Outline) (role : Role) (is : TypePlanNodeKind)
        → IsKindOf table before outline role is → IsKindOf table after outline role is
    kind_grows outline Role.Own is told = own_kind_grows outline.shape outline.children _ is told
    kind_grows outline Role.BackRef is told = told
    kind_grows outline (Role.FieldProxy field) is told = told

    pub node_grows : (outline : Outline) (node : TypePlanNode) → IsNode table before outline node
        → IsNode table after outline node
    node_grows outline node told = record {
      shape = told.shape;
      kind = kind_grows outline outline.role node.kind told.kind;
      strategy = told.strategy;
      has_default = told.has_default;
      proxies = told.proxies;
    }
