-- What the plans of structs and enums say of fields and variants. Where a plan names a range of a list, the list is part of
-- the statement.
use Rattle.std.specs.Prelude.{◌≡◌, ℕ, ◌+◌, ◌≤◌, Bool, List, [], ◌∷◌, length, map, take, drop, position, slice_get, slice_index_or, Option, Some, None, unwrap_or}
use Rattle.std.specs.List.{AllZip, list_any}
use Rattle.fr_shape.specs.declared.shape.Shape.{Shape}
use Rattle.fr_shape.specs.declared.shape.ShapeId.{ShapeId}
use Rattle.fr_shape.specs.declared.shape.Def.{Def}
use Rattle.fr_shape.specs.declared.shape.Field.{Field}
use Rattle.fr_shape.specs.declared.shape.ScalarKind.{ScalarKind}
use Rattle.fr_shape.specs.declared.shape.StructDef.{StructDef}
use Rattle.fr_shape.specs.declared.shape.EnumDef.{EnumDef}
use Rattle.fr_shape.specs.declared.shape.ValidatorDef.{ValidatorDef}
use Rattle.fr_shape.specs.declared.shape.VariantDef.{VariantDef}
use Rattle.fr_shape.specs.Look.{Table, def_of, field_at}
use Rattle.fr_shape.specs.Fills.{strict_rule_of}
use Rattle.fr_arena.specs.Ranges.{Range}
use Rattle.fr_rules.specs.declared.validators.PrecomputedValidator.{PrecomputedValidator}
use Rattle.fr_rules.specs.declared.validators.ValidatorKind.{ValidatorKind}
use Rattle.fr_rules.specs.Entries.{entries_of}
use Rattle.fr_rules.specs.FieldLookups.{IsLookupOf}
use Rattle.fr_rules.specs.FillRules.{told_strict}
use Rattle.fr_rules.specs.Pools.{part_of}
use Rattle.fr_rules.specs.VariantLookups.{IsVariantLookupOf}
use Rattle.fr_plan.specs.declared.nodes.NodeId.{NodeId}
use Rattle.fr_plan.specs.declared.plan_lists.PlanLists.{PlanLists}
use Rattle.fr_plan.specs.declared.plans.EnumPlan.{EnumPlan}
use Rattle.fr_plan.specs.declared.plans.FieldPlan.{FieldPlan}
use Rattle.fr_plan.specs.declared.plans.StructPlan.{StructPlan}
use Rattle.fr_plan.specs.declared.plans.VariantPlanMeta.{VariantPlanMeta}
use Rattle.fr_plan.specs.Build.{Placed, fields_from}

-- the node at this place of a list (whoever is told by a place has as many nodes; past the end node 0 is read)
abbrev pub nth_node : List NodeId → ℕ → NodeId
nth_node nodes i = slice_index_or nodes i (record { 0 = 0 })

-- the range lies inside the list, and names these values
pub record Names {X : Type 0} (list : List X) (range : Range) (values : List X) : Type 0 where
  pub inside : range.start + range.len ≤ length list
  pub names : part_of list range ≡ values

-- the kind of a scalar
abbrev pub scalar_of : Def → Option ScalarKind
scalar_of (Def.Scalar kind) = Some kind
scalar_of Def.Str = None
scalar_of Def.Opaque = None
scalar_of (Def.Struct struct) = None
scalar_of (Def.Enum enumeration) = None
scalar_of (Def.Option t) = None
scalar_of (Def.Result t e) = None
scalar_of (Def.List t) = None
scalar_of (Def.Map k v) = None
scalar_of (Def.Set t) = None
scalar_of (Def.Array t n) = None
scalar_of (Def.Pointer pointer) = None
scalar_of (Def.Slice t) = None
scalar_of Def.Dynamic = None
scalar_of Def.Undefined = None
scalar_of Def.Other = None

-- the same; any kind serves for another shape, on whose fields only hooks test
abbrev pub kind_of : Def → ScalarKind
kind_of def = unwrap_or (scalar_of def) ScalarKind.String

-- a validator with the kind of the scalar that it tests
abbrev pub with_kind : ScalarKind → ValidatorDef → ValidatorKind
with_kind kind (ValidatorDef.Custom hook) = ValidatorKind.Custom hook
with_kind kind (ValidatorDef.Min low) = ValidatorKind.Min low kind
with_kind kind (ValidatorDef.Max high) = ValidatorKind.Max high kind
with_kind kind (ValidatorDef.MinLength low) = ValidatorKind.MinLength low kind
with_kind kind (ValidatorDef.MaxLength high) = ValidatorKind.MaxLength high kind
with_kind kind ValidatorDef.Url = ValidatorKind.Url kind
with_kind kind (ValidatorDef.Regex pattern) = ValidatorKind.Regex pattern kind
with_kind kind (ValidatorDef.Contains needle) = ValidatorKind.Contains needle kind

abbrev pub precomputed : ScalarKind → ValidatorDef → PrecomputedValidator
precomputed kind validator = record { kind = with_kind kind validator }

-- the validators of a field
abbrev pub validators_of : Table → Field → List PrecomputedValidator
validators_of table field = map (precomputed (kind_of (def_of table field.shape.0))) field.validators

-- the plan of a field; `nodes` are those of all fields of its struct or variant
pub record IsFieldPlan (table : Table) (lists : PlanLists) (nodes : List NodeId) (placed : Placed) (plan : FieldPlan) : Type 0 where
  pub field : plan.field ≡ placed.meant
  pub is_flattened : plan.is_flattened ≡ placed.field.flatten
  pub type_node : plan.type_node ≡ nth_node nodes placed.meant.index
  pub index : plan.index ≡ placed.meant.index
  pub field_shape : plan.field_shape ≡ placed.field.shape
  pub fill_rule : plan.fill_rule ≡ told_strict placed.meant placed.field (strict_rule_of table placed.meant placed.field)
  pub validators : Names lists.validators plan.validators (validators_of table placed.field)

-- the table has these fields, in the struct or variant that is named
abbrev pub AreFieldsOf : Table → ShapeId → (variant : Option ℕ) → List Field → Type 0
AreFieldsOf table id variant fields =
    (i : ℕ) → field_at table (record { shape = id; variant = variant; index = i }) ≡ slice_get fields i

-- the range names the plans of these fields, in order
abbrev pub NamesFields : Table → PlanLists → (nodes : List NodeId) → List Placed → Range → Type 0
NamesFields table lists nodes fields range =
    (plans : List FieldPlan) × Names lists.fields range plans
    × AllZip (IsFieldPlan table lists nodes) fields plans

abbrev pub has_flatten : List Field → Bool
has_flatten fields = list_any (λ (field : Field). field.flatten) fields

-- the plan of the struct of number `id`; `nodes` are those of its fields
pub record IsStructPlan (table : Table) (lists : PlanLists) (id : ShapeId) (nodes : List NodeId) (shape : Shape) (struct : StructDef) (plan : StructPlan) : Type 0 where
  pub fields : NamesFields table lists nodes (fields_from id None 0 struct.fields) plan.fields
  pub field_lookup : IsLookupOf lists.lookups plan.field_lookup (entries_of struct.fields)
  pub has_flatten : plan.has_flatten ≡ has_flatten struct.fields
  pub deny_unknown_fields : plan.deny_unknown_fields ≡ shape.deny_unknown

-- a variant, with its number and the nodes of its fields
pub record PlacedVariant : Type 0 where
  pub number : ℕ
  pub variant : VariantDef
  pub nodes : List NodeId

-- the variants of which the first has the number i, where the nodes of all their fields stand one behind the other
abbrev pub variants_from : ℕ → List NodeId → List VariantDef → List PlacedVariant
variants_from i nodes [] = []
variants_from i nodes (variant ∷ variants) =
    record { number = i; variant = variant; nodes = take (length variant.fields) nodes }
    ∷ variants_from (i + 1) (drop (length variant.fields) nodes) variants

-- the plan of a variant of the enum of number `id`
pub record IsVariantPlan (table : Table) (lists : PlanLists) (id : ShapeId) (placed : PlacedVariant) (plan : VariantPlanMeta) : Type 0 where
  pub shape : plan.shape ≡ id
  pub variant : plan.variant ≡ placed.number
  pub fields :
      NamesFields table lists placed.nodes (fields_from id (Some placed.number) 0 placed.variant.fields) plan.fields
  pub field_lookup : IsLookupOf lists.lookups plan.field_lookup (entries_of placed.variant.fields)
  pub has_flatten : plan.has_flatten ≡ has_flatten placed.variant.fields

-- the range names the plans of these variants, in order
abbrev pub NamesVariants : Table → PlanLists → ShapeId → List PlacedVariant → Range → Type 0
NamesVariants table lists id variants range =
    (plans : List VariantPlanMeta) × Names lists.variants range plans × AllZip (IsVariantPlan table lists id) variants plans

-- the plan of the enum of number `id`; `nodes` are those of the fields of all its variants
pub record IsEnumPlan (table : Table) (lists : PlanLists) (id : ShapeId) (nodes : List NodeId) (enumeration : EnumDef) (plan : EnumPlan) : Type 0 where
  pub variants : NamesVariants table lists id (variants_from 0 nodes enumeration.variants) plan.variants
  pub variant_lookup : IsVariantLookupOf plan.variant_lookup enumeration.variants
  pub num_variants : plan.num_variants ≡ length enumeration.variants
  -- the first that is marked
  pub other_variant_idx : plan.other_variant_idx ≡ position (λ (variant : VariantDef). variant.other) enumeration.variants
