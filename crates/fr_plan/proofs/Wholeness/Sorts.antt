-- Which children a node's kind has, by the definition of its shape.
use Rattle.std.proofs.Common.{◌≡◌, ◌≢◌, ◌∙◌, ap, refl, ℕ, Bool, true, false, if◌then◌else◌, List, slice_get, Option, Some, None, is_some, IsSomeAnd}
use Rattle.std.specs.Option.{option_to_list}
use Rattle.fr_shape.specs.declared.shape.Shape.{Shape}
use Rattle.fr_shape.specs.declared.shape.ShapeId.{ShapeId}
use Rattle.fr_shape.specs.declared.shape.Def.{Def}
use Rattle.fr_shape.specs.declared.shape.PointerDef.{PointerDef}
use Rattle.fr_shape.specs.Look.{Table}
use Rattle.fr_shape.specs.Plannable.{children_by}
use Rattle.fr_plan.specs.declared.nodes.NodeId.{NodeId}
use Rattle.fr_plan.specs.declared.nodes.TypePlanNodeKind.{TypePlanNodeKind}
use Rattle.fr_plan.specs.declared.plan_lists.PlanLists.{PlanLists}
use Rattle.fr_plan.specs.declared.plans.EnumPlan.{EnumPlan}
use Rattle.fr_plan.specs.declared.plans.StructPlan.{StructPlan}
use Rattle.fr_plan.specs.LookupLaws.{item_of, set_item_of, key_of, value_of, some_of, ok_of, err_of, pointee_of}
use Rattle.fr_plan.specs.Lookups.{has_items, is_set, is_map, is_option, is_result, is_pointer}
use Rattle.fr_plan.specs.Nodes.{struct_plan_of, enum_plan_of, is_built_from, IsKindBy}
use Rattle.fr_plan.specs.Plans.{IsStructPlan, IsEnumPlan}

-- kinds and definitions by the children that they have
pub data Sort : Type 0 where
  a_struct an_enum a_list a_set a_map an_option a_result a_pointer other a_reference : Sort

abbrev pub sort_of_kind : TypePlanNodeKind → Sort
sort_of_kind (TypePlanNodeKind.Struct plan) = a_struct
sort_of_kind (TypePlanNodeKind.Enum plan) = an_enum
sort_of_kind TypePlanNodeKind.List = a_list
sort_of_kind (TypePlanNodeKind.Array len) = a_list
sort_of_kind TypePlanNodeKind.Slice = a_list
sort_of_kind TypePlanNodeKind.Set = a_set
sort_of_kind TypePlanNodeKind.Map = a_map
sort_of_kind TypePlanNodeKind.Option = an_option
sort_of_kind TypePlanNodeKind.Result = a_result
sort_of_kind TypePlanNodeKind.Pointer = a_pointer
sort_of_kind TypePlanNodeKind.Scalar = other
sort_of_kind TypePlanNodeKind.OpaquePointer = other
sort_of_kind TypePlanNodeKind.Opaque = other
sort_of_kind TypePlanNodeKind.DynamicValue = other
sort_of_kind TypePlanNodeKind.Transparent = other
sort_of_kind (TypePlanNodeKind.BackRef shape) = a_reference

abbrev pub pointer_sort : Bool → Sort
pointer_sort true = a_pointer
pointer_sort false = other

abbrev pub sort_of : Def → Sort
sort_of (Def.Struct struct) = a_struct
sort_of (Def.Enum enumeration) = an_enum
sort_of (Def.List t) = a_list
sort_of (Def.Array t n) = a_list
sort_of (Def.Slice t) = a_list
sort_of (Def.Set t) = a_set
sort_of (Def.Map k v) = a_map
sort_of (Def.Option t) = an_option
sort_of (Def.Result t e) = a_result
sort_of (Def.Pointer pointer) = pointer_sort (is_some pointer.pointee)
sort_of (Def.Scalar kind) = other
sort_of Def.Str = other
sort_of Def.Dynamic = other
sort_of Def.Opaque = other
sort_of Def.Undefined = other
sort_of Def.Other = other

struct_sort : (P : StructPlan → Type 0) (is : TypePlanNodeKind) → IsSomeAnd (struct_plan_of is) P → sort_of_kind is ≡ a_struct
struct_sort P (TypePlanNodeKind.Struct plan) told = refl
struct_sort P is told = absurd told

enum_sort : (P : EnumPlan → Type 0) (is : TypePlanNodeKind) → IsSomeAnd (enum_plan_of is) P → sort_of_kind is ≡ an_enum
enum_sort P (TypePlanNodeKind.Enum plan) told = refl
enum_sort P is told = absurd told

pointer_sorts : (present : Bool)
    → sort_of_kind (if present then TypePlanNodeKind.Pointer else TypePlanNodeKind.OpaquePointer) ≡ pointer_sort present
pointer_sorts true = refl
pointer_sorts false = refl

opaque_sorts : (built : Bool)
    → sort_of_kind (if built then TypePlanNodeKind.Transparent else TypePlanNodeKind.Opaque) ≡ other
opaque_sorts true = refl
opaque_sorts false = refl

module _ (table : Table) (lists : PlanLists) (id : ShapeId) (nodes : List NodeId) (shape : Shape) where
  -- the kind of a shape's own node has the children that the shape's definition has
  pub sorts_agree : (def : Def) (is : TypePlanNodeKind) → IsKindBy table lists id nodes shape def is
      → sort_of_kind is ≡ sort_of def
  sorts_agree (Def.Struct struct) is told = struct_sort (IsStructPlan table lists id nodes shape struct) is told
  sorts_agree (Def.Enum enumeration) is told = enum_sort (IsEnumPlan table lists id nodes enumeration) is told
  sorts_agree (Def.Pointer pointer) is told = ap sort_of_kind told ∙ pointer_sorts (is_some pointer.pointee)
  sorts_agree Def.Opaque is told = ap sort_of_kind told ∙ opaque_sorts (is_built_from shape)
  sorts_agree Def.Undefined is told = ap sort_of_kind told ∙ opaque_sorts (is_built_from shape)
  sorts_agree def is told = ap sort_of_kind told

  pub no_reference : (def : Def) → sort_of def ≢ a_reference
  no_reference (Def.Pointer pointer) = pointer_apart (is_some pointer.pointee)
    where
      pointer_apart : (present : Bool) → pointer_sort present ≢ a_reference
      pointer_apart true = λ same. absurd (cc)
      pointer_apart false = λ same. absurd (cc)
  no_reference def = λ same. absurd (cc)

-- tests of a kind, by its sort

abbrev pub is_list_sort : Sort → Bool
is_list_sort a_list = true
is_list_sort _ = false

abbrev pub is_set_sort : Sort → Bool
is_set_sort a_set = true
is_set_sort _ = false

abbrev pub is_map_sort : Sort → Bool
is_map_sort a_map = true
is_map_sort _ = false

abbrev pub is_option_sort : Sort → Bool
is_option_sort an_option = true
is_option_sort _ = false

abbrev pub is_result_sort : Sort → Bool
is_result_sort a_result = true
is_result_sort _ = false

abbrev pub is_pointer_sort : Sort → Bool
is_pointer_sort a_pointer = true
is_pointer_sort _ = false

pub items_tested : (is : TypePlanNodeKind) → has_items is ≡ is_list_sort (sort_of_kind is)
items_tested TypePlanNodeKind.List = refl
items_tested _ = refl

pub set_tested : (is : TypePlanNodeKind) → is_set is ≡ is_set_sort (sort_of_kind is)
set_tested TypePlanNodeKind.Set = refl
set_tested _ = refl

pub map_tested : (is : TypePlanNodeKind) → is_map is ≡ is_map_sort (sort_of_kind is)
map_tested TypePlanNodeKind.Map = refl
map_tested _ = refl

pub option_tested : (is : TypePlanNodeKind) → is_option is ≡ is_option_sort (sort_of_kind is)
option_tested TypePlanNodeKind.Option = refl
option_tested _ = refl

pub result_tested : (is : TypePlanNodeKind) → is_result is ≡ is_result_sort (sort_of_kind is)
result_tested TypePlanNodeKind.Result = refl
result_tested _ = refl

pub pointer_tested : (is : TypePlanNodeKind) → is_pointer is ≡ is_pointer_sort (sort_of_kind is)
pointer_tested TypePlanNodeKind.Pointer = refl
pointer_tested _ = refl

-- the child of a definition at a place, where its sort has it

abbrev pub child_where : Bool → Def → Shape → ℕ → Option ShapeId
child_where there def shape place = if there then slice_get (children_by def shape) place else None

-- a pointer has no other child than its pointee
pub pointer_none : (test : Sort → Bool) → test a_pointer ≡ false → test other ≡ false → (present : Bool)
    → test (pointer_sort present) ≡ false
pointer_none test first second true = first
pointer_none test first second false = second

none_there : (pointer : PointerDef) (shape : Shape) (place : ℕ) (test : Sort → Bool) → test a_pointer ≡ false
    → test other ≡ false → child_where (test (sort_of (Def.Pointer pointer))) (Def.Pointer pointer) shape place ≡ None
none_there pointer shape place test first second =
    ap (λ (b : Bool). child_where b (Def.Pointer pointer) shape place)
    (pointer_none test first second (is_some pointer.pointee))

module _ (shape : Shape) where
  pub item_is : (def : Def) → child_where (is_list_sort (sort_of def)) def shape 0 ≡ item_of def
  item_is (Def.Pointer pointer) = none_there pointer shape 0 is_list_sort refl refl
  item_is _ = refl

  pub set_item_is : (def : Def) → child_where (is_set_sort (sort_of def)) def shape 0 ≡ set_item_of def
  set_item_is (Def.Pointer pointer) = none_there pointer shape 0 is_set_sort refl refl
  set_item_is _ = refl

  pub key_is : (def : Def) → child_where (is_map_sort (sort_of def)) def shape 0 ≡ key_of def
  key_is (Def.Pointer pointer) = none_there pointer shape 0 is_map_sort refl refl
  key_is _ = refl

  pub value_is : (def : Def) → child_where (is_map_sort (sort_of def)) def shape 1 ≡ value_of def
  value_is (Def.Pointer pointer) = none_there pointer shape 1 is_map_sort refl refl
  value_is _ = refl

  pub some_is : (def : Def) → child_where (is_option_sort (sort_of def)) def shape 0 ≡ some_of def
  some_is (Def.Pointer pointer) = none_there pointer shape 0 is_option_sort refl refl
  some_is _ = refl

  pub ok_is : (def : Def) → child_where (is_result_sort (sort_of def)) def shape 0 ≡ ok_of def
  ok_is (Def.Pointer pointer) = none_there pointer shape 0 is_result_sort refl refl
  ok_is _ = refl

  pub err_is : (def : Def) → child_where (is_result_sort (sort_of def)) def shape 1 ≡ err_of def
  err_is (Def.Pointer pointer) = none_there pointer shape 1 is_result_sort refl refl
  err_is _ = refl

  pub pointee_is : (def : Def) → child_where (is_pointer_sort (sort_of def)) def shape 0 ≡ pointee_of def
  pointee_is (Def.Pointer pointer) = by_pointee pointer.pointee
    where
      by_pointee : (pointee : Option ShapeId)
          → (if is_pointer_sort (pointer_sort (is_some pointee)) then slice_get (option_to_list pointee) 0 else None) ≡ pointee
      by_pointee None = refl
      by_pointee (Some t) = refl
  pointee_is _ = refl
