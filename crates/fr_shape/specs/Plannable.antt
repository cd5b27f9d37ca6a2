-- Which shapes a root reaches, whether all of them can be planned, and which refusal comes first where not.
use Rattle.std.specs.Prelude.{◌≡◌, ℕ, zero, suc, Bool, true, false, not, ◌&&◌, ◌||◌, List, [], ◌∷◌, ◌++◌, map, length, nat_eq, slice_get, Option, Some, None, is_none, is_some, option_to_list, if◌then◌else◌}
use Rattle.std.specs.List.{Contains, list_all, list_any, flat_map}
use Rattle.fr_shape.specs.declared.shape.Shape.{Shape}
use Rattle.fr_shape.specs.declared.shape.ShapeId.{ShapeId}
use Rattle.fr_shape.specs.declared.shape.Def.{Def}
use Rattle.fr_shape.specs.declared.shape.Field.{Field}
use Rattle.fr_shape.specs.declared.shape.ProxyDef.{ProxyDef}
use Rattle.fr_shape.specs.declared.error.AllocError.{AllocError}
use Rattle.fr_shape.specs.declared.error.PlanFault.{PlanFault}
use Rattle.fr_shape.specs.Look.{Table, def_of}
use Rattle.fr_shape.specs.Checked.{IsChecked, fields_of, proxies_of, contents_of, pointees_of, is_sized}
use Rattle.fr_shape.specs.Lists.{is_nil}

-- what an opaque or undefined shape is converted from: its builder, where it has a conversion too
abbrev pub built_from : Shape → List ShapeId
built_from shape = if is_some shape.convert then option_to_list shape.builder else []

-- fields, contents, keys and values, a pointee
abbrev pub made_of : Def → List ShapeId
made_of def = map (λ (field : Field). field.shape) (fields_of def) ++ contents_of def ++ pointees_of def

-- The children of a shape, left to right: what a scalar, a `str` or an `Other` wraps; what an opaque or undefined shape
-- is built from; the fields of a struct, or of all of an enum's variants; contents, keys and values; a pointee.
abbrev pub children_by : Def → Shape → List ShapeId
children_by (Def.Scalar kind) shape = option_to_list shape.inner
children_by Def.Str shape = option_to_list shape.inner
children_by Def.Other shape = option_to_list shape.inner
children_by Def.Opaque shape = built_from shape
children_by Def.Undefined shape = built_from shape
children_by (Def.Struct struct) shape = made_of (Def.Struct struct)
children_by (Def.Enum enumeration) shape = made_of (Def.Enum enumeration)
children_by (Def.Option t) shape = made_of (Def.Option t)
children_by (Def.Result t e) shape = made_of (Def.Result t e)
children_by (Def.List t) shape = made_of (Def.List t)
children_by (Def.Map k v) shape = made_of (Def.Map k v)
children_by (Def.Set t) shape = made_of (Def.Set t)
children_by (Def.Array t n) shape = made_of (Def.Array t n)
children_by (Def.Pointer pointer) shape = made_of (Def.Pointer pointer)
children_by (Def.Slice t) shape = made_of (Def.Slice t)
children_by Def.Dynamic shape = made_of Def.Dynamic

abbrev pub children_of : Shape → List ShapeId
children_of shape = children_by shape.def shape

-- the sources of the shape's own proxies, and those of a field's
abbrev pub own_sources : Shape → List ShapeId
own_sources shape = map (λ (proxy : ProxyDef). proxy.source) (proxies_of shape.proxy shape.format_proxies)

abbrev pub field_sources : Field → List ShapeId
field_sources field = map (λ (proxy : ProxyDef). proxy.source) (proxies_of field.proxy field.format_proxies)

-- a shape leads to its children, its proxies' sources, and the sources of its fields' proxies
abbrev pub leads_to : Shape → List ShapeId
leads_to shape = own_sources shape ++ children_of shape ++ flat_map field_sources (fields_of shape.def)

-- the least set of shapes that has the root, and with each shape those that it leads to
pub data Reached (table : Table) (root : ℕ) : ℕ → Type 0 where
  at_root : Reached table root root
  further : {id : ℕ} {shape : Shape} {next : ShapeId} → Reached table root id → slice_get table id ≡ Some shape
      → Contains (leads_to shape) next → Reached table root next.0

-- Why a shape can't be planned, if it can't: an `Other` that wraps nothing is unsupported; one that wraps something
-- needs a conversion, a proxy of whatever format, or metadata.
abbrev pub refusal_of_other : Shape → Option PlanFault
refusal_of_other shape =
    if is_none shape.inner then Some PlanFault.Unsupported
    else if is_some shape.convert || not (is_nil (proxies_of shape.proxy shape.format_proxies)) || shape.metadata then None
    else Some PlanFault.NeedsTryFrom

abbrev pub refusal_by : Def → Shape → Option PlanFault
refusal_by Def.Other shape = refusal_of_other shape
refusal_by (Def.Scalar kind) shape = None
refusal_by Def.Str shape = None
refusal_by Def.Opaque shape = None
refusal_by (Def.Struct struct) shape = None
refusal_by (Def.Enum enumeration) shape = None
refusal_by (Def.Option t) shape = None
refusal_by (Def.Result t e) shape = None
refusal_by (Def.List t) shape = None
refusal_by (Def.Map k v) shape = None
refusal_by (Def.Set t) shape = None
refusal_by (Def.Array t n) shape = None
refusal_by (Def.Pointer pointer) shape = None
refusal_by (Def.Slice t) shape = None
refusal_by Def.Dynamic shape = None
refusal_by Def.Undefined shape = None

abbrev pub refusal_of : Shape → Option PlanFault
refusal_of shape = refusal_by shape.def shape

-- no shape that the root reaches is refused
abbrev pub IsPlannable : Table → ℕ → Type 0
IsPlannable table root =
    (id : ℕ) (shape : Shape) → Reached table root id → slice_get table id ≡ Some shape → refusal_of shape ≡ None

-- The first refusal, in the order in which nodes are built: a shape's proxies' sources come first, then its children
-- left to right (a field's proxies' sources before the field's own shape), then the shape itself. A shape that was begun
-- once isn't built again.

-- the shapes begun so far, and the first refusal met
pub record Walk : Type 0 where
  pub begun : List ℕ
  pub refused : Option AllocError

-- a field's proxies' sources, and then its shape
abbrev pub field_parts : Field → List ShapeId
field_parts field = field_sources field ++ field.shape ∷ []

abbrev pub parts_by : Def → Shape → List ShapeId
parts_by (Def.Struct struct) shape = flat_map field_parts struct.fields
parts_by (Def.Enum enumeration) shape = flat_map field_parts (fields_of (Def.Enum enumeration))
parts_by def shape = children_by def shape

-- what is built before a shape's own node, in order
abbrev pub parts_before : Shape → List ShapeId
parts_before shape = own_sources shape ++ parts_by shape.def shape

abbrev pub own_refusal : ℕ → Option PlanFault → Option AllocError
own_refusal id (Some fault) = Some (record { shape = record { 0 = id }; operation = fault })
own_refusal id None = None

abbrev pub refused_or : Option AllocError → Walk → (List ℕ → Walk) → Walk
refused_or (Some error) walk go_on = walk
refused_or None walk go_on = go_on walk.begun

-- the walk goes on with the shapes begun so far, unless it has met a refusal
abbrev pub unless_refused : Walk → (List ℕ → Walk) → Walk
unless_refused walk go_on = refused_or walk.refused walk go_on

-- a list of shapes in turn
abbrev pub each_in_turn : (List ℕ → ℕ → Walk) → List ℕ → List ShapeId → Walk
each_in_turn visits begun [] = record { begun = begun; refused = None }
each_in_turn visits begun (id ∷ ids) =
    unless_refused (visits begun id.0) (λ after. each_in_turn visits after ids)

-- a shape that is begun: its parts, and then itself
abbrev pub visit_shape : (List ℕ → ℕ → Walk) → List ℕ → ℕ → Option Shape → Walk
visit_shape visits begun id None = record { begun = begun; refused = None }
visit_shape visits begun id (Some shape) =
    unless_refused (each_in_turn visits begun (parts_before shape))
    (λ after. record { begun = after; refused = own_refusal id (refusal_of shape) })

-- a shape, unless it was begun before; `depth` bounds how far down the walk goes
abbrev pub visit : Table → (depth : ℕ) → (begun : List ℕ) → ℕ → Walk
visit table zero begun id = record { begun = begun; refused = None }
visit table (suc depth) begun id =
    if list_any (nat_eq id) begun then record { begun = begun; refused = None }
    else visit_shape (λ seen next. visit table depth seen next) (id ∷ begun) id (slice_get table id)

-- the first refusal in build order (no way down is longer than the table has shapes)
abbrev pub first_refusal : Table → ℕ → Option AllocError
first_refusal table root = (visit table (suc (length table)) [] root).refused

abbrev pub is_dynamic : Def → Bool
is_dynamic Def.Dynamic = true
is_dynamic _ = false

abbrev pub is_plain_field : Field → Bool
is_plain_field field = is_nil (proxies_of field.proxy field.format_proxies) && is_nil field.validators

-- the shape has no proxy, conversion or invariant, isn't dynamic, and none of its fields has a proxy or a validator
abbrev pub is_plain_shape : Shape → Bool
is_plain_shape shape =
    is_nil (proxies_of shape.proxy shape.format_proxies) && is_none shape.convert && is_none shape.invariant
    && not (is_dynamic shape.def) && list_all is_plain_field (fields_of shape.def)

-- a table that is plain for a root: checked, with the root sized and plannable, and each shape reached plain
pub record IsPlain (table : Table) (root : ℕ) : Type 0 where
  pub checked : IsChecked table
  pub sized : is_sized (def_of table root) ≡ true
  pub plannable : IsPlannable table root
  pub plain :
      (id : ℕ) (shape : Shape) → Reached table root id → slice_get table id ≡ Some shape → is_plain_shape shape ≡ true
