-- Where each shape that is reached is plain no field has a validator, so each value is valid.
use Rattle.std.proofs.Common.{◌≡◌, ◌<◌, ◌∷◌}
use Rattle.fr_model.proofs.Common.{ℕ, zero, suc, true, false, not, List, [], map, length, slice_get, Option, Some, None, refl, ap, arith, Contains, list_all, Contains-append_left, Contains-append_right, Shape, ShapeId, Def, StructDef, Field, ReflectErrorKind, fields_of, Meanings, is_nil, Table, def_or_other, def_of, field_in, is_dynamic, Reached, at_root, further, children_of, own_sources, leads_to, is_plain_field, is_plain_shape, Val, first_failing, failing_field, unless_failing, valid_child, HasParts, count_children, child_count, shape_of_field, shape_of_child, child_shape, Tracker, as_fields, as_elements, child_as}
use Rattle.fr_model.proofs.Templates.{both_true, nil_is, each_passes, IsStructAt, struct_at, is_not}

-- each shape that this one reaches is plain
abbrev pub AllPlain : Table → ℕ → Type 0
AllPlain table s = (id : ℕ) (shape : Shape) → Reached table s id → slice_get table id ≡ Some shape → is_plain_shape shape ≡ true

-- what is reached from a reached shape is reached
pub reached_on : (table : Table) (s t id : ℕ) → Reached table s t → Reached table t id → Reached table s id
reached_on table s t id there at_root = there
reached_on table s t id there (further between is among) = further (reached_on table s t _ there between) is among

field_among : (fields : List Field) (i : ℕ) → i < length fields
    → Contains (map (λ (field : Field). field.shape) fields) (record { 0 = shape_of_field (slice_get fields i) })
field_among [] i below = absurd (omega arith)
field_among (field ∷ fields) zero below = (zero, omega arith, refl)
field_among (field ∷ fields) (suc i) below =
    let rest : Contains (map (λ (field : Field). field.shape) fields) (record { 0 = shape_of_field (slice_get fields i) })
    = field_among fields i (omega arith) in
    (suc rest.0, omega (arith, rest.1), rest.2)

-- a field or an element is among the shapes that its parent leads to
child_among : (shape : Shape) (i : ℕ) → i < count_children shape.def → Contains (leads_to shape) (record { 0 = shape_of_child shape.def i })
child_among shape i below =
    Contains-append_left _ _ child (Contains-append_right (own_sources shape) _ child (go shape.def refl below))
  where
    child : ShapeId
    child = record { 0 = shape_of_child shape.def i }

    go : (def : Def) → shape.def ≡ def → i < count_children def → Contains (children_of shape) (record { 0 = shape_of_child shape.def i })
    go (Def.Struct struct) is below =
        rw is (Contains-append_left _ _ _ (Contains-append_left _ _ _ (field_among struct.fields i below)))
    go (Def.Array t n) is below = rw is (zero, omega arith, refl)
    go _ is below = absurd (omega arith)

pub child_reached : (table : Table) (s i : ℕ) → i < child_count table s → Reached table s (child_shape table s i)
child_reached table s i below = go _ refl below
  where
    go : (found : Option Shape) → slice_get table s ≡ found → i < count_children (def_or_other found)
        → Reached table s (shape_of_child (def_or_other found) i)
    go (Some shape) is below = further at_root is (child_among shape i below)
    go None is below = absurd (omega arith)

-- and so each shape that a child reaches is plain
pub plain_child : (table : Table) (s : ℕ) (tracker : Tracker) (i : ℕ) → HasParts tracker → i < child_count table s → AllPlain table s
    → AllPlain table (child_as table s tracker i)
plain_child table s (as_fields None) i parts below plain id shape reached is =
    plain id shape (reached_on table s (child_shape table s i) id (child_reached table s i below) reached) is
plain_child table s as_elements i parts below plain id shape reached is =
    plain id shape (reached_on table s (child_shape table s i) id (child_reached table s i below) reached) is
plain_child table s _ i parts below plain id shape reached is = absurd parts

-- a plain shape isn't dynamic
pub not_dynamic : (table : Table) (s : ℕ) → AllPlain table s → is_dynamic (def_of table s) ≡ false
not_dynamic table s plain = go _ refl
  where
    go : (found : Option Shape) → slice_get table s ≡ found → is_dynamic (def_or_other found) ≡ false
    go (Some shape) is =
        is_not _ (both_true _ (not (is_dynamic shape.def))
        (both_true _ (list_all is_plain_field (fields_of shape.def)) (plain s shape at_root is)).0).1
    go None is = refl

-- each field of a plain struct is plain
field_plain : (table : Table) (s : ℕ) (struct : StructDef) (i : ℕ) (field : Field) → AllPlain table s
    → def_of table s ≡ Def.Struct struct → slice_get struct.fields i ≡ Some field → is_plain_field field ≡ true
field_plain table s struct i field plain is at = each_passes is_plain_field struct.fields i field (rw here.def at all) at
  where
    here : IsStructAt table s struct
    here = struct_at table s struct is

    all : list_all is_plain_field (fields_of here.shape.def) ≡ true
    all = (both_true _ (list_all is_plain_field (fields_of here.shape.def)) (plain s here.shape at_root here.is)).1

no_validators : (field : Field) → is_plain_field field ≡ true → field.validators ≡ []
no_validators field h = nil_is field.validators (both_true _ (is_nil field.validators) h).1

none_fails : (hooks : Meanings) (table : Table) (s i : ℕ) (made : Option Val) → AllPlain table s
    → failing_field hooks table s None i (field_in (def_of table s) None i) made ≡ None
none_fails hooks table s i made plain = go (def_of table s) refl
  where
    of_field : (field : Field) (made : Option Val) → field.validators ≡ [] → failing_field hooks table s None i (Some field) made ≡ None
    of_field field (Some v) none = ap (λ validators. first_failing hooks (def_of table field.shape.0) s None i validators v) none
    of_field field None none = refl

    of_found : (struct : StructDef) (found : Option Field) → def_of table s ≡ Def.Struct struct
        → slice_get struct.fields i ≡ found → failing_field hooks table s None i found made ≡ None
    of_found struct (Some field) is at = of_field field made (no_validators field (field_plain table s struct i field plain is at))
    of_found struct None is at = refl

    go : (def : Def) → def_of table s ≡ def → failing_field hooks table s None i (field_in def None i) made ≡ None
    go (Def.Struct struct) is = of_found struct (slice_get struct.fields i) is refl
    go _ is = refl

pub valid_same : (hooks : Meanings) (table : Table) (s : ℕ) (tracker : Tracker) (i : ℕ) (made : Option Val)
    → HasParts tracker → AllPlain table s → valid_child hooks table s tracker i made ≡ made
valid_same hooks table s (as_fields None) i made parts plain =
    ap (λ (failing : Option ReflectErrorKind). unless_failing failing made) (none_fails hooks table s i made plain)
valid_same hooks table s as_elements i made parts plain = refl
valid_same hooks table s _ i made parts plain = absurd parts
