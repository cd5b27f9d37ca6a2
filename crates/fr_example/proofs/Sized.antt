-- A field of a struct has a size, so that it takes values of its own shape alone.
use Rattle.std.proofs.Common.{◌≡◌, ◌==◌, ℕ, zero, suc, ◌&&◌, ◌||◌, ◌++◌, ◌<◌, Bool, true, false, List, [], ◌∷◌, length, map, slice_get, Option, Some, None, option_to_list, refl, arith}
use Rattle.std.specs.List.{list_all}
use Rattle.fr_shape.specs.declared.shape.Def.{Def}
use Rattle.fr_shape.specs.declared.shape.Field.{Field}
use Rattle.fr_shape.specs.declared.shape.ProxyDef.{ProxyDef}
use Rattle.fr_shape.specs.declared.shape.Shape.{Shape}
use Rattle.fr_shape.specs.declared.shape.ShapeId.{ShapeId}
use Rattle.fr_shape.specs.declared.shape.StructDef.{StructDef}
use Rattle.fr_shape.specs.Checked.{IsChecked, fields_of, contents_of, all_proxies_of, is_sized, parts_of}
use Rattle.fr_shape.specs.Look.{Table, def_or_other, def_of}
use Rattle.fr_model.specs.Places.{child_shape, shape_of_child, shape_of_field}
use Rattle.fr_model.specs.Step.{is_str, takes_shape}

-- Sizes

both_true : (a b : Bool) → (a && b) ≡ true → (a ≡ true) × (b ≡ true)
both_true true b h = (refl, h)
both_true false b h = cc

-- what holds of a list holds of its front
front_all : {A : Type 0} (p : A → Bool) (xs ys : List A) → list_all p (xs ++ ys) ≡ true → list_all p xs ≡ true
front_all p [] ys all = refl
front_all p (x ∷ xs) ys all =
    let parts = both_true (p x) (list_all p (xs ++ ys)) all in
    rw (parts.0, front_all p xs ys parts.1) refl

abbrev has_size : Table → ShapeId → Bool
has_size table id = is_sized (def_of table id.0)

abbrev shapes_of : List Field → List ShapeId
shapes_of fields = map (λ (field : Field). field.shape) fields

-- the shapes of the fields come first among a shape's parts
fields_sized : (table : Table) (shape : Shape) → list_all (has_size table) (parts_of shape) ≡ true
    → list_all (has_size table) (shapes_of (fields_of shape.def)) ≡ true
fields_sized table shape all =
    let fields = shapes_of (fields_of shape.def) in
    let contents = contents_of shape.def in
    let inner = option_to_list shape.inner in
    let builder = option_to_list shape.builder in
    front_all (has_size table) fields contents
    (front_all (has_size table) (fields ++ contents) inner
    (front_all (has_size table) (fields ++ contents ++ inner) builder
    (front_all (has_size table) (fields ++ contents ++ inner ++ builder)
    (map (λ (proxy : ProxyDef). proxy.source) (all_proxies_of shape)) all)))

sized_among : (table : Table) (fields : List Field) (i : ℕ) → i < length fields
    → list_all (has_size table) (shapes_of fields) ≡ true
    → is_sized (def_of table (shape_of_field (slice_get fields i))) ≡ true
sized_among table [] i below all = absurd (omega arith)
sized_among table (field ∷ fields) zero below all =
    (both_true (has_size table field.shape) (list_all (has_size table) (shapes_of fields)) all).0
sized_among table (field ∷ fields) (suc i) below all =
    sized_among table fields i (omega arith)
    (both_true (has_size table field.shape) (list_all (has_size table) (shapes_of fields)) all).1

pub field_is_sized : (table : Table) (root : ℕ) (struct : StructDef) (i : ℕ) → IsChecked table
    → def_of table root ≡ Def.Struct struct → i < length struct.fields
    → is_sized (def_of table (child_shape table root i)) ≡ true
field_is_sized table root struct i checked is below = go (slice_get table root) refl is
  where
    of_def : (def : Def) → def ≡ Def.Struct struct → list_all (has_size table) (shapes_of (fields_of def)) ≡ true
        → is_sized (def_of table (shape_of_child def i)) ≡ true
    of_def (Def.Struct other) same all =
        let fewer : length struct.fields ≡ length other.fields = cc in
        sized_among table other.fields i (omega arith) all
    of_def _ same all = cc

    go : (found : Option Shape) → slice_get table root ≡ found → def_or_other found ≡ Def.Struct struct
        → is_sized (def_of table (shape_of_child (def_or_other found) i)) ≡ true
    go (Some shape) there same = of_def shape.def same (fields_sized table shape (checked.sizes root shape there))
    go None there same = cc

-- Values

not_str : (def : Def) → is_sized def ≡ true → is_str def ≡ false
not_str Def.Str sized = cc
not_str _ sized = refl

first_alone : (same str string : Bool) → str ≡ false → (same || (str && string)) ≡ same
first_alone true str string not = refl
first_alone false true string not = cc
first_alone false false string not = refl

-- a place that has a size takes values of its own shape alone
pub takes_its_own : (table : Table) (s given : ℕ) → is_sized (def_of table s) ≡ true
    → takes_shape table s given ≡ (s == given)
takes_its_own table s given sized = first_alone (s == given) (is_str (def_of table s)) _ (not_str (def_of table s) sized)
