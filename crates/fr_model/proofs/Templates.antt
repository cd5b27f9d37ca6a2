-- What a checked table's presets and defaults give, and what a text or bytes mean at a place, the hooks being lawful: values that fit
-- and hold no token.
use Rattle.std.proofs.Common.{◌≡◌, ◌&&◌, ◌∷◌, ◌++◌, ◌||◌, ◌<◌}
use Rattle.fr_model.proofs.Common.{ℕ, Bool, true, false, List, [], slice_get, Option, Some, None, is_some, Result, Ok, zero, suc, refl, sym, ◌∙◌, ap, subst, list_all, flat_map, Shape, Def, StructDef, Field, DefaultSource, ShapeId, VariantDef, Operation, ReflectErrorKind, IsChecked, fields_of, is_template, default_is_template, is_none_val, preset_in, preset_of, strict_by_mark, by_strict_rule, deferred_by_mark, by_deferred_rule, Table, def_or_other, def_of, field_of_variant, field_in, is_nil, Val, none, fits, tokens, times, occurs, Column, strict_column, deferred_column, child_shape, shape_of_field, shape_of_child, fill_by, fill_of_field, fill_in, fill_at, default_or, default_by_mark, field_default, not, length, Meanings, Contains, arith, map, nat_lt, ltb-true, IsIn, option_to_list}
use Rattle.fr_shape.specs.Checked.{all_proxies_of, contents_of, ids_in_range, parts_of, pointees_of}
use Rattle.fr_shape.specs.declared.shape.ProxyDef.{ProxyDef}
use Rattle.fr_shape.specs.TokenLaws.{occurs_times}
use Rattle.fr_model.specs.Step.{operation_failed}
use Rattle.std.specs.Option.{option_map_or}
use Rattle.std.proofs.lemmas.Option.{slice_get_within}
use Rattle.fr_shape.specs.HookLaws.{given}
use Rattle.fr_shape.specs.Hooks.{Meaning, gives, unsupported, IfGives, IsLawful, FitsTarget, HoldsNoToken}
use Rattle.fr_shape.specs.declared.shape.HookId.{HookId}
use Rattle.fr_shape.specs.Parsing.{parsed}
use Rattle.fr_shape.specs.ParsingLaws.{parsed_fits, parsed_no_token}
use Rattle.fr_model.specs.Parses.{parse_of, parse_bytes_of, text_meant, bytes_meant}

-- lists and tests

pub some_is : {T : Type 0} (x y : T) → Some x ≡ Some y → x ≡ y
some_is x y e = cc

-- one of the others, the one in front of them, and the only one
pub further : {T : Type 0} (x : T) (xs : List T) (y : T) → Contains xs y → Contains (x ∷ xs) y
further x xs y (k, below, is) = (suc k, omega arith, is)

pub itself : {T : Type 0} (x : T) (xs : List T) (y : T) → x ≡ y → Contains (x ∷ xs) y
itself x xs y same = (0, omega arith, same)

pub only_one : {T : Type 0} (x y : T) → Contains (x ∷ []) y → y ≡ x
only_one x y (zero, below, is) = sym is
only_one x y (suc k, below, is) = absurd (omega arith)

pub both_true : (a b : Bool) → (a && b) ≡ true → (a ≡ true) × (b ≡ true)
both_true true true h = (refl, refl)
both_true true false h = cc
both_true false b h = cc

pub both_false : (a b : Bool) → (a || b) ≡ false → (a ≡ false) × (b ≡ false)
both_false true b e = cc
both_false false b e = (refl, e)

pub is_not : (b : Bool) → not b ≡ true → b ≡ false
is_not true e = cc
is_not false e = refl

pub each_passes : {X : Type 0} (test : X → Bool) (xs : List X) (i : ℕ) (x : X) → list_all test xs ≡ true
    → slice_get xs i ≡ Some x → test x ≡ true
each_passes test [] i x all at = cc
each_passes test (y ∷ ys) zero x all at =
    let same : y ≡ x = cc in ap test (sym same) ∙ (both_true (test y) _ all).0
each_passes test (y ∷ ys) (suc i) x all at = each_passes test ys i x (both_true (test y) (list_all test ys) all).1 at

pub nil_is : {X : Type 0} (xs : List X) → is_nil xs ≡ true → xs ≡ []
nil_is [] h = refl
nil_is (x ∷ xs) h = cc

-- what a template is

pub record IsTemplate (table : Table) (s : ℕ) (v : Val) : Type 0 where
  pub fit : fits table s v ≡ true
  pub no_tokens : tokens v ≡ []

pub template_holds : (table : Table) (s : ℕ) (v : Val) (t : ℕ) → IsTemplate table s v → occurs v t ≡ 0
template_holds table s v t template = occurs_times v t ∙ ap (λ (ts : List ℕ). times ts t) template.no_tokens

tested_template : (table : Table) (s : ℕ) (v : Val) → is_template table s v ≡ true → IsTemplate table s v
tested_template table s v tested = let both = both_true _ _ tested in record { fit = both.0; no_tokens = nil_is (tokens v) both.1 }

-- presets

pub record HasPreset (table : Table) (s : ℕ) (v : Val) : Type 0 where
  pub shape : Shape
  pub is : slice_get table s ≡ Some shape
  pub preset : shape.preset ≡ Some v

pub has_preset : (table : Table) (s : ℕ) (v : Val) → preset_of table s ≡ Some v → HasPreset table s v
has_preset table s v e = go _ refl e
  where
    go : (found : Option Shape) → slice_get table s ≡ found → preset_in found ≡ Some v → HasPreset table s v
    go (Some shape) is e = record { shape = shape; is = is; preset = e }
    go None is e = cc

pub preset_template : (table : Table) (s : ℕ) (v : Val) → IsChecked table → preset_of table s ≡ Some v → IsTemplate table s v
preset_template table s v checked e =
    tested_template table s v (both_true _ true (rw has.preset at (both_true _
    (list_all (λ (field : Field). default_is_template table field.shape.0 field.default) (fields_of has.shape.def))
    (checked.templates s has.shape has.is)).0)).0
  where
    has : HasPreset table s v
    has = has_preset table s v e

-- an option's preset is none
pub option_preset : (table : Table) (s t : ℕ) (v : Val) → IsChecked table → def_of table s ≡ Def.Option (record { 0 = t })
    → preset_of table s ≡ Some v → v ≡ none
option_preset table s t v checked is e = is_none v (rw (has.preset, here) at (checked.options s has.shape has.is))
  where
    has : HasPreset table s v
    has = has_preset table s v e

    here : has.shape.def ≡ Def.Option (record { 0 = t })
    here = rw has.is at is

    is_none : (v : Val) → is_none_val v ≡ true → v ≡ none
    is_none none h = refl
    is_none _ h = cc

-- fields

pub record IsStructAt (table : Table) (s : ℕ) (struct : StructDef) : Type 0 where
  pub shape : Shape
  pub is : slice_get table s ≡ Some shape
  pub def : shape.def ≡ Def.Struct struct

pub struct_at : (table : Table) (s : ℕ) (struct : StructDef) → def_of table s ≡ Def.Struct struct → IsStructAt table s struct
struct_at table s struct e = go _ refl e
  where
    go : (found : Option Shape) → slice_get table s ≡ found → def_or_other found ≡ Def.Struct struct → IsStructAt table s struct
    go (Some shape) is e = record { shape = shape; is = is; def = e }
    go None is e = cc

-- fields of a struct or of a variant

pub all_of_both : {X : Type 0} (test : X → Bool) (xs ys : List X) → list_all test (xs ++ ys) ≡ true
    → (list_all test xs ≡ true) × (list_all test ys ≡ true)
all_of_both test [] ys all = (refl, all)
all_of_both test (x ∷ xs) ys all =
    let here = both_true (test x) _ all in
    let rest = all_of_both test xs ys here.1 in
    (rw (here.0, rest.0) refl, rest.1)

variant_field_passes : (test : Field → Bool) (variants : List VariantDef) (k i : ℕ) (field : Field)
    → list_all test (flat_map (λ (variant : VariantDef). variant.fields) variants) ≡ true
    → field_of_variant (slice_get variants k) i ≡ Some field → test field ≡ true
variant_field_passes test [] k i field all at = cc
variant_field_passes test (variant ∷ variants) zero i field all at =
    each_passes test variant.fields i field
    (all_of_both test variant.fields (flat_map (λ (other : VariantDef). other.fields) variants) all).0 at
variant_field_passes test (variant ∷ variants) (suc k) i field all at =
    variant_field_passes test variants k i field
    (all_of_both test variant.fields (flat_map (λ (other : VariantDef). other.fields) variants) all).1 at

-- what is true of all fields of a definition is true of the one of this number
pub field_passes : (test : Field → Bool) (def : Def) (selected : Option ℕ) (i : ℕ) (field : Field)
    → list_all test (fields_of def) ≡ true → field_in def selected i ≡ Some field → test field ≡ true
field_passes test (Def.Struct struct) None i field all at = each_passes test struct.fields i field all at
field_passes test (Def.Struct struct) (Some k) i field all at = cc
field_passes test (Def.Enum enumeration) (Some k) i field all at = variant_field_passes test enumeration.variants k i field all at
field_passes test (Def.Enum enumeration) None i field all at = cc
field_passes test _ selected i field all at = cc

mapped_all : {X Y : Type 0} (f : X → Y) (test : Y → Bool) (xs : List X) → list_all test (map f xs) ≡ true
    → list_all (λ (x : X). test (f x)) xs ≡ true
mapped_all f test [] all = refl
mapped_all f test (x ∷ xs) all =
    let here = both_true (test (f x)) _ all in
    let rest = mapped_all f test xs here.1 in
    rw (here.0, rest) refl

shapes_in_range : (table : Table) (shape : Shape) → ids_in_range table shape ≡ true
    → list_all (λ (field : Field). nat_lt field.shape.0 (length table)) (fields_of shape.def) ≡ true
shapes_in_range table shape all =
    let in_range : ShapeId → Bool = λ id. nat_lt id.0 (length table) in
    let of_fields : List ShapeId = map (λ (field : Field). field.shape) (fields_of shape.def) in
    let with_contents : List ShapeId = of_fields ++ contents_of shape.def in
    let with_inner : List ShapeId = with_contents ++ option_to_list shape.inner in
    let with_builder : List ShapeId = with_inner ++ option_to_list shape.builder in
    mapped_all (λ (field : Field). field.shape) in_range (fields_of shape.def)
    (all_of_both in_range of_fields (contents_of shape.def)
    (all_of_both in_range with_contents (option_to_list shape.inner)
    (all_of_both in_range with_inner (option_to_list shape.builder)
    (all_of_both in_range with_builder (map (λ (proxy : ProxyDef). proxy.source) (all_proxies_of shape))
    (all_of_both in_range (parts_of shape) (pointees_of shape.def) all).0).0).0).0).0

-- the shape of a field is in the table
pub field_is_in : (table : Table) (s : ℕ) (selected : Option ℕ) (i : ℕ) (field : Field) → IsChecked table
    → field_in (def_of table s) selected i ≡ Some field → IsIn table field.shape.0
field_is_in table s selected i field checked at = go _ refl at
  where
    go : (found : Option Shape) → slice_get table s ≡ found → field_in (def_or_other found) selected i ≡ Some field
        → IsIn table field.shape.0
    go (Some shape) is at =
        ltb-true field.shape.0 (length table) (field_passes (λ (f : Field). nat_lt f.shape.0 (length table)) shape.def selected i field
        (shapes_in_range table shape (checked.ids s shape is)) at)
    go None is at = cc

default_template : (table : Table) (s : ℕ) (selected : Option ℕ) (i : ℕ) (field : Field) (v : Val) → IsChecked table
    → field_in (def_of table s) selected i ≡ Some field → field.default ≡ Some (DefaultSource.Custom v) → IsTemplate table field.shape.0 v
default_template table s selected i field v checked at marked = go _ refl at
  where
    go : (found : Option Shape) → slice_get table s ≡ found → field_in (def_or_other found) selected i ≡ Some field
        → IsTemplate table field.shape.0 v
    go (Some shape) is at =
        let each = field_passes (λ (f : Field). default_is_template table f.shape.0 f.default) shape.def selected i field
        (both_true _ (list_all (λ (f : Field). default_is_template table f.shape.0 f.default) (fields_of shape.def))
        (checked.templates s shape is)).1 at in
        tested_template table field.shape.0 v (rw marked at each)
    go None is at = cc

field_template : (column : Column) (table : Table) (s : ℕ) (selected : Option ℕ) (i : ℕ) (field : Field) (v : Val)
    → IsChecked table → field_in (def_of table s) selected i ≡ Some field
    → fill_by column table s (is_some selected) field ≡ Some v → IsTemplate table field.shape.0 v
field_template strict_column table s selected i field v checked at e = go field.default _ refl e
  where
    go : (mark : Option DefaultSource) (unmarked : Bool) → field.default ≡ mark
        → by_strict_rule table field (strict_by_mark mark unmarked) ≡ Some v → IsTemplate table field.shape.0 v
    go (Some (DefaultSource.Custom value)) unmarked marked e =
        let same : value ≡ v = cc in rw (← same) (default_template table s selected i field value checked at marked)
    go (Some DefaultSource.FromTrait) unmarked marked e = preset_template table field.shape.0 v checked e
    go None true marked e = preset_template table field.shape.0 v checked e
    go None false marked e = cc
field_template deferred_column table s selected i field v checked at e = go field.default _ _ refl e
  where
    go : (mark : Option DefaultSource) (has unmarked : Bool) → field.default ≡ mark
        → by_deferred_rule table field (deferred_by_mark mark has unmarked) ≡ Some v → IsTemplate table field.shape.0 v
    go (Some (DefaultSource.Custom value)) has unmarked marked e =
        let same : value ≡ v = cc in rw (← same) (default_template table s selected i field value checked at marked)
    go (Some DefaultSource.FromTrait) true unmarked marked e = preset_template table field.shape.0 v checked e
    go (Some DefaultSource.FromTrait) false unmarked marked e = cc
    go None has true marked e = preset_template table field.shape.0 v checked e
    go None has false marked e = cc

-- a field's default by its mark, and by that of its shape
abbrev default_by : Table → ShapeId → (preset : Option Val) → Option DefaultSource → Result Val ReflectErrorKind
default_by table shape preset (Some (DefaultSource.Custom v)) = Ok v
default_by table shape preset (Some DefaultSource.FromTrait) = default_or preset (operation_failed shape.0 Operation.NoDefault)
default_by table shape preset None = default_or preset (ReflectErrorKind.DefaultAttrButNoDefaultImpl shape)

default_same : (table : Table) (shape : ShapeId) (mark : Option DefaultSource)
    → default_by table shape (preset_of table shape.0) mark ≡ default_by_mark table shape mark
default_same table shape (Some (DefaultSource.Custom v)) = refl
default_same table shape _ = refl

-- what a hole takes, as a field of a struct or of the selected variant
pub fill_in_template : (column : Column) (table : Table) (s : ℕ) (selected : Option ℕ) (i : ℕ) (v : Val) → IsChecked table
    → fill_in column table s selected i ≡ Some v → IsTemplate table (shape_of_field (field_in (def_of table s) selected i)) v
fill_in_template column table s selected i v checked e = go _ refl e
  where
    go : (found : Option Field) → field_in (def_of table s) selected i ≡ found
        → fill_of_field column table s (is_some selected) found ≡ Some v → IsTemplate table (shape_of_field found) v
    go (Some field) at e = field_template column table s selected i field v checked at e
    go None at e = cc

-- a struct's field has the shape of the child of its number
struct_field : (def : Def) (i : ℕ) (v : Val) (column : Column) (table : Table) (s : ℕ)
    → fill_of_field column table s false (field_in def None i) ≡ Some v → shape_of_field (field_in def None i) ≡ shape_of_child def i
struct_field (Def.Struct struct) i v column table s e = refl
struct_field _ i v column table s e = cc

pub fill_template : (column : Column) (table : Table) (s i : ℕ) (v : Val) → IsChecked table
    → fill_at column table s i ≡ Some v → IsTemplate table (child_shape table s i) v
fill_template column table s i v checked e =
    subst (λ (shape : ℕ). IsTemplate table shape v) (struct_field (def_of table s) i v column table s e)
    (fill_in_template column table s None i v checked e)

-- the default to which a field is set
pub field_default_template : (table : Table) (s : ℕ) (selected : Option ℕ) (i : ℕ) (field : Field) (v : Val) → IsChecked table
    → field_in (def_of table s) selected i ≡ Some field → field_default table field ≡ Ok v → IsTemplate table field.shape.0 v
field_default_template table s selected i field v checked at e =
    go field.default _ refl refl (default_same table field.shape field.default ∙ e)
  where
    go : (mark : Option DefaultSource) (preset : Option Val) → field.default ≡ mark → preset_of table field.shape.0 ≡ preset
        → default_by table field.shape preset mark ≡ Ok v → IsTemplate table field.shape.0 v
    go (Some (DefaultSource.Custom value)) preset marked is e =
        let same : value ≡ v = cc in rw (← same) (default_template table s selected i field value checked at marked)
    go (Some DefaultSource.FromTrait) (Some u) marked is e =
        let same : u ≡ v = cc in preset_template table field.shape.0 v checked (is ∙ ap Some same)
    go (Some DefaultSource.FromTrait) None marked is e = cc
    go None (Some u) marked is e =
        let same : u ≡ v = cc in preset_template table field.shape.0 v checked (is ∙ ap Some same)
    go None None marked is e = cc

module _ (hooks : Meanings) (table : Table) (s : ℕ) (codes : List ℕ) (v : Val) (checked : IsChecked table) (lawful : IsLawful hooks) where
  -- what a shape's hook makes of them, and without one something else
  of_hook : (meant : HookId → Meaning) (otherwise : Meaning)
      → ((hook : HookId) → IfGives (meant hook) (FitsTarget table s)) → ((hook : HookId) → IfGives (meant hook) (HoldsNoToken table s))
      → (otherwise ≡ gives v → IsTemplate table s v) → (hook : Option HookId) → s < length table
      → option_map_or meant hook otherwise ≡ gives v → IsTemplate table s v
  of_hook meant otherwise fit hold by_itself (Some hook) within e = record {
    fit = given _ v (FitsTarget table s) e (fit hook) checked within;
    no_tokens = given _ v (HoldsNoToken table s) e (hold hook) checked within;
  }
  of_hook meant otherwise fit hold by_itself None within e = by_itself e

  pub text_template : text_meant hooks table s codes ≡ gives v → IsTemplate table s v
  text_template e = go (slice_get table s) refl e
    where
      built_in : parsed (def_of table s) codes ≡ gives v → IsTemplate table s v
      built_in e = record {
        fit = given _ v (λ (w : Val). fits table s w ≡ true) e (parsed_fits table s codes);
        no_tokens = given _ v (λ (w : Val). tokens w ≡ []) e (parsed_no_token (def_of table s) codes);
      }

      meant : HookId → Meaning
      meant hook = hooks.parse table hook.0 s codes

      go : (found : Option Shape) → slice_get table s ≡ found
          → option_map_or meant (parse_of found) (parsed (def_of table s) codes) ≡ gives v → IsTemplate table s v
      go (Some shape) is e = of_hook meant _ (λ hook. lawful.parsed_fits table hook.0 s codes)
          (λ hook. lawful.parsed_tokens table hook.0 s codes) built_in shape.parse (slice_get_within table s shape is) e
      go None is e = built_in e

  pub bytes_template : bytes_meant hooks table s codes ≡ gives v → IsTemplate table s v
  bytes_template e = go (slice_get table s) refl e
    where
      meant : HookId → Meaning
      meant hook = hooks.parse_bytes table hook.0 s codes

      go : (found : Option Shape) → slice_get table s ≡ found → option_map_or meant (parse_bytes_of found) unsupported ≡ gives v
          → IsTemplate table s v
      go (Some shape) is e = of_hook meant _ (λ hook. lawful.parsed_bytes_fits table hook.0 s codes)
          (λ hook. lawful.parsed_bytes_tokens table hook.0 s codes) (λ none. cc) shape.parse_bytes (slice_get_within table s shape is) e
      go None is e = cc
