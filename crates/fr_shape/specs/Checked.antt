-- What it takes for a table to be checked: nine rules, each asked of every entry, of which some look at other entries.
use Rattle.std.specs.Prelude.{◌≡◌, ℕ, ◌==◌, Bool, true, false, not, ◌&&◌, ◌||◌, List, [], ◌∷◌, ◌++◌, map, length, nat_lt, Option, Some, None, is_none, is_some, option_to_list, take, slice_get}
use Rattle.std.specs.List.{list_all, list_any, flat_map}
use Rattle.std.specs.Str.{bytes_eq}
use Rattle.fr_shape.specs.declared.shape.Shape.{Shape}
use Rattle.fr_shape.specs.declared.shape.ShapeId.{ShapeId}
use Rattle.fr_shape.specs.declared.shape.HookId.{HookId}
use Rattle.fr_shape.specs.declared.shape.Def.{Def}
use Rattle.fr_shape.specs.declared.shape.VariantDef.{VariantDef}
use Rattle.fr_shape.specs.declared.shape.Field.{Field}
use Rattle.fr_shape.specs.declared.shape.DefaultSource.{DefaultSource}
use Rattle.fr_shape.specs.declared.shape.ProxyDef.{ProxyDef}
use Rattle.fr_shape.specs.declared.shape.FormatProxy.{FormatProxy}
use Rattle.fr_shape.specs.declared.shape.ValidatorDef.{ValidatorDef}
use Rattle.fr_shape.specs.Look.{Table, def_of, variants_of}
use Rattle.fr_shape.specs.Val.{Val, none}
use Rattle.fr_shape.specs.Fits.{fits, signed_bits, unsigned_bits, is_text_kind}
use Rattle.fr_shape.specs.Tokens.{tokens}
use Rattle.fr_shape.specs.Lists.{is_nil}
use Rattle.fr_shape.specs.Named.{name_of}

-- the fields of a struct, or of all variants of an enum in order
abbrev pub fields_of : Def → List Field
fields_of (Def.Struct struct) = struct.fields
fields_of (Def.Enum enumeration) = flat_map (λ (variant : VariantDef). variant.fields) enumeration.variants
fields_of (Def.Scalar kind) = []
fields_of Def.Str = []
fields_of Def.Opaque = []
fields_of (Def.Option t) = []
fields_of (Def.Result t e) = []
fields_of (Def.List t) = []
fields_of (Def.Map k v) = []
fields_of (Def.Set t) = []
fields_of (Def.Array t n) = []
fields_of (Def.Pointer pointer) = []
fields_of (Def.Slice t) = []
fields_of Def.Dynamic = []
fields_of Def.Undefined = []
fields_of Def.Other = []

-- the proxies of a shape or field, whatever their format
abbrev pub proxies_of : Option ProxyDef → List FormatProxy → List ProxyDef
proxies_of proxy format_proxies =
    option_to_list proxy ++ map (λ (formatted : FormatProxy). formatted.proxy) format_proxies

abbrev pub all_proxies_of : Shape → List ProxyDef
all_proxies_of shape =
    proxies_of shape.proxy shape.format_proxies
    ++ flat_map (λ (field : Field). proxies_of field.proxy field.format_proxies) (fields_of shape.def)

-- elements, keys, values and contents
abbrev pub contents_of : Def → List ShapeId
contents_of (Def.Option t) = t ∷ []
contents_of (Def.Result t e) = t ∷ e ∷ []
contents_of (Def.List t) = t ∷ []
contents_of (Def.Map k v) = k ∷ v ∷ []
contents_of (Def.Set t) = t ∷ []
contents_of (Def.Array t n) = t ∷ []
contents_of (Def.Slice t) = t ∷ []
contents_of (Def.Scalar kind) = []
contents_of Def.Str = []
contents_of Def.Opaque = []
contents_of (Def.Struct struct) = []
contents_of (Def.Enum enumeration) = []
contents_of (Def.Pointer pointer) = []
contents_of Def.Dynamic = []
contents_of Def.Undefined = []
contents_of Def.Other = []

abbrev pub pointees_of : Def → List ShapeId
pointees_of (Def.Pointer pointer) = option_to_list pointer.pointee
pointees_of (Def.Scalar kind) = []
pointees_of Def.Str = []
pointees_of Def.Opaque = []
pointees_of (Def.Struct struct) = []
pointees_of (Def.Enum enumeration) = []
pointees_of (Def.Option t) = []
pointees_of (Def.Result t e) = []
pointees_of (Def.List t) = []
pointees_of (Def.Map k v) = []
pointees_of (Def.Set t) = []
pointees_of (Def.Array t n) = []
pointees_of (Def.Slice t) = []
pointees_of Def.Dynamic = []
pointees_of Def.Undefined = []
pointees_of Def.Other = []

-- the shapes named by an entry that have to be sized: all but a pointee
abbrev pub parts_of : Shape → List ShapeId
parts_of shape =
    map (λ (field : Field). field.shape) (fields_of shape.def) ++ contents_of shape.def ++ option_to_list shape.inner
    ++ option_to_list shape.builder ++ map (λ (proxy : ProxyDef). proxy.source) (all_proxies_of shape)

abbrev pub is_sized : Def → Bool
is_sized Def.Str = false
is_sized (Def.Slice t) = false
is_sized (Def.Scalar kind) = true
is_sized Def.Opaque = true
is_sized (Def.Struct struct) = true
is_sized (Def.Enum enumeration) = true
is_sized (Def.Option t) = true
is_sized (Def.Result t e) = true
is_sized (Def.List t) = true
is_sized (Def.Map k v) = true
is_sized (Def.Set t) = true
is_sized (Def.Array t n) = true
is_sized (Def.Pointer pointer) = true
is_sized Def.Dynamic = true
is_sized Def.Undefined = true
is_sized Def.Other = true

abbrev pub names_apart : List (List ℕ) → Bool
names_apart [] = true
names_apart (name ∷ names) = not (list_any (bytes_eq name) names) && names_apart names

abbrev pub variant_names : Def → List (List ℕ)
variant_names def = map name_of (variants_of def)

abbrev pub is_integer : Def → Bool
is_integer (Def.Scalar kind) = is_some (signed_bits kind) || is_some (unsigned_bits kind)
is_integer Def.Str = false
is_integer Def.Opaque = false
is_integer (Def.Struct struct) = false
is_integer (Def.Enum enumeration) = false
is_integer (Def.Option t) = false
is_integer (Def.Result t e) = false
is_integer (Def.List t) = false
is_integer (Def.Map k v) = false
is_integer (Def.Set t) = false
is_integer (Def.Array t n) = false
is_integer (Def.Pointer pointer) = false
is_integer (Def.Slice t) = false
is_integer Def.Dynamic = false
is_integer Def.Undefined = false
is_integer Def.Other = false

abbrev pub is_string : Def → Bool
is_string (Def.Scalar kind) = is_text_kind kind
is_string Def.Str = false
is_string Def.Opaque = false
is_string (Def.Struct struct) = false
is_string (Def.Enum enumeration) = false
is_string (Def.Option t) = false
is_string (Def.Result t e) = false
is_string (Def.List t) = false
is_string (Def.Map k v) = false
is_string (Def.Set t) = false
is_string (Def.Array t n) = false
is_string (Def.Pointer pointer) = false
is_string (Def.Slice t) = false
is_string Def.Dynamic = false
is_string Def.Undefined = false
is_string Def.Other = false

-- the validator may stand on a field of this definition
abbrev pub suits : Def → ValidatorDef → Bool
suits def (ValidatorDef.Custom hook) = true
suits def (ValidatorDef.Min low) = is_integer def
suits def (ValidatorDef.Max high) = is_integer def
suits def (ValidatorDef.MinLength low) = is_string def
suits def (ValidatorDef.MaxLength high) = is_string def
suits def ValidatorDef.Url = is_string def
suits def (ValidatorDef.Regex pattern) = is_string def
suits def (ValidatorDef.Contains needle) = is_string def

-- fits the shape and holds no token
abbrev pub is_template : Table → ℕ → Val → Bool
is_template table id v = fits table id v && is_nil (tokens v)

abbrev pub default_is_template : Table → ℕ → Option DefaultSource → Bool
default_is_template table id (Some (DefaultSource.Custom v)) = is_template table id v
default_is_template table id (Some DefaultSource.FromTrait) = true
default_is_template table id None = true

-- a shape of this definition may be converted to: a scalar or an `Other` that wraps something, an option that
-- wraps its content, or an opaque or undefined shape with a builder
abbrev pub converts : Def → (inner builder : Option ShapeId) → Bool
converts (Def.Scalar kind) inner builder = is_some inner
converts (Def.Option t) (Some wrapped) builder = wrapped.0 == t.0
converts (Def.Option t) None builder = false
converts Def.Opaque inner builder = is_some builder
converts Def.Undefined inner builder = is_some builder
converts Def.Other inner builder = is_some inner
converts Def.Str inner builder = false
converts (Def.Struct struct) inner builder = false
converts (Def.Enum enumeration) inner builder = false
converts (Def.Result t e) inner builder = false
converts (Def.List t) inner builder = false
converts (Def.Map k v) inner builder = false
converts (Def.Set t) inner builder = false
converts (Def.Array t n) inner builder = false
converts (Def.Pointer pointer) inner builder = false
converts (Def.Slice t) inner builder = false
converts Def.Dynamic inner builder = false

abbrev pub may_have_builder : Def → Bool
may_have_builder Def.Opaque = true
may_have_builder Def.Undefined = true
may_have_builder (Def.Scalar kind) = false
may_have_builder Def.Str = false
may_have_builder (Def.Struct struct) = false
may_have_builder (Def.Enum enumeration) = false
may_have_builder (Def.Option t) = false
may_have_builder (Def.Result t e) = false
may_have_builder (Def.List t) = false
may_have_builder (Def.Map k v) = false
may_have_builder (Def.Set t) = false
may_have_builder (Def.Array t n) = false
may_have_builder (Def.Pointer pointer) = false
may_have_builder (Def.Slice t) = false
may_have_builder Def.Dynamic = false
may_have_builder Def.Other = false

abbrev pub custom_hooks : List ValidatorDef → List HookId
custom_hooks [] = []
custom_hooks (ValidatorDef.Custom hook ∷ validators) = hook ∷ custom_hooks validators
custom_hooks (ValidatorDef.Min low ∷ validators) = custom_hooks validators
custom_hooks (ValidatorDef.Max high ∷ validators) = custom_hooks validators
custom_hooks (ValidatorDef.MinLength low ∷ validators) = custom_hooks validators
custom_hooks (ValidatorDef.MaxLength high ∷ validators) = custom_hooks validators
custom_hooks (ValidatorDef.Url ∷ validators) = custom_hooks validators
custom_hooks (ValidatorDef.Regex pattern ∷ validators) = custom_hooks validators
custom_hooks (ValidatorDef.Contains needle ∷ validators) = custom_hooks validators

abbrev pub hooks_of : Shape → List HookId
hooks_of shape =
    option_to_list shape.convert ++ option_to_list shape.parse ++ option_to_list shape.parse_bytes
    ++ option_to_list shape.invariant ++ map (λ (proxy : ProxyDef). proxy.convert) (all_proxies_of shape)
    ++ flat_map (λ (field : Field). custom_hooks field.validators) (fields_of shape.def)

abbrev pub is_none_val : Val → Bool
is_none_val none = true
is_none_val _ = false

abbrev pub holds_none : Def → Option Val → Bool
holds_none (Def.Option t) (Some v) = is_none_val v
holds_none _ preset = true

-- The nine rules, each at the entry of number i.

-- 1: every id is below the number of shapes
abbrev pub ids_in_range : Table → Shape → Bool
ids_in_range table shape =
    list_all (λ (id : ShapeId). nat_lt id.0 (length table)) (parts_of shape ++ pointees_of shape.def)

-- 2: no earlier shape has its name
abbrev pub name_is_new : Table → ℕ → Shape → Bool
name_is_new table i shape = not (list_any (λ (earlier : Shape). bytes_eq earlier.name shape.name) (take i table))

-- 3: its parts are sized
abbrev pub parts_are_sized : Table → Shape → Bool
parts_are_sized table shape = list_all (λ (id : ShapeId). is_sized (def_of table id.0)) (parts_of shape)

-- 4: an enum's variants have distinct effective names
abbrev pub variants_apart : Shape → Bool
variants_apart shape = names_apart (variant_names shape.def)

-- 5: each validator suits its field's definition
abbrev pub validators_suit : Table → Shape → Bool
validators_suit table shape =
    list_all (λ (field : Field). list_all (suits (def_of table field.shape.0)) field.validators) (fields_of shape.def)

-- 6: each default, of a shape or of a field alone, is a value of that shape without tokens
abbrev pub templates_fit : Table → ℕ → Shape → Bool
templates_fit table i shape =
    list_all (is_template table i) (option_to_list shape.preset)
    && list_all (λ (field : Field). default_is_template table field.shape.0 field.default) (fields_of shape.def)

-- 7: a conversion stands only where there is something to convert from, a builder only on what is opaque or undefined
abbrev pub conversion_suits : Shape → Bool
conversion_suits shape =
    (is_none shape.convert || converts shape.def shape.inner shape.builder)
    && (is_none shape.builder || may_have_builder shape.def)

-- 8: every hook's number is below 65,536
abbrev pub hooks_in_range : Shape → Bool
hooks_in_range shape = list_all (λ (hook : HookId). nat_lt hook.0 65536) (hooks_of shape)

-- 9: an option's preset is none
abbrev pub option_preset_is_none : Shape → Bool
option_preset_is_none shape = holds_none shape.def shape.preset

-- each entry keeps the rule
abbrev pub EachKeeps : Table → (ℕ → Shape → Bool) → Type 0
EachKeeps table rule = (i : ℕ) (shape : Shape) → slice_get table i ≡ Some shape → rule i shape ≡ true

-- a checked table
pub record IsChecked (table : Table) : Type 0 where
  pub ids : EachKeeps table (λ i shape. ids_in_range table shape)
  pub names : EachKeeps table (name_is_new table)
  pub sizes : EachKeeps table (λ i shape. parts_are_sized table shape)
  pub variants : EachKeeps table (λ i shape. variants_apart shape)
  pub validators : EachKeeps table (λ i shape. validators_suit table shape)
  pub templates : EachKeeps table (templates_fit table)
  pub conversions : EachKeeps table (λ i shape. conversion_suits shape)
  pub hooks : EachKeeps table (λ i shape. hooks_in_range shape)
  pub options : EachKeeps table (λ i shape. option_preset_is_none shape)
