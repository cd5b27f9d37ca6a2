-- The fields that JSON stands for.
use Rattle.std.specs.Prelude.{ℕ, false, List, [], ◌∷◌, Option, Some, None, option_map, codes, if◌then◌else◌}
use Rattle.std.specs.Str.{bytes_eq}
use Rattle.serde_json.specs.Data.{Data, string, object}
use Rattle.serde_json.specs.Find.{get, as_array, as_str}
use Rattle.fr_shape.specs.declared.shape.DefaultSource.{DefaultSource}
use Rattle.fr_shape.specs.declared.shape.Field.{Field}
use Rattle.fr_doc.specs.Keys.{object_of, only_member, required, optional, flag}
use Rattle.fr_doc.specs.ProxyForms.{id_form, proxy_form, format_proxies_form}
use Rattle.fr_doc.specs.Steps.{◌>>=◌, each}
use Rattle.fr_doc.specs.ValidatorForms.{validators_form}
use Rattle.fr_doc.specs.ValueForms.{value_form}

-- the default that has a name: that of the field's shape
unfoldable pub named_default : List ℕ → Option DefaultSource
named_default word = if bytes_eq word (codes "trait") then Some DefaultSource.FromTrait else None

-- the default under a key: a value of the field's own
unfoldable pub keyed_default : List ℕ → Data → Option DefaultSource
keyed_default key inner = if bytes_eq key (codes "custom") then option_map DefaultSource.Custom (value_form inner) else None

-- a name, or an object of exactly one key
unfoldable pub default_form : Data → Option DefaultSource
default_form (string word) = named_default word
default_form (object members) = do
  entry ← only_member members
  keyed_default entry.0 entry.1
default_form _ = None

abbrev pub field_keys : List (List ℕ)
field_keys =
    codes "name" ∷ codes "shape" ∷ codes "rename" ∷ codes "alias" ∷ codes "default" ∷ codes "skip" ∷ codes "flatten"
    ∷ codes "proxy" ∷ codes "format_proxies" ∷ codes "validators" ∷ []

-- an object that has no other keys than a field's
unfoldable pub field_object : Data → Option Data
field_object d = object_of field_keys d

-- an object of a name and a shape, and of what else is said of the field
unfoldable pub field_form : Data → Option Field
field_form d = do
  field ← field_object d
  shape ← required (codes "shape") id_form field
  skip ← flag (codes "skip") false field
  flatten ← flag (codes "flatten") false field
  proxy ← optional (codes "proxy") proxy_form field
  name ← required (codes "name") as_str field
  rename ← optional (codes "rename") as_str field
  alias ← optional (codes "alias") as_str field
  format_proxies ← format_proxies_form (get (codes "format_proxies") field)
  validators ← validators_form (get (codes "validators") field)
  default ← optional (codes "default") default_form field
  Some (record {
    name = name;
    rename = rename;
    alias = alias;
    shape = shape;
    default = default;
    skip = skip;
    flatten = flatten;
    proxy = proxy;
    format_proxies = format_proxies;
    validators = validators;
  })

-- an array of fields
unfoldable pub fields_form : Data → Option (List Field)
fields_form d = do
  items ← as_array d
  each field_form items
