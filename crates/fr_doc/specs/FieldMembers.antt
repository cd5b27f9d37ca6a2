-- The members of a field's object.
use Rattle.std.specs.Prelude.{ℕ, List, Option, Some, None, option_map, codes, if◌then◌else◌}
use Rattle.std.specs.Option.{option_or}
use Rattle.serde_json.specs.Data.{Data, no_members, member, object}
use Rattle.serde_json.specs.Find.{get}
use Rattle.serde_json.specs.View.{view as data_of}
use Rattle.fr_doc.specs.FieldForms.{field_keys, field_object}
use Rattle.fr_doc.specs.Keys.{is_among}
use Rattle.fr_doc.specs.declared.field_members.FieldMembers.{FieldMembers}

-- what stands under each of a field's keys, where something does
pub record FieldParts : Type 0 where
  pub name : Option Data
  pub shape : Option Data
  pub rename : Option Data
  pub alias : Option Data
  pub default : Option Data
  pub skip : Option Data
  pub flatten : Option Data
  pub proxy : Option Data
  pub format_proxies : Option Data
  pub validators : Option Data

-- the parts that were found
abbrev pub parts_view : FieldMembers → FieldParts
parts_view found = record {
  name = option_map (λ json. data_of json.now) found.name;
  shape = option_map (λ json. data_of json.now) found.shape;
  rename = option_map (λ json. data_of json.now) found.rename;
  alias = option_map (λ json. data_of json.now) found.alias;
  default = option_map (λ json. data_of json.now) found.default;
  skip = option_map (λ json. data_of json.now) found.skip;
  flatten = option_map (λ json. data_of json.now) found.flatten;
  proxy = option_map (λ json. data_of json.now) found.proxy;
  format_proxies = option_map (λ json. data_of json.now) found.format_proxies;
  validators = option_map (λ json. data_of json.now) found.validators;
}

-- what stands under each of a field's keys
abbrev pub parts_of : Data → FieldParts
parts_of d = record {
  name = get (codes "name") d;
  shape = get (codes "shape") d;
  rename = get (codes "rename") d;
  alias = get (codes "alias") d;
  default = get (codes "default") d;
  skip = get (codes "skip") d;
  flatten = get (codes "flatten") d;
  proxy = get (codes "proxy") d;
  format_proxies = get (codes "format_proxies") d;
  validators = get (codes "validators") d;
}

-- the parts of an object that has no other keys than a field's
unfoldable pub field_parts : Data → Option FieldParts
field_parts d = option_map parts_of (field_object d)

-- each of these parts, or the other where there is none
abbrev pub parts_or : FieldParts → FieldParts → FieldParts
parts_or parts others = record {
  name = option_or parts.name others.name;
  shape = option_or parts.shape others.shape;
  rename = option_or parts.rename others.rename;
  alias = option_or parts.alias others.alias;
  default = option_or parts.default others.default;
  skip = option_or parts.skip others.skip;
  flatten = option_or parts.flatten others.flatten;
  proxy = option_or parts.proxy others.proxy;
  format_proxies = option_or parts.format_proxies others.format_proxies;
  validators = option_or parts.validators others.validators;
}

-- these parts, and what stands under one key more, if it is a field's
unfoldable pub parts_and : FieldParts → List ℕ → Data → Option FieldParts
parts_and parts key inner =
    if is_among key field_keys then Some (parts_or parts (parts_of (object (member key inner no_members)))) else None
