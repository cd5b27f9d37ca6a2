-- A shape and a field of which nothing is said but what they can't do without.
use Rattle.std.specs.Prelude.{ℕ, false, List, [], None}
use Rattle.fr_shape.specs.declared.shape.Shape.{Shape}
use Rattle.fr_shape.specs.declared.shape.Def.{Def}
use Rattle.fr_shape.specs.declared.shape.Field.{Field}

-- a shape with this name and this definition, and nothing else
abbrev pub plain_shape : (name : List ℕ) → Def → Shape
plain_shape name def = record {
  name = name;
  def = def;
  preset = None;
  default_attr = false;
  inner = None;
  builder = None;
  convert = None;
  parse = None;
  parse_bytes = None;
  proxy = None;
  format_proxies = [];
  invariant = None;
  metadata = false;
  deny_unknown = false;
  transparent = false;
  bytes_ok = false;
}

-- a field with this name, of the shape of this number, and nothing else
abbrev pub plain_field : (name : List ℕ) → (shape : ℕ) → Field
plain_field name shape = record {
  name = name;
  rename = None;
  alias = None;
  shape = record { 0 = shape };
  default = None;
  skip = false;
  flatten = false;
  proxy = None;
  format_proxies = [];
  validators = [];
}
