-- The tables that JSON stands for.
use Rattle.std.specs.Prelude.{ℕ, false, List, [], ◌∷◌, Option, Some, Result, Err, codes}
use Rattle.std.specs.Option.{ok_or}
use Rattle.serde_json.specs.Data.{Data, array}
use Rattle.serde_json.specs.Find.{get, as_str}
use Rattle.fr_shape.specs.declared.shape.Shape.{Shape}
use Rattle.fr_doc.specs.declared.fault.DocFault.{DocFault}
use Rattle.fr_doc.specs.declared.fault.DocPlace.{DocPlace}
use Rattle.fr_doc.specs.declared.shape_form.ShapeFlags.{ShapeFlags}
use Rattle.fr_doc.specs.declared.shape_form.ShapeHooks.{ShapeHooks}
use Rattle.fr_doc.specs.DefForms.{def_form}
use Rattle.fr_doc.specs.FaultSteps.{each_at}
use Rattle.fr_doc.specs.Keys.{object_of, required, optional, flag}
use Rattle.fr_doc.specs.ProxyForms.{id_form, hook_form, proxy_form, format_proxies_form}
use Rattle.fr_doc.specs.Steps.{◌>>=◌}
use Rattle.fr_doc.specs.ValueForms.{value_form}

abbrev pub shape_keys : List (List ℕ)
shape_keys =
    codes "name" ∷ codes "def" ∷ codes "preset" ∷ codes "default_attr" ∷ codes "metadata" ∷ codes "deny_unknown"
    ∷ codes "transparent" ∷ codes "bytes_ok" ∷ codes "inner" ∷ codes "builder" ∷ codes "convert" ∷ codes "parse"
    ∷ codes "parse_bytes" ∷ codes "invariant" ∷ codes "proxy" ∷ codes "format_proxies" ∷ []

-- an object that has no other keys than a shape's
unfoldable pub shape_object : Data → Option Data
shape_object d = object_of shape_keys d

-- what is true of the shape, which is false where nothing is said
unfoldable pub flags_form : Data → Option ShapeFlags
flags_form shape = do
  default_attr ← flag (codes "default_attr") false shape
  metadata ← flag (codes "metadata") false shape
  deny_unknown ← flag (codes "deny_unknown") false shape
  transparent ← flag (codes "transparent") false shape
  bytes_ok ← flag (codes "bytes_ok") false shape
  Some (record {
    default_attr = default_attr;
    metadata = metadata;
    deny_unknown = deny_unknown;
    transparent = transparent;
    bytes_ok = bytes_ok;
  })

-- the hooks of the shape
unfoldable pub hooks_form : Data → Option ShapeHooks
hooks_form shape = do
  convert ← optional (codes "convert") hook_form shape
  parse ← optional (codes "parse") hook_form shape
  parse_bytes ← optional (codes "parse_bytes") hook_form shape
  invariant ← optional (codes "invariant") hook_form shape
  Some (record { convert = convert; parse = parse; parse_bytes = parse_bytes; invariant = invariant })

-- an object of a name and a definition, and of what else is said of the shape
unfoldable pub shape_form : Data → Option Shape
shape_form d = do
  shape ← shape_object d
  flags ← flags_form shape
  inner ← optional (codes "inner") id_form shape
  builder ← optional (codes "builder") id_form shape
  hooks ← hooks_form shape
  proxy ← optional (codes "proxy") proxy_form shape
  name ← required (codes "name") as_str shape
  format_proxies ← format_proxies_form (get (codes "format_proxies") shape)
  def ← required (codes "def") def_form shape
  preset ← optional (codes "preset") value_form shape
  Some (record {
    name = name;
    def = def;
    preset = preset;
    default_attr = flags.default_attr;
    inner = inner;
    builder = builder;
    convert = hooks.convert;
    parse = hooks.parse;
    parse_bytes = hooks.parse_bytes;
    proxy = proxy;
    format_proxies = format_proxies;
    invariant = hooks.invariant;
    metadata = flags.metadata;
    deny_unknown = flags.deny_unknown;
    transparent = flags.transparent;
    bytes_ok = flags.bytes_ok;
  })

-- the shape that an item of the table's array is
abbrev pub shape_at : ℕ → Data → Result Shape DocFault
shape_at i d = ok_or (shape_form d) (DocFault.BadForm (DocPlace.Shape i))

-- a table: an array of shapes
unfoldable pub shapes_form : Data → Result (List Shape) DocFault
shapes_form (array ds) = each_at shape_at 0 ds
shapes_form _ = Err (DocFault.BadForm DocPlace.Shapes)
