-- The numbers of shapes and hooks, and the proxies that JSON stands for.
use Rattle.std.specs.Prelude.{List, [], ◌∷◌, Option, Some, None, option_map, codes}
use Rattle.serde_json.specs.Data.{Data}
use Rattle.serde_json.specs.Find.{as_array, as_str}
use Rattle.fr_shape.specs.declared.shape.FormatProxy.{FormatProxy}
use Rattle.fr_shape.specs.declared.shape.HookId.{HookId}
use Rattle.fr_shape.specs.declared.shape.ProxyDef.{ProxyDef}
use Rattle.fr_shape.specs.declared.shape.ShapeId.{ShapeId}
use Rattle.fr_doc.specs.Keys.{object_of, required}
use Rattle.fr_doc.specs.Numerals.{whole_number}
use Rattle.fr_doc.specs.Steps.{◌>>=◌, each}

-- the number of a shape
unfoldable pub id_form : Data → Option ShapeId
id_form d = option_map (λ n. record { 0 = n }) (whole_number d)

-- the number of a hook
unfoldable pub hook_form : Data → Option HookId
hook_form d = option_map (λ n. record { 0 = n }) (whole_number d)

-- an object of a source shape, and the hook that converts its values
unfoldable pub proxy_form : Data → Option ProxyDef
proxy_form d = do
  proxy ← object_of (codes "source" ∷ codes "convert" ∷ []) d
  source ← required (codes "source") id_form proxy
  convert ← required (codes "convert") hook_form proxy
  Some (record { source = source; convert = convert })

-- the same with the name of a format
unfoldable pub format_proxy_form : Data → Option FormatProxy
format_proxy_form d = do
  proxy ← object_of (codes "format" ∷ codes "source" ∷ codes "convert" ∷ []) d
  source ← required (codes "source") id_form proxy
  convert ← required (codes "convert") hook_form proxy
  format ← required (codes "format") as_str proxy
  Some (record { format = format; proxy = record { source = source; convert = convert } })

-- an array of them; none where nothing is given
unfoldable pub format_proxies_form : Option Data → Option (List FormatProxy)
format_proxies_form None = Some []
format_proxies_form (Some d) = do
  items ← as_array d
  each format_proxy_form items
