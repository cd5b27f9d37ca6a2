-- Tests of the shapes, proxies and fields that an entry names, as the rules of a checked table put them together.
use Rattle.std.specs.Prelude.{Bool, length, nat_lt}
use Rattle.std.specs.List.{list_all}
use Rattle.fr_shape.specs.declared.shape.ShapeId.{ShapeId}
use Rattle.fr_shape.specs.declared.shape.HookId.{HookId}
use Rattle.fr_shape.specs.declared.shape.ProxyDef.{ProxyDef}
use Rattle.fr_shape.specs.declared.shape.Field.{Field}
use Rattle.fr_shape.specs.declared.parts.PartTest.{PartTest}
use Rattle.fr_shape.specs.declared.parts.ProxyTest.{ProxyTest}
use Rattle.fr_shape.specs.declared.parts.FieldTest.{FieldTest}
use Rattle.fr_shape.specs.Look.{Table, def_of}
use Rattle.fr_shape.specs.Checked.{is_sized, proxies_of, suits, default_is_template, custom_hooks}

abbrev pub part_passes : Table → PartTest → ShapeId → Bool
part_passes table PartTest.InRange id = nat_lt id.0 (length table)
part_passes table PartTest.Sized id = is_sized (def_of table id.0)

abbrev pub hook_passes : HookId → Bool
hook_passes hook = nat_lt hook.0 65536

abbrev pub proxy_passes : Table → ProxyTest → ProxyDef → Bool
proxy_passes table (ProxyTest.Source test) proxy = part_passes table test proxy.source
proxy_passes table ProxyTest.Hook proxy = hook_passes proxy.convert

abbrev pub field_passes : Table → FieldTest → Field → Bool
field_passes table (FieldTest.Shape test) field = part_passes table test field.shape
field_passes table (FieldTest.Proxies test) field =
    list_all (proxy_passes table test) (proxies_of field.proxy field.format_proxies)
field_passes table FieldTest.Validators field = list_all (suits (def_of table field.shape.0)) field.validators
field_passes table FieldTest.Default field = default_is_template table field.shape.0 field.default
field_passes table FieldTest.CustomHooks field = list_all hook_passes (custom_hooks field.validators)
