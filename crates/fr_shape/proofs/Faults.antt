-- Tests of lists that are joined from parts.
use Rattle.std.proofs.Common.{◌≡◌, ℕ, Bool, ◌&&◌, List, [], ◌∷◌, ◌++◌, map, option_to_list, refl, ap, ◌∙◌}
use Rattle.std.specs.List.{list_all, flat_map}
use Rattle.std.proofs.lemmas.List.Folds.{list_all-append, list_all-map}
use Rattle.fr_shape.specs.declared.shape.Shape.{Shape}
use Rattle.fr_shape.specs.declared.shape.ShapeId.{ShapeId}
use Rattle.fr_shape.specs.declared.shape.HookId.{HookId}
use Rattle.fr_shape.specs.declared.shape.Field.{Field}
use Rattle.fr_shape.specs.declared.shape.ProxyDef.{ProxyDef}
use Rattle.fr_shape.specs.declared.parts.PartTest.{PartTest}
use Rattle.fr_shape.specs.declared.parts.ProxyTest.{ProxyTest}
use Rattle.fr_shape.specs.declared.parts.FieldTest.{FieldTest}
use Rattle.fr_shape.specs.Look.{Table}
use Rattle.fr_shape.specs.Lists.{is_nil}
use Rattle.fr_shape.specs.Checked.{fields_of, contents_of, pointees_of, proxies_of, all_proxies_of, parts_of, custom_hooks, ids_in_range, hooks_in_range}
use Rattle.fr_shape.specs.Tests.{part_passes, hook_passes, proxy_passes, field_passes}

pub is_nil_append : (xs ys : List ℕ) → is_nil (xs ++ ys) ≡ is_nil xs && is_nil ys
is_nil_append [] ys = refl
is_nil_append (x ∷ xs) ys = refl

pub all_flat_map : {X Y : Type 0} (p : Y → Bool) (f : X → List Y) (xs : List X) → list_all p (flat_map f xs) ≡ list_all (λ x. list_all p (f x)) xs
all_flat_map p f [] = refl
all_flat_map p f (x ∷ xs) = list_all-append p (f x) (flat_map f xs) ∙ ap (λ (b : Bool). list_all p (f x) && b) (all_flat_map p f xs)

-- the tests of an entry's parts, joined as the rules join the parts

pub proxies_split : (table : Table) (test : ProxyTest) (shape : Shape) → list_all (proxy_passes table test) (all_proxies_of shape) ≡ list_all (proxy_passes table test) (proxies_of shape.proxy shape.format_proxies) && list_all (field_passes table (FieldTest.Proxies test)) (fields_of shape.def)
proxies_split table test shape =
    list_all-append (proxy_passes table test) (proxies_of shape.proxy shape.format_proxies)
    (flat_map (λ (field : Field). proxies_of field.proxy field.format_proxies) (fields_of shape.def))
    ∙ ap (λ (b : Bool). list_all (proxy_passes table test) (proxies_of shape.proxy shape.format_proxies) && b)
    (all_flat_map (proxy_passes table test) (λ (field : Field). proxies_of field.proxy field.format_proxies) (fields_of shape.def))

pub parts_split : (table : Table) (test : PartTest) (shape : Shape) → list_all (part_passes table test) (parts_of shape) ≡ list_all (field_passes table (FieldTest.Shape test)) (fields_of shape.def) && list_all (part_passes table test) (contents_of shape.def) && list_all (part_passes table test) (option_to_list shape.inner) && list_all (part_passes table test) (option_to_list shape.builder) && list_all (proxy_passes table (ProxyTest.Source test)) (all_proxies_of shape)
parts_split table test shape =
    let p = λ (id : ShapeId). part_passes table test id in
    let ids = map (λ (field : Field). field.shape) (fields_of shape.def) in
    let sources = map (λ (proxy : ProxyDef). proxy.source) (all_proxies_of shape) in
    let inner = option_to_list shape.inner in
    let builder = option_to_list shape.builder in
    let contents = contents_of shape.def in
    list_all-append p (ids ++ contents ++ inner ++ builder) sources
    ∙ ap (λ (b : Bool). b && list_all p sources) (list_all-append p (ids ++ contents ++ inner) builder
    ∙ ap (λ (b : Bool). b && list_all p builder) (list_all-append p (ids ++ contents) inner
    ∙ ap (λ (b : Bool). b && list_all p inner) (list_all-append p ids contents)))
    ∙ ap (λ (b : Bool). b && list_all p (contents_of shape.def) && list_all p inner && list_all p builder && list_all p sources)
    (list_all-map p (λ (field : Field). field.shape) (fields_of shape.def))
    ∙ ap (λ (b : Bool). list_all (field_passes table (FieldTest.Shape test)) (fields_of shape.def) && list_all p (contents_of shape.def) && list_all p inner && list_all p builder && b)
    (list_all-map p (λ (proxy : ProxyDef). proxy.source) (all_proxies_of shape))

pub ids_split : (table : Table) (shape : Shape) → ids_in_range table shape ≡ list_all (part_passes table PartTest.InRange) (parts_of shape) && list_all (part_passes table PartTest.InRange) (pointees_of shape.def)
ids_split table shape = list_all-append (part_passes table PartTest.InRange) (parts_of shape) (pointees_of shape.def)

pub hooks_split : (table : Table) (shape : Shape) → hooks_in_range shape ≡ list_all hook_passes (option_to_list shape.convert) && list_all hook_passes (option_to_list shape.parse) && list_all hook_passes (option_to_list shape.parse_bytes) && list_all hook_passes (option_to_list shape.invariant) && list_all (proxy_passes table ProxyTest.Hook) (all_proxies_of shape) && list_all (field_passes table FieldTest.CustomHooks) (fields_of shape.def)
hooks_split table shape =
    let p = λ (hook : HookId). hook_passes hook in
    let convert = option_to_list shape.convert in
    let parse = option_to_list shape.parse in
    let parse_bytes = option_to_list shape.parse_bytes in
    let invariant = option_to_list shape.invariant in
    let converts = map (λ (proxy : ProxyDef). proxy.convert) (all_proxies_of shape) in
    let customs = flat_map (λ (field : Field). custom_hooks field.validators) (fields_of shape.def) in
    list_all-append p (convert ++ parse ++ parse_bytes ++ invariant ++ converts) customs
    ∙ ap (λ (b : Bool). b && list_all p customs) (list_all-append p (convert ++ parse ++ parse_bytes ++ invariant) converts
    ∙ ap (λ (b : Bool). b && list_all p converts) (list_all-append p (convert ++ parse ++ parse_bytes) invariant
    ∙ ap (λ (b : Bool). b && list_all p invariant) (list_all-append p (convert ++ parse) parse_bytes
    ∙ ap (λ (b : Bool). b && list_all p parse_bytes) (list_all-append p convert parse))))
    ∙ ap (λ (b : Bool). list_all p convert && list_all p parse && list_all p parse_bytes && list_all p invariant && b && list_all p customs)
    (list_all-map p (λ (proxy : ProxyDef). proxy.convert) (all_proxies_of shape))
    ∙ ap (λ (b : Bool). list_all p convert && list_all p parse && list_all p parse_bytes && list_all p invariant && list_all (proxy_passes table ProxyTest.Hook) (all_proxies_of shape) && b)
    (all_flat_map p (λ (field : Field). custom_hooks field.validators) (fields_of shape.def))
