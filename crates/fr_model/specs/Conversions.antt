-- Conversions: through what a place may be converted, what its hook makes of the source's value, and how it is refused.
use Rattle.std.specs.Prelude.{◌-◌, ◌∷◌, ◌++◌, if◌then◌else◌}
use Rattle.fr_model.specs.Common.{ℕ, Bool, false, not, List, [], map, slice_get, Option, Some, None, option_or, Result, Ok, Err, bytes_eq, Field, Shape, ShapeId, ReflectErrorKind, Operation, Meanings, is_nil, Table, Val, occurs}
use Rattle.fr_path.specs.StepShapes.{source_of}
use Rattle.fr_shape.specs.Checked.{proxies_of}
use Rattle.fr_shape.specs.Hooks.{Meaning, gives, refuses, unsupported}
use Rattle.fr_shape.specs.declared.error.TryFromFault.{TryFromFault}
use Rattle.fr_shape.specs.declared.shape.FormatProxy.{FormatProxy}
use Rattle.fr_shape.specs.declared.shape.HookId.{HookId}
use Rattle.fr_shape.specs.declared.shape.ProxyDef.{ProxyDef}
use Rattle.fr_model.specs.Trackers.{Tracker, as_fields, as_elements, as_content, ContentKind, Conversion, Through, as_items, as_entries}

-- Wrappers

-- what a wrapper wraps or is built from
abbrev pub source_in : Option Shape → Option ShapeId
source_in (Some shape) = option_or shape.builder shape.inner
source_in None = None

-- the hook that converts from it
abbrev pub convert_in : Option Shape → Option HookId
convert_in (Some shape) = shape.convert
convert_in None = None

abbrev pub by_wrapper : HookId → (source : ShapeId) → Conversion
by_wrapper hook source = record { through = Through.Wrapper; hook = hook.0; source = source.0 }

-- Proxies

abbrev pub by_proxy : ProxyDef → Conversion
by_proxy proxy = record { through = Through.Proxy; hook = proxy.convert.0; source = proxy.source.0 }

-- there is a proxy, for whatever format
abbrev pub has_proxies : Option ProxyDef → List FormatProxy → Bool
has_proxies proxy format_proxies = not (is_nil (proxies_of proxy format_proxies))

-- the first proxy that is for this format alone
abbrev pub proxy_named : (format : List ℕ) → List FormatProxy → Option ProxyDef
proxy_named format [] = None
proxy_named format (formatted ∷ others) =
    if bytes_eq formatted.format format then Some formatted.proxy else proxy_named format others

-- the proxy for a format, or for none: one for that format alone goes before the one for all
abbrev pub proxy_for : (format : Option (List ℕ)) → Option ProxyDef → List FormatProxy → Option ProxyDef
proxy_for None proxy format_proxies = proxy
proxy_for (Some format) proxy format_proxies = option_or (proxy_named format format_proxies) proxy

abbrev pub proxy_or : Option ProxyDef → Operation → Result ProxyDef Operation
proxy_or (Some proxy) operation = Ok proxy
proxy_or None operation = Err operation

-- The proxy of the field that a place is. Of several refusals the first in this order is given: the place is no field; the field has no
-- proxy; it has none for the format.
abbrev pub proxy_of_field : (format : Option (List ℕ)) → Option Field → Result ProxyDef Operation
proxy_of_field format (Some field) =
    if has_proxies field.proxy field.format_proxies
    then proxy_or (proxy_for format field.proxy field.format_proxies) Operation.NoProxyForFormat
    else Err Operation.FieldWithoutProxy
proxy_of_field format None = Err Operation.NotInField

abbrev pub field_has_proxies : Option Field → Bool
field_has_proxies (Some field) = has_proxies field.proxy field.format_proxies
field_has_proxies None = false

-- the proxy that a shape has for a format
abbrev pub proxy_of_shape : (format : Option (List ℕ)) → Option Shape → Option ProxyDef
proxy_of_shape format (Some shape) = proxy_for format shape.proxy shape.format_proxies
proxy_of_shape format None = None

-- the same, where the place is no field that has proxies of its own: those go before its shape's
abbrev pub proxy_at : Table → ℕ → (field : Option Field) → (format : Option (List ℕ)) → Option ProxyDef
proxy_at table s field format = if field_has_proxies field then None else proxy_of_shape format (slice_get table s)

-- Which conversions there are

abbrev pub wrapper_with : Option HookId → (source : Option ShapeId) → List Conversion
wrapper_with (Some hook) (Some source) = by_wrapper hook source ∷ []
wrapper_with (Some hook) None = []
wrapper_with None source = []

abbrev pub through_proxies : Option ProxyDef → List FormatProxy → List Conversion
through_proxies proxy format_proxies = map by_proxy (proxies_of proxy format_proxies)

-- to a shape: as a wrapper, but to an option, which is begun as one; and through its proxies
abbrev pub conversions_to : Option Shape → List Conversion
conversions_to (Some shape) =
    wrapper_with shape.convert (source_of shape) ++ through_proxies shape.proxy shape.format_proxies
conversions_to None = []

-- to a field, through its own proxies
abbrev pub conversions_to_field : Option Field → List Conversion
conversions_to_field (Some field) = through_proxies field.proxy field.format_proxies
conversions_to_field None = []

-- to a place of shape s, which is this field, if it is one
abbrev pub conversions_at : Table → ℕ → Option Field → List Conversion
conversions_at table s field = conversions_to (slice_get table s) ++ conversions_to_field field

-- What the hook makes of the source's value

-- the value that is given, if one is
abbrev pub value_given : Meaning → Option Val
value_given (gives v) = Some v
value_given (refuses message) = None
value_given unsupported = None

-- why none is, at a place of the shape `target`: where the hook doesn't do this a proxy says so with an empty message
abbrev pub refusal_through : Through → (source target : ℕ) → Meaning → Option ReflectErrorKind
refusal_through through source target (gives v) = None
refusal_through Through.Proxy source target (refuses message) =
    Some (ReflectErrorKind.CustomDeserializationError message (record { 0 = source }) (record { 0 = target }))
refusal_through Through.Proxy source target unsupported =
    Some (ReflectErrorKind.CustomDeserializationError [] (record { 0 = source }) (record { 0 = target }))
refusal_through Through.Wrapper source target (refuses message) =
    Some (ReflectErrorKind.TryFromError (record { 0 = source }) (record { 0 = target }) (TryFromFault.Generic message))
refusal_through Through.Wrapper source target unsupported =
    Some (ReflectErrorKind.TryFromError (record { 0 = source }) (record { 0 = target }) TryFromFault.UnsupportedSourceType)

-- the same of the source's value, if it has one
abbrev pub failing_source : Meanings → Table → ℕ → Conversion → Option Val → Option ReflectErrorKind
failing_source hooks table s conversion (Some v) =
    refusal_through conversion.through conversion.source s (hooks.convert table conversion.hook s v)
failing_source hooks table s conversion None = None

-- What a place of shape s that is begun so takes of its child's value: of its source's what that is converted to, of any other the value
-- itself.
abbrev pub taken : Meanings → Table → ℕ → Tracker → Option Val → Option Val
taken hooks table s (as_content (ContentKind.Source conversion)) (Some v) = value_given (hooks.convert table conversion.hook s v)
taken hooks table s (as_content (ContentKind.Source conversion)) None = None
taken hooks table s (as_content ContentKind.Some) value = value
taken hooks table s (as_content ContentKind.Ok) value = value
taken hooks table s (as_content ContentKind.Err) value = value
taken hooks table s (as_content ContentKind.Pointer) value = value
taken hooks table s (as_fields selected) value = value
taken hooks table s as_elements value = value
taken hooks table s (as_items kind) value = value
taken hooks table s (as_entries kind) value = value

-- how often a token stands in a value, but not in what is taken of it (where nothing is taken, the command is refused, and drops all)
abbrev pub not_taken : (value kept : Option Val) → ℕ → ℕ
not_taken (Some v) (Some w) t = occurs v t - occurs w t
not_taken (Some v) None t = 0
not_taken None kept t = 0
