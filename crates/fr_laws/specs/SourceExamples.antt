-- Worked examples of places that are converted from sources, computed from the definitions.
use Rattle.std.specs.Prelude.{◌≡◌, ◌∷◌, ◌++◌}
use Rattle.fr_model.specs.Common.{ℕ, zero, suc, true, false, List, [], Some, None, Result, Ok, codes, Def, Field, InitCall, Operation, ReflectErrorKind, Shape, TrackerKind, Meanings, no_hooks, Table, plain_field, plain_shape, Val, nat, token, product, some, set_of, first, PathStep}
use Rattle.fr_model.specs.Basis.{Call, initial, as_content, ContentKind, Through, Tree, entered, begun, no_trees, branch, strict, AtCursor, ConversionsSuit, BeginCustomDeserialization, BeginCustomDeserializationFromShape, BeginCustomDeserializationWithFormat, BeginDeferred, BeginInner, BeginNthField, BeginSetItem, End, FinishDeferred, InitList, InitSet, Set}
use Rattle.fr_laws.specs.CollectionExamples.{ReleasesBy}
use Rattle.fr_laws.specs.ContentExamples.{fails, lacks, id, u32, resource, struct_of, one, two, put_in, in_deferred, in_field, refused}
use Rattle.fr_model.specs.Run.{Refusal, full_run}
use Rattle.fr_model.specs.Step.{begins_from_shape}
use Rattle.fr_shape.specs.Hooks.{Meaning, gives, refuses, unsupported}
use Rattle.fr_shape.specs.declared.error.TryFromFault.{TryFromFault}
use Rattle.fr_shape.specs.declared.shape.FormatProxy.{FormatProxy}
use Rattle.fr_shape.specs.declared.shape.ProxyDef.{ProxyDef}

-- The hooks: the first part of a product; a struct of the source alone; a refusal; any number but 0. No other converts.

abbrev pub first_part : Val → Meaning
first_part (product (first v vs)) = gives v
first_part _ = unsupported

abbrev pub if_not_zero : Val → Meaning
if_not_zero (nat zero) = refuses (codes "must not be zero")
if_not_zero (nat (suc n)) = gives (nat (suc n))
if_not_zero _ = unsupported

abbrev pub converted_by : (hook : ℕ) → (source : Val) → Meaning
converted_by zero source = first_part source
converted_by (suc zero) source = gives (product (one source))
converted_by (suc (suc zero)) source = refuses (codes "refused")
converted_by (suc (suc (suc zero))) source = if_not_zero source
converted_by _ source = unsupported

abbrev pub hooks : Meanings
hooks = record no_hooks { convert = λ table hook target source. converted_by hook source }

abbrev pub proxy : (source hook : ℕ) → ProxyDef
proxy source hook = record { source = id source; convert = record { 0 = hook } }

abbrev pub proxied : Shape → ProxyDef → Shape
proxied shape by = record shape { proxy = Some by }

abbrev pub wrapping : Shape → (inner hook : ℕ) → Shape
wrapping shape inner hook = record shape { inner = Some (id inner); convert = Some (record { 0 = hook }) }

abbrev pub json : (source hook : ℕ) → FormatProxy
json source hook = record { format = codes "json"; proxy = proxy source hook }

-- a number from numbers for every format, and from those but 0 for one
abbrev pub field_by_format : Field
field_by_format =
    record (plain_field (codes "f") 4) {
      proxy = Some (proxy 4 9);
      format_proxies = json 4 3 ∷ [];
    }

-- opaque shapes from structs of two, numbers other than 0, and places that hold them
abbrev pub sources : Table
sources =
    resource ∷ plain_shape (codes "Src") (struct_of (plain_field (codes "a") 0 ∷ plain_field (codes "b") 0 ∷ []))
    ∷ proxied (plain_shape (codes "P") Def.Opaque) (proxy 1 0)
    ∷ proxied (plain_shape (codes "Q") Def.Opaque) (proxy 1 2)
    ∷ u32 ∷ wrapping u32 4 3 ∷ wrapping u32 4 9
    ∷ plain_shape (codes "Both") (struct_of (plain_field (codes "n") 4 ∷ plain_field (codes "z") 5 ∷ []))
    ∷ plain_shape (codes "Deep") (struct_of (plain_field (codes "b") 7 ∷ plain_field (codes "z") 5 ∷ []))
    ∷ plain_shape (codes "ByFormat") (struct_of (field_by_format ∷ plain_field (codes "n") 4 ∷ []))
    ∷ proxied (plain_shape (codes "Cell") (struct_of (plain_field (codes "r") 0 ∷ []))) (proxy 0 1)
    ∷ plain_shape (codes "Cells") (Def.Set (id 10))
    ∷ plain_shape (codes "Front") (struct_of (plain_field (codes "z") 5 ∷ plain_field (codes "b") 7 ∷ []))
    ∷ record (plain_shape (codes "Thin") (struct_of (plain_field (codes "n") 4 ∷ []))) { inner = Some (id 4) }
    ∷ proxied (wrapping (plain_shape (codes "OptZ") (Def.Option (id 5))) 5 3) (proxy 4 3)
    ∷ plain_shape (codes "Own") (struct_of (record (plain_field (codes "p") 2) { format_proxies = json 4 9 ∷ [] } ∷ [])) ∷ []

abbrev pub Makes : (root : ℕ) → List Call → Result Val Refusal → Type 0
Makes root script outcome = full_run hooks sources root script ≡ outcome

abbrev pub Drops : (root : ℕ) → List Call → (times : List ℕ) → Type 0
Drops root script times = ReleasesBy hooks sources root script times

-- from a source of two tokens
abbrev pub from_two : List Call
from_two = BeginCustomDeserializationFromShape ∷ Set 1 (product (two (token 0) (token 1))) ∷ End ∷ []

-- from a number, as a wrapper
abbrev pub from_number : ℕ → List Call
from_number n = BeginInner ∷ Set 4 (nat n) ∷ End ∷ []

-- a source, of a struct of two, is entered for one of its fields
abbrev pub source_field : (field t : ℕ) → List Call
source_field field t = BeginCustomDeserializationFromShape ∷ put_in field 0 (token t) ++ End ∷ []

abbrev pub zero_refused : (target : ℕ) → ReflectErrorKind
zero_refused target = ReflectErrorKind.TryFromError (id 4) (id target) (TryFromFault.Generic (codes "must not be zero"))

abbrev pub two_refused : ReflectErrorKind
two_refused = ReflectErrorKind.CustomDeserializationError (codes "refused") (id 1) (id 3)

-- begun as a conversion by this hook from a struct of two, which is just entered
abbrev pub half_converted : (hook : ℕ) → Tree
half_converted hook =
    begun (as_content (ContentKind.Source (record { through = Through.Proxy; hook = hook; source = 1 }))) (branch entered no_trees)

pub record SourceExamples : Type 0 where
  -- one token is taken, the other dropped; a refusal drops both
  pub through_proxy : Makes 2 from_two (Ok (token 0))
  pub through_proxy_drops : Drops 2 from_two (0 ∷ 1 ∷ [])
  pub proxy_refused : Makes 3 from_two (refused 2 two_refused (PathStep.Proxy ∷ []))
  pub proxy_refused_drops : Drops 3 from_two (1 ∷ 1 ∷ [])
  pub proxy_refused_deferred : Makes 3 (in_deferred from_two) (refused 4 two_refused [])
  -- in deferred mode a source is entered again as it is
  pub entered_again : Makes 2 (in_deferred (source_field 0 0 ++ source_field 1 1)) (Ok (token 0))
  pub entered_again_drops : Drops 2 (in_deferred (source_field 0 0 ++ source_field 1 1)) (0 ∷ 1 ∷ [])
  -- where deferred mode ends at the source, that is converted as it ends
  pub ends_at_source :
      Makes 2 (BeginDeferred ∷ BeginCustomDeserializationFromShape ∷ Set 1 (product (two (token 0) (token 1))) ∷ FinishDeferred ∷ End ∷ [])
      (Ok (token 0))
  -- wrappers
  pub through_wrapper : Makes 5 (from_number 5) (Ok (nat 5))
  pub wrapper_refused : Makes 5 (from_number 0) (refused 2 (zero_refused 5) (PathStep.Inner ∷ []))
  pub wrapper_unsupported :
      Makes 6 (from_number 5)
      (refused 2 (ReflectErrorKind.TryFromError (id 4) (id 6) TryFromFault.UnsupportedSourceType) (PathStep.Inner ∷ []))
  -- a wrapper that isn't converted is entered anew at its field, an option at its content, and a wrapper in another twice
  pub thin : Makes 13 (BeginInner ∷ Set 4 (nat 7) ∷ End ∷ []) (Ok (product (one (nat 7))))
  pub option_of_wrapper : Makes 14 (BeginInner ∷ from_number 5 ++ End ∷ []) (Ok (some (nat 5)))
  pub no_wrapper : Makes 4 (BeginInner ∷ []) (fails 0 4 Operation.NoInner)
  -- proxies of a field, by format
  pub by_format : Makes 9 (BeginNthField 0 ∷ BeginCustomDeserializationWithFormat (Some (codes "json")) ∷ Set 4 (nat 5) ∷ End ∷ End
      ∷ put_in 1 4 (nat 1)) (Ok (product (two (nat 5) (nat 1))))
  pub without_format : Makes 9 (BeginNthField 0 ∷ BeginCustomDeserialization ∷ Set 4 (nat 5) ∷ End ∷ [])
      (refused 3 (ReflectErrorKind.CustomDeserializationError [] (id 4) (id 4)) (PathStep.Field 0 ∷ PathStep.Proxy ∷ []))
  pub no_such_format : Makes 15 (BeginNthField 0 ∷ BeginCustomDeserialization ∷ [])
      (refused 1 (ReflectErrorKind.OperationFailed (id 2) Operation.NoProxyForFormat) (PathStep.Field 0 ∷ []))
  pub no_field : Makes 2 (BeginCustomDeserialization ∷ []) (fails 0 2 Operation.NotInField)
  pub without_proxy : Makes 9 (BeginNthField 1 ∷ BeginCustomDeserialization ∷ [])
      (refused 1 (ReflectErrorKind.OperationFailed (id 4) Operation.FieldWithoutProxy) (PathStep.Field 1 ∷ []))
  -- whether the shape has a proxy
  pub begins : begins_from_shape sources 2 (initial sources 2) None ≡ true
  pub begins_not : begins_from_shape sources 5 (initial sources 5) None ≡ false
  -- a field's proxy, for whatever format, goes before its shape's
  pub field_goes_before : Makes 15 (BeginNthField 0 ∷ BeginCustomDeserializationFromShape ∷ Set 2 (token 0) ∷ End ∷ [])
      (Ok (product (one (token 0))))
  pub not_begun : Makes 5 (BeginCustomDeserializationFromShape ∷ from_number 5) (Ok (nat 5))
  -- a refused conversion fails at its source, a step deeper than a field in front of it; of two as deep the first is told
  pub source_is_deeper : Makes 7 (in_deferred (in_field 0 [] ++ in_field 1 (from_number 0))) (refused 8 (zero_refused 5) [])
  pub one_in_front : Makes 8 (in_deferred (in_field 0 (in_field 0 []) ++ in_field 1 (from_number 0))) (lacks 10 4 [])
  pub one_behind : Makes 12 (in_deferred (in_field 1 (in_field 0 []) ++ in_field 0 (from_number 0))) (refused 10 (zero_refused 5) [])
  -- a conversion starts anew as a field is entered, and isn't begun as a list
  pub starts_anew : Makes 10 (in_deferred (BeginCustomDeserializationFromShape ∷ Set 0 (token 0) ∷ End ∷ put_in 0 0 (token 1)))
      (Ok (product (one (token 1))))
  pub starts_anew_drops :
      Drops 10 (in_deferred (BeginCustomDeserializationFromShape ∷ Set 0 (token 0) ∷ End ∷ put_in 0 0 (token 1))) (1 ∷ 0 ∷ [])
  pub no_list : Makes 10 (BeginDeferred ∷ BeginCustomDeserializationFromShape ∷ End ∷ InitList ∷ [])
      (refused 3 (ReflectErrorKind.UnexpectedTracker InitCall.List TrackerKind.Inner) [])
  -- an item of a set is converted as it ends
  pub item : Makes 11 (in_deferred (InitSet ∷ BeginSetItem ∷ BeginCustomDeserializationFromShape ∷ Set 0 (token 0) ∷ End ∷ End ∷ []))
      (Ok (set_of (one (product (one (token 0))))))
  -- a conversion has the hook and the source of its place, and in strict mode the builder works at none
  pub suits : ConversionsSuit sources 2 None (half_converted 0)
  pub suits_not : ConversionsSuit sources 2 None (half_converted 2) → ⊥
  pub deferred_alone : AtCursor strict (half_converted 0) → ⊥
