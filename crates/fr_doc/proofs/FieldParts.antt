-- The members of a field's object, found one after another.
use Rattle.std.proofs.Common.{◌≡◌, ℕ, List, Bor, Ordering, Less, Equal, Greater, nat_cmp, Bool, true, false, Option, Some, None, codes, option_map, refl, ap, ◌∙◌, if◌then◌else◌}
use Rattle.std.specs.Prelude.{◌&&◌}
use Rattle.std.specs.Ordering.{match_ordering}
use Rattle.std.specs.Option.{option_or}
use Rattle.std.specs.Cmp.Lexicographic.{slice_cmp}
use Rattle.serde_json.specs.Data.{Data, null, boolean, number, string, array, Members, no_members, member, object}
use Rattle.serde_json.specs.Find.{get_member, as_str, as_object}
use Rattle.serde_json.specs.View.{view as data_of}
use Rattle.serde_json.specs.declared.value.Value.{Value}
use Rattle.fr_shape.specs.declared.shape.Field.{Field}
use Rattle.fr_doc.specs.FieldForms.{default_form, field_keys, field_object, field_form}
use Rattle.fr_doc.specs.FieldMembers.{FieldParts, parts_of, parts_or, parts_and, field_parts}
use Rattle.fr_doc.specs.Keys.{is_among, has_no_other, object_of, given, flag_form}
use Rattle.fr_doc.specs.ProxyForms.{id_form, proxy_form, format_proxies_form}
use Rattle.fr_doc.specs.Steps.{◌>>=◌}
use Rattle.fr_doc.specs.ValidatorForms.{validators_form}

pub or_none : {A : Type 0} (o : Option A) → option_or o None ≡ o
or_none None = refl
or_none (Some a) = refl

-- what is seen of a part
abbrev pub seen : Option (Bor Value) → Option Data
seen part = option_map (λ json. data_of json.now) part

pub seen_or : (part : Option (Bor Value)) (json : Bor Value) → seen (option_or part (Some json)) ≡ option_or (seen part) (Some (data_of json.now))
seen_or None json = refl
seen_or (Some other) json = refl

abbrev pub no_parts : FieldParts
no_parts = parts_of (object no_members)

-- the parts found so far, with what stands in the members that are left
abbrev pub with_left : FieldParts → Members → Option FieldParts
with_left found ms = if has_no_other ms field_keys then Some (parts_or found (parts_of (object ms))) else None

at_start : (b : Bool) (ms : Members) → (if b then Some (parts_of (object ms)) else None) ≡ option_map parts_of (if b then Some (object ms) else None)
at_start true ms = refl
at_start false ms = refl

is_object : (d : Data) (ms : Members) → as_object d ≡ Some ms → d ≡ object ms
is_object null ms is = absurd cc
is_object (boolean b) ms is = absurd cc
is_object (number n) ms is = absurd cc
is_object (string s) ms is = absurd cc
is_object (array ds) ms is = absurd cc
is_object (object others) ms is = ap object cc

object_start : (ms : Members) → with_left no_parts ms ≡ field_parts (object ms)
unfolding field_parts field_object object_of
object_start ms = at_start (has_no_other ms field_keys) ms

pub parts_start : (d : Data) (ms : Members) → as_object d ≡ Some ms → with_left no_parts ms ≡ field_parts d
parts_start d ms is = rw (is_object d ms is) (object_start ms)

pub not_object : (d : Data) → as_object d ≡ None → field_parts d ≡ None
unfolding field_parts field_object object_of
not_object d none = rw none refl

first_found : (order : Ordering) (d : Data) (later : Option Data) → match_ordering order later (Some d) later ≡ option_or (match_ordering order None (Some d) None) later
first_found Less d later = refl
first_found Equal d later = refl
first_found Greater d later = refl

one_more : (found : Option Data) (k key : List ℕ) (d : Data) (ms : Members)
    → option_or found (get_member k (member key d ms)) ≡ option_or (option_or found (get_member k (member key d no_members))) (get_member k ms)
one_more (Some part) k key d ms = refl
one_more None k key d ms = first_found (slice_cmp nat_cmp k key) d (get_member k ms)

parts_more : (found : FieldParts) (key : List ℕ) (d : Data) (ms : Members)
    → parts_or found (parts_of (object (member key d ms))) ≡ parts_or (parts_or found (parts_of (object (member key d no_members)))) (parts_of (object ms))
parts_more found key d ms = rw (
  one_more found.name (codes "name") key d ms,
  one_more found.shape (codes "shape") key d ms,
  one_more found.rename (codes "rename") key d ms,
  one_more found.alias (codes "alias") key d ms,
  one_more found.default (codes "default") key d ms,
  one_more found.skip (codes "skip") key d ms,
  one_more found.flatten (codes "flatten") key d ms,
  one_more found.proxy (codes "proxy") key d ms,
  one_more found.format_proxies (codes "format_proxies") key d ms,
  one_more found.validators (codes "validators") key d ms,
) refl

next_at : (among others : Bool) (one next whole more : FieldParts) → (if among then Some one else None) ≡ Some next → (one ≡ next → whole ≡ more)
    → (if among && others then Some whole else None) ≡ (if others then Some more else None)
next_at true true one next whole more is same = ap Some (same cc)
next_at true false one next whole more is same = refl
next_at false others one next whole more is same = absurd cc

broken_at : (among others : Bool) (one whole : FieldParts) → (if among then Some one else None) ≡ None → (if among && others then Some whole else None) ≡ None
broken_at true others one whole is = absurd cc
broken_at false others one whole is = refl

pub parts_next : (found next : FieldParts) (key : List ℕ) (d : Data) (ms : Members) → parts_and found key d ≡ Some next → with_left found (member key d ms) ≡ with_left next ms
unfolding parts_and
parts_next found next key d ms is =
    next_at (is_among key field_keys) (has_no_other ms field_keys) _ next _ _ is
    (λ same. parts_more found key d ms ∙ ap (λ one. parts_or one (parts_of (object ms))) same)

pub parts_broken : (found : FieldParts) (key : List ℕ) (d : Data) (ms : Members) → parts_and found key d ≡ None → with_left found (member key d ms) ≡ None
unfolding parts_and
parts_broken found key d ms is = broken_at (is_among key field_keys) (has_no_other ms field_keys) _ _ is

pub parts_end : (found : FieldParts) → with_left found no_members ≡ Some found
parts_end found = rw (
  or_none found.name,
  or_none found.shape,
  or_none found.rename,
  or_none found.alias,
  or_none found.default,
  or_none found.skip,
  or_none found.flatten,
  or_none found.proxy,
  or_none found.format_proxies,
  or_none found.validators,
) refl

-- the field that these parts make
abbrev pub field_of : FieldParts → Option Field
field_of parts = do
  shape ← parts.shape >>= id_form
  skip ← flag_form false parts.skip
  flatten ← flag_form false parts.flatten
  proxy ← given proxy_form parts.proxy
  name ← parts.name >>= as_str
  rename ← given as_str parts.rename
  alias ← given as_str parts.alias
  format_proxies ← format_proxies_form parts.format_proxies
  validators ← validators_form parts.validators
  default ← given default_form parts.default
  Some (record {
    name = name;
    rename = rename;
    alias = alias;
    shape = shape;
    default = default;
    skip = skip;
    flatten = flatten;
    proxy = proxy;
    format_proxies = format_proxies;
    validators = validators;
  })

through : {A B C : Type 0} (found : Option A) (f : A → B) (next : B → Option C) → (found >>= λ a. next (f a)) ≡ (option_map f found >>= next)
through None f next = refl
through (Some a) f next = refl

pub field_from_parts : (d : Data) → field_form d ≡ (field_parts d >>= field_of)
unfolding field_form field_parts
field_from_parts d = through (field_object d) parts_of field_of
