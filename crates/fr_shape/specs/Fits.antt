-- Which values fit which shape. A value fits by the definition that its shape settles to; the clauses below go
-- by the value's form, and each `takes_` word says which definitions take that form.
use Rattle.std.specs.Prelude.{ℕ, zero, suc, ◌^◌, ◌-◌, ℤ, pos, negsuc, Bool, true, false, not, ◌&&◌, List, [], ◌∷◌, nat_eq, nat_lt, Option, Some, None, is_none, slice_get}
use Rattle.std.specs.Str.{bytes_eq}
use Rattle.fr_shape.specs.declared.shape.ShapeId.{ShapeId}
use Rattle.fr_shape.specs.declared.shape.Def.{Def}
use Rattle.fr_shape.specs.declared.shape.ScalarKind.{ScalarKind}
use Rattle.fr_shape.specs.declared.shape.Field.{Field}
use Rattle.fr_shape.specs.declared.shape.VariantDef.{VariantDef}
use Rattle.fr_shape.specs.Look.{Table, settled}
use Rattle.fr_shape.specs.Same.{none_twice, keys}
use Rattle.fr_shape.specs.Val.{Val, Vals, Entries, unit, bool, char, int, nat, text, token, product, variant, none, some, ok, err, list_of, map_of, set_of, ptr, dyn, no_vals, first, no_entries, entry}
use Rattle.fr_shape.specs.Val.{Dynamic, Dynamics, Members, dyn_null, dyn_bool, dyn_int, dyn_nat, dyn_text, dyn_bytes, dyn_array, dyn_object, no_dynamics, first_dynamic, no_members, member}

-- how many bits a signed kind has
abbrev pub signed_bits : ScalarKind → Option ℕ
signed_bits ScalarKind.I8 = Some 8
signed_bits ScalarKind.I16 = Some 16
signed_bits ScalarKind.I32 = Some 32
signed_bits ScalarKind.I64 = Some 64
signed_bits ScalarKind.I128 = Some 128
signed_bits ScalarKind.ISize = Some 64
signed_bits ScalarKind.Bool = None
signed_bits ScalarKind.Char = None
signed_bits ScalarKind.U8 = None
signed_bits ScalarKind.U16 = None
signed_bits ScalarKind.U32 = None
signed_bits ScalarKind.U64 = None
signed_bits ScalarKind.U128 = None
signed_bits ScalarKind.USize = None
signed_bits ScalarKind.String = None
signed_bits ScalarKind.CowStr = None

-- how many bits an unsigned kind has
abbrev pub unsigned_bits : ScalarKind → Option ℕ
unsigned_bits ScalarKind.U8 = Some 8
unsigned_bits ScalarKind.U16 = Some 16
unsigned_bits ScalarKind.U32 = Some 32
unsigned_bits ScalarKind.U64 = Some 64
unsigned_bits ScalarKind.U128 = Some 128
unsigned_bits ScalarKind.USize = Some 64
unsigned_bits ScalarKind.Bool = None
unsigned_bits ScalarKind.Char = None
unsigned_bits ScalarKind.I8 = None
unsigned_bits ScalarKind.I16 = None
unsigned_bits ScalarKind.I32 = None
unsigned_bits ScalarKind.I64 = None
unsigned_bits ScalarKind.I128 = None
unsigned_bits ScalarKind.ISize = None
unsigned_bits ScalarKind.String = None
unsigned_bits ScalarKind.CowStr = None

-- in the range of this many bits with a sign: from minus half of 2 to the bits, to one below that half
abbrev pub in_signed : ℤ → Option ℕ → Bool
in_signed (pos n) (Some bits) = nat_lt n (2 ^ (bits - 1))
in_signed (negsuc n) (Some bits) = nat_lt n (2 ^ (bits - 1))
in_signed z None = false

-- in the range of this many bits
abbrev pub in_unsigned : ℕ → Option ℕ → Bool
in_unsigned n (Some bits) = nat_lt n (2 ^ bits)
in_unsigned n None = false

-- the kinds whose values are texts
abbrev pub is_text_kind : ScalarKind → Bool
is_text_kind ScalarKind.String = true
is_text_kind ScalarKind.CowStr = true
is_text_kind ScalarKind.Bool = false
is_text_kind ScalarKind.Char = false
is_text_kind ScalarKind.I8 = false
is_text_kind ScalarKind.I16 = false
is_text_kind ScalarKind.I32 = false
is_text_kind ScalarKind.I64 = false
is_text_kind ScalarKind.I128 = false
is_text_kind ScalarKind.ISize = false
is_text_kind ScalarKind.U8 = false
is_text_kind ScalarKind.U16 = false
is_text_kind ScalarKind.U32 = false
is_text_kind ScalarKind.U64 = false
is_text_kind ScalarKind.U128 = false
is_text_kind ScalarKind.USize = false

-- Each word says of a definition whether it takes a form of value. Where several take one, all are written out.

abbrev pub takes_bool : Def → Bool
takes_bool (Def.Scalar ScalarKind.Bool) = true
takes_bool _ = false

abbrev pub takes_char : Def → Bool
takes_char (Def.Scalar ScalarKind.Char) = true
takes_char _ = false

abbrev pub takes_int : ℤ → Def → Bool
takes_int z (Def.Scalar kind) = in_signed z (signed_bits kind)
takes_int z _ = false

abbrev pub takes_nat : ℕ → Def → Bool
takes_nat n (Def.Scalar kind) = in_unsigned n (unsigned_bits kind)
takes_nat n _ = false

-- texts: the scalars String and CowStr, and the unsized str
abbrev pub takes_text : Def → Bool
takes_text (Def.Scalar kind) = is_text_kind kind
takes_text Def.Str = true
takes_text Def.Opaque = false
takes_text (Def.Struct struct) = false
takes_text (Def.Enum enumeration) = false
takes_text (Def.Option t) = false
takes_text (Def.Result t e) = false
takes_text (Def.List t) = false
takes_text (Def.Map k v) = false
takes_text (Def.Set t) = false
takes_text (Def.Array t n) = false
takes_text (Def.Pointer pointer) = false
takes_text (Def.Slice t) = false
takes_text Def.Dynamic = false
takes_text Def.Undefined = false
takes_text Def.Other = false

-- one token: opaque and undefined shapes, and a pointer without a known pointee
abbrev pub takes_token : Def → Bool
takes_token Def.Opaque = true
takes_token Def.Undefined = true
takes_token (Def.Pointer pointer) = is_none pointer.pointee
takes_token (Def.Scalar kind) = false
takes_token Def.Str = false
takes_token (Def.Struct struct) = false
takes_token (Def.Enum enumeration) = false
takes_token (Def.Option t) = false
takes_token (Def.Result t e) = false
takes_token (Def.List t) = false
takes_token (Def.Map k v) = false
takes_token (Def.Set t) = false
takes_token (Def.Array t n) = false
takes_token (Def.Slice t) = false
takes_token Def.Dynamic = false
takes_token Def.Other = false

-- one fitting child a field of a struct, or n fitting children of an array of n
abbrev pub takes_product : Def → (one_a_field : List Field → Bool) → (each_fits : ℕ → Bool) → (count : ℕ) → Bool
takes_product (Def.Struct struct) one_a_field each_fits count = one_a_field struct.fields
takes_product (Def.Array t n) one_a_field each_fits count = nat_eq count n && each_fits t.0
takes_product (Def.Scalar kind) one_a_field each_fits count = false
takes_product Def.Str one_a_field each_fits count = false
takes_product Def.Opaque one_a_field each_fits count = false
takes_product (Def.Enum enumeration) one_a_field each_fits count = false
takes_product (Def.Option t) one_a_field each_fits count = false
takes_product (Def.Result t e) one_a_field each_fits count = false
takes_product (Def.List t) one_a_field each_fits count = false
takes_product (Def.Map k v) one_a_field each_fits count = false
takes_product (Def.Set t) one_a_field each_fits count = false
takes_product (Def.Pointer pointer) one_a_field each_fits count = false
takes_product (Def.Slice t) one_a_field each_fits count = false
takes_product Def.Dynamic one_a_field each_fits count = false
takes_product Def.Undefined one_a_field each_fits count = false
takes_product Def.Other one_a_field each_fits count = false

abbrev pub fields_of_variant : Option VariantDef → (List Field → Bool) → Bool
fields_of_variant (Some chosen) one_a_field = one_a_field chosen.fields
fields_of_variant None one_a_field = false

-- a variant of an enum, with one fitting child a field
abbrev pub takes_variant : Def → ℕ → (one_a_field : List Field → Bool) → Bool
takes_variant (Def.Enum enumeration) i one_a_field = fields_of_variant (slice_get enumeration.variants i) one_a_field
takes_variant _ i one_a_field = false

abbrev pub takes_none : Def → Bool
takes_none (Def.Option t) = true
takes_none _ = false

abbrev pub takes_some : Def → (content_fits : ℕ → Bool) → Bool
takes_some (Def.Option t) content_fits = content_fits t.0
takes_some _ content_fits = false

abbrev pub takes_ok : Def → (content_fits : ℕ → Bool) → Bool
takes_ok (Def.Result t e) content_fits = content_fits t.0
takes_ok _ content_fits = false

abbrev pub takes_err : Def → (content_fits : ℕ → Bool) → Bool
takes_err (Def.Result t e) content_fits = content_fits e.0
takes_err _ content_fits = false

abbrev pub takes_list : Def → (each_fits : ℕ → Bool) → Bool
takes_list (Def.List t) each_fits = each_fits t.0
takes_list (Def.Slice t) each_fits = each_fits t.0
takes_list (Def.Scalar kind) each_fits = false
takes_list Def.Str each_fits = false
takes_list Def.Opaque each_fits = false
takes_list (Def.Struct struct) each_fits = false
takes_list (Def.Enum enumeration) each_fits = false
takes_list (Def.Option t) each_fits = false
takes_list (Def.Result t e) each_fits = false
takes_list (Def.Map k v) each_fits = false
takes_list (Def.Set t) each_fits = false
takes_list (Def.Array t n) each_fits = false
takes_list (Def.Pointer pointer) each_fits = false
takes_list Def.Dynamic each_fits = false
takes_list Def.Undefined each_fits = false
takes_list Def.Other each_fits = false

-- fitting items, no two of them `same`
abbrev pub takes_set : Def → (each_fits : ℕ → Bool) → (apart : Bool) → Bool
takes_set (Def.Set t) each_fits apart = each_fits t.0 && apart
takes_set _ each_fits apart = false

-- fitting entries, no two keys `same`
abbrev pub takes_map : Def → (entries_fit : ℕ → ℕ → Bool) → (apart : Bool) → Bool
takes_map (Def.Map k v) entries_fit apart = entries_fit k.0 v.0 && apart
takes_map _ entries_fit apart = false

abbrev pub points_at : Option ShapeId → (pointee_fits : ℕ → Bool) → Bool
points_at (Some t) pointee_fits = pointee_fits t.0
points_at None pointee_fits = false

abbrev pub takes_ptr : Def → (pointee_fits : ℕ → Bool) → Bool
takes_ptr (Def.Pointer pointer) pointee_fits = points_at pointer.pointee pointee_fits
takes_ptr _ pointee_fits = false

abbrev pub takes_dynamic : Def → (keys_once : Bool) → Bool
takes_dynamic Def.Dynamic keys_once = keys_once
takes_dynamic _ keys_once = false

-- the object has no such key
abbrev pub lacks_key : List ℕ → Members → Bool
lacks_key k no_members = true
lacks_key k (member l d ms) = not (bytes_eq k l) && lacks_key k ms

-- no object in it has a key twice
abbrev mutual
  pub keys_once : Dynamic → Bool
  keys_once dyn_null = true
  keys_once (dyn_bool b) = true
  keys_once (dyn_int z) = true
  keys_once (dyn_nat n) = true
  keys_once (dyn_text t) = true
  keys_once (dyn_bytes bs) = true
  keys_once (dyn_array ds) = all_keys_once ds
  keys_once (dyn_object ms) = members_keys_once ms

  pub all_keys_once : Dynamics → Bool
  all_keys_once no_dynamics = true
  all_keys_once (first_dynamic d ds) = keys_once d && all_keys_once ds

  pub members_keys_once : Members → Bool
  members_keys_once no_members = true
  members_keys_once (member k d ms) = lacks_key k ms && keys_once d && members_keys_once ms

abbrev pub count_vals : Vals → ℕ
count_vals no_vals = zero
count_vals (first v vs) = suc (count_vals vs)

abbrev mutual
  -- the value fits the shape of this number
  pub fits : Table → ℕ → Val → Bool
  fits table id unit = false
  fits table id (bool b) = takes_bool (settled table id)
  fits table id (char c) = takes_char (settled table id)
  fits table id (int z) = takes_int z (settled table id)
  fits table id (nat n) = takes_nat n (settled table id)
  fits table id (text t) = takes_text (settled table id)
  fits table id (token t) = takes_token (settled table id)
  fits table id (product vs) =
      takes_product (settled table id) (λ fields. fields_fit table fields vs) (λ t. all_fit table t vs) (count_vals vs)
  fits table id (variant i vs) = takes_variant (settled table id) i (λ fields. fields_fit table fields vs)
  fits table id none = takes_none (settled table id)
  fits table id (some v) = takes_some (settled table id) (λ t. fits table t v)
  fits table id (ok v) = takes_ok (settled table id) (λ t. fits table t v)
  fits table id (err v) = takes_err (settled table id) (λ t. fits table t v)
  fits table id (list_of vs) = takes_list (settled table id) (λ t. all_fit table t vs)
  fits table id (set_of vs) = takes_set (settled table id) (λ t. all_fit table t vs) (none_twice vs)
  fits table id (map_of es) = takes_map (settled table id) (λ k v. entries_fit table k v es) (none_twice (keys es))
  fits table id (ptr v) = takes_ptr (settled table id) (λ t. fits table t v)
  fits table id (dyn d) = takes_dynamic (settled table id) (keys_once d)

  -- each of the values fits one shape
  pub all_fit : Table → ℕ → Vals → Bool
  all_fit table id no_vals = true
  all_fit table id (first v vs) = fits table id v && all_fit table id vs

  -- as many values as fields, each fitting its field's shape
  pub fields_fit : Table → List Field → Vals → Bool
  fields_fit table [] no_vals = true
  fields_fit table (field ∷ fields) (first v vs) = fits table field.shape.0 v && fields_fit table fields vs
  fields_fit table _ _ = false

  -- each key fits the one shape, each value the other
  pub entries_fit : Table → ℕ → ℕ → Entries → Bool
  entries_fit table k v no_entries = true
  entries_fit table k v (entry key value es) = fits table k key && fits table v value && entries_fit table k v es
