-- A printed value has no number that is neither an i64 nor a u64, so its text is its compact text.
use Rattle.std.specs.Prelude.{◌≡◌, ℕ, ◌^◌, nat_lt, ℤ, pos, negsuc, Bool, true, false, ◌||◌, List, [], ◌∷◌, decimal, codes, if◌then◌else◌, refl}
use Rattle.std.specs.Fmt.{signed_decimal}
use Rattle.serde_json.specs.Data.{number, string}
use Rattle.serde_json.specs.Find.{of_integer, is_float}
use Rattle.serde_json.specs.Written.{has_float, items_have_float}
use Rattle.fr_shape.specs.Val.{Val, Vals, Entries, unit, bool, char, int, nat, text, token, product, variant, none, some, ok, err, list_of, map_of, set_of, ptr, dyn, no_vals, first, no_entries, entry}
use Rattle.fr_shape.specs.Val.{Dynamic, Dynamics, Members, dyn_null, dyn_bool, dyn_int, dyn_nat, dyn_text, dyn_bytes, dyn_array, dyn_object, no_dynamics, first_dynamic}
use Rattle.fr_shape.specs.Val.{member as dyn_member, no_members as no_dyn_members}
use Rattle.fr_doc.specs.Printed.{under, natural, is_small, bytes_data, dyn_data, dynamics_data, dyn_members_data, value_data, vals_data, entries_data}

neither : (a b : Bool) → a ≡ false → b ≡ false → (a || b) ≡ false
neither true b none_first none_second = none_first
neither false b none_first none_second = none_second

alone : (a : Bool) → a ≡ false → (a || false) ≡ false
alone a none_here = neither a false none_here refl

integer_free : (z : ℤ) → is_float (of_integer z) ≡ false
integer_free (pos n) = refl
integer_free (negsuc n) = refl

nat_choice_free : (small : Bool) (n : ℕ) → has_float (if small then natural n else under (codes "n") (string (decimal n))) ≡ false
nat_choice_free true n = refl
nat_choice_free false n = refl

int_choice_free : (small : Bool) (z : ℤ) → has_float (if small then number (of_integer z) else string (signed_decimal z)) ≡ false
int_choice_free true z = integer_free z
int_choice_free false z = refl

bytes_free : (bs : List ℕ) → items_have_float (bytes_data bs) ≡ false
bytes_free [] = refl
bytes_free (b ∷ bs) = bytes_free bs

mutual
  dyn_free : (d : Dynamic) → has_float (dyn_data d) ≡ false
  dyn_free dyn_null = refl
  dyn_free (dyn_bool b) = refl
  dyn_free (dyn_int z) = alone _ (integer_free z)
  dyn_free (dyn_nat n) = refl
  dyn_free (dyn_text t) = refl
  dyn_free (dyn_bytes bs) = alone _ (bytes_free bs)
  dyn_free (dyn_array ds) = dynamics_free ds
  dyn_free (dyn_object ms) = alone _ (dyn_members_free ms)

  dynamics_free : (ds : Dynamics) → items_have_float (dynamics_data ds) ≡ false
  dynamics_free no_dynamics = refl
  dynamics_free (first_dynamic d ds) = neither _ _ (dyn_free d) (dynamics_free ds)

  dyn_members_free : (ms : Members) → items_have_float (dyn_members_data ms) ≡ false
  dyn_members_free no_dyn_members = refl
  dyn_members_free (dyn_member key d ms) = neither _ _ (alone _ (dyn_free d)) (dyn_members_free ms)

mutual
  pub value_float_free : (v : Val) → has_float (value_data v) ≡ false
  value_float_free unit = refl
  value_float_free (bool b) = refl
  value_float_free (char c) = refl
  value_float_free (int z) = alone _ (int_choice_free (is_small z) z)
  value_float_free (nat n) = nat_choice_free (nat_lt n (2 ^ 64)) n
  value_float_free (text t) = refl
  value_float_free (token t) = refl
  value_float_free (product vs) = vals_free vs
  value_float_free (variant i vs) = alone _ (alone _ (vals_free vs))
  value_float_free none = refl
  value_float_free (some v) = alone _ (value_float_free v)
  value_float_free (ok v) = alone _ (value_float_free v)
  value_float_free (err v) = alone _ (value_float_free v)
  value_float_free (list_of vs) = alone _ (vals_free vs)
  value_float_free (map_of es) = alone _ (entries_free es)
  value_float_free (set_of vs) = alone _ (vals_free vs)
  value_float_free (ptr v) = alone _ (value_float_free v)
  value_float_free (dyn d) = alone _ (dyn_free d)

  vals_free : (vs : Vals) → items_have_float (vals_data vs) ≡ false
  vals_free no_vals = refl
  vals_free (first v vs) = neither _ _ (value_float_free v) (vals_free vs)

  entries_free : (es : Entries) → items_have_float (entries_data es) ≡ false
  entries_free no_entries = refl
  entries_free (entry k v es) = neither _ _ (neither _ _ (value_float_free k) (alone _ (value_float_free v))) (entries_free es)
