-- The JSON in which a value is printed.
use Rattle.std.specs.Prelude.{ℕ, ◌^◌, nat_lt, ℤ, pos, negsuc, Bool, List, [], ◌∷◌, codes, decimal, if◌then◌else◌}
use Rattle.std.specs.Char.{encode_utf8}
use Rattle.std.specs.Fmt.{signed_decimal}
use Rattle.serde_json.specs.Data.{Data, null, boolean, number, unsigned, string, array, object, Items, no_items, item, no_members, member}
use Rattle.serde_json.specs.Find.{of_integer}
use Rattle.fr_shape.specs.Val.{Val, Vals, Entries, unit, bool, char, int, nat, text, token, product, variant, none, some, ok, err, list_of, map_of, set_of, ptr, dyn, no_vals, first, no_entries, entry}
use Rattle.fr_shape.specs.Val.{Dynamic, Dynamics, Members, dyn_null, dyn_bool, dyn_int, dyn_nat, dyn_text, dyn_bytes, dyn_array, dyn_object, no_dynamics, first_dynamic}
use Rattle.fr_shape.specs.Val.{member as dyn_member, no_members as no_dyn_members}

-- an object of one key
abbrev pub under : List ℕ → Data → Data
under key inner = object (member key inner no_members)

-- an array of two
abbrev pub pair : Data → Data → Data
pair a b = array (item a (item b no_items))

abbrev pub natural : ℕ → Data
natural n = number (unsigned n)

-- a number of 64 bits stands as itself, a larger one as its digits
abbrev pub nat_data : ℕ → Data
nat_data n = if nat_lt n (2 ^ 64) then natural n else under (codes "n") (string (decimal n))

-- the integer is one of i64
abbrev pub is_small : ℤ → Bool
is_small (pos n) = nat_lt n (2 ^ 63)
is_small (negsuc n) = nat_lt n (2 ^ 63)

abbrev pub int_data : ℤ → Data
int_data z = under (codes "i") (if is_small z then number (of_integer z) else string (signed_decimal z))

abbrev pub bytes_data : List ℕ → Items
bytes_data [] = no_items
bytes_data (b ∷ bs) = item (natural b) (bytes_data bs)

abbrev mutual
  pub dyn_data : Dynamic → Data
  dyn_data dyn_null = null
  dyn_data (dyn_bool b) = boolean b
  dyn_data (dyn_int z) = under (codes "i") (number (of_integer z))
  dyn_data (dyn_nat n) = natural n
  dyn_data (dyn_text t) = string t
  dyn_data (dyn_bytes bs) = under (codes "b") (array (bytes_data bs))
  dyn_data (dyn_array ds) = array (dynamics_data ds)
  dyn_data (dyn_object ms) = under (codes "o") (array (dyn_members_data ms))

  pub dynamics_data : Dynamics → Items
  dynamics_data no_dynamics = no_items
  dynamics_data (first_dynamic d ds) = item (dyn_data d) (dynamics_data ds)

  pub dyn_members_data : Members → Items
  dyn_members_data no_dyn_members = no_items
  dyn_members_data (dyn_member key d ms) = item (pair (string key) (dyn_data d)) (dyn_members_data ms)

abbrev mutual
  -- `unit` has no form of its own; no value that fits a shape holds it
  pub value_data : Val → Data
  value_data unit = null
  value_data (bool b) = boolean b
  value_data (char c) = under (codes "c") (string (encode_utf8 c))
  value_data (int z) = int_data z
  value_data (nat n) = nat_data n
  value_data (text t) = string t
  value_data (token t) = under (codes "t") (natural t)
  value_data (product vs) = array (vals_data vs)
  value_data (variant i vs) = under (codes "v") (pair (natural i) (array (vals_data vs)))
  value_data none = null
  value_data (some v) = under (codes "s") (value_data v)
  value_data (ok v) = under (codes "ok") (value_data v)
  value_data (err v) = under (codes "err") (value_data v)
  value_data (list_of vs) = under (codes "l") (array (vals_data vs))
  value_data (map_of es) = under (codes "m") (array (entries_data es))
  value_data (set_of vs) = under (codes "e") (array (vals_data vs))
  value_data (ptr v) = under (codes "p") (value_data v)
  value_data (dyn d) = under (codes "d") (dyn_data d)

  pub vals_data : Vals → Items
  vals_data no_vals = no_items
  vals_data (first v vs) = item (value_data v) (vals_data vs)

  pub entries_data : Entries → Items
  entries_data no_entries = no_items
  entries_data (entry k v es) = item (pair (value_data k) (value_data v)) (entries_data es)
