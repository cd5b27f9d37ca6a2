-- The order of values: by their form first, in the order in which forms are listed below, then by what they hold. Any two
-- tokens are equal; what has many parts goes part by part in their order, and a beginning of it before the whole.
use Rattle.std.specs.Prelude.{ℕ}
use Rattle.std.specs.declared.cmp.Ordering.{Ordering}
use Rattle.std.specs.declared.cmp.Ordering.TheVariants.{Less, Equal, Greater}
use Rattle.std.specs.Ordering.{ordering_then, nat_cmp, int_cmp, bool_cmp}
use Rattle.std.specs.Cmp.Lexicographic.{slice_cmp}
use Rattle.fr_shape.specs.Val.{Val, Vals, Entries, unit, bool, char, int, nat, text, token, product, variant, none, some, ok, err, list_of, map_of, set_of, ptr, dyn, no_vals, first, no_entries, entry}
use Rattle.fr_shape.specs.Val.{Dynamic, Dynamics, Members, dyn_null, dyn_bool, dyn_int, dyn_nat, dyn_text, dyn_bytes, dyn_array, dyn_object, no_dynamics, first_dynamic, no_members, member}

-- the place of a dynamic value's form
abbrev pub dynamic_rank : Dynamic → ℕ
dynamic_rank dyn_null = 0
dynamic_rank (dyn_bool b) = 1
dynamic_rank (dyn_int z) = 2
dynamic_rank (dyn_nat n) = 3
dynamic_rank (dyn_text t) = 4
dynamic_rank (dyn_bytes bs) = 5
dynamic_rank (dyn_array ds) = 6
dynamic_rank (dyn_object ms) = 7

-- the place of a value's form
abbrev pub rank : Val → ℕ
rank unit = 0
rank (bool b) = 1
rank (char c) = 2
rank (int z) = 3
rank (nat n) = 4
rank (text t) = 5
rank (token t) = 6
rank (product vs) = 7
rank (variant i vs) = 8
rank none = 9
rank (some v) = 10
rank (ok v) = 11
rank (err v) = 12
rank (list_of vs) = 13
rank (map_of es) = 14
rank (set_of vs) = 15
rank (ptr v) = 16
rank (dyn d) = 17

-- the order of two values of different forms
unfoldable pub by_dynamic_rank : Dynamic → Dynamic → Ordering
by_dynamic_rank d e = nat_cmp (dynamic_rank d) (dynamic_rank e)

unfoldable pub by_rank : Val → Val → Ordering
by_rank v w = nat_cmp (rank v) (rank w)

abbrev mutual
  pub compare_dynamic : Dynamic → Dynamic → Ordering
  compare_dynamic dyn_null dyn_null = Equal
  compare_dynamic (dyn_bool a) (dyn_bool b) = bool_cmp a b
  compare_dynamic (dyn_int a) (dyn_int b) = int_cmp a b
  compare_dynamic (dyn_nat a) (dyn_nat b) = nat_cmp a b
  compare_dynamic (dyn_text a) (dyn_text b) = slice_cmp nat_cmp a b
  compare_dynamic (dyn_bytes a) (dyn_bytes b) = slice_cmp nat_cmp a b
  compare_dynamic (dyn_array ds) (dyn_array es) = compare_dynamics ds es
  compare_dynamic (dyn_object ms) (dyn_object ns) = compare_members ms ns
  compare_dynamic d e = by_dynamic_rank d e

  pub compare_dynamics : Dynamics → Dynamics → Ordering
  compare_dynamics no_dynamics no_dynamics = Equal
  compare_dynamics no_dynamics (first_dynamic e es) = Less
  compare_dynamics (first_dynamic d ds) no_dynamics = Greater
  compare_dynamics (first_dynamic d ds) (first_dynamic e es) =
      ordering_then (compare_dynamic d e) (compare_dynamics ds es)

  -- a member goes by its key, then by its value
  pub compare_members : Members → Members → Ordering
  compare_members no_members no_members = Equal
  compare_members no_members (member l e ns) = Less
  compare_members (member k d ms) no_members = Greater
  compare_members (member k d ms) (member l e ns) =
      ordering_then (slice_cmp nat_cmp k l) (ordering_then (compare_dynamic d e) (compare_members ms ns))

abbrev mutual
  pub compare : Val → Val → Ordering
  compare unit unit = Equal
  compare (bool a) (bool b) = bool_cmp a b
  compare (char a) (char b) = nat_cmp a b
  compare (int a) (int b) = int_cmp a b
  compare (nat a) (nat b) = nat_cmp a b
  compare (text a) (text b) = slice_cmp nat_cmp a b
  compare (token a) (token b) = Equal
  compare (product vs) (product ws) = compare_all vs ws
  compare (variant i vs) (variant j ws) = ordering_then (nat_cmp i j) (compare_all vs ws)
  compare none none = Equal
  compare (some v) (some w) = compare v w
  compare (ok v) (ok w) = compare v w
  compare (err v) (err w) = compare v w
  compare (list_of vs) (list_of ws) = compare_all vs ws
  compare (map_of es) (map_of fs) = compare_entries es fs
  compare (set_of vs) (set_of ws) = compare_all vs ws
  compare (ptr v) (ptr w) = compare v w
  compare (dyn d) (dyn e) = compare_dynamic d e
  compare v w = by_rank v w

  pub compare_all : Vals → Vals → Ordering
  compare_all no_vals no_vals = Equal
  compare_all no_vals (first w ws) = Less
  compare_all (first v vs) no_vals = Greater
  compare_all (first v vs) (first w ws) = ordering_then (compare v w) (compare_all vs ws)

  -- an entry goes by its key, then by its value
  pub compare_entries : Entries → Entries → Ordering
  compare_entries no_entries no_entries = Equal
  compare_entries no_entries (entry l w fs) = Less
  compare_entries (entry k v es) no_entries = Greater
  compare_entries (entry k v es) (entry l w fs) =
      ordering_then (compare k l) (ordering_then (compare v w) (compare_entries es fs))
