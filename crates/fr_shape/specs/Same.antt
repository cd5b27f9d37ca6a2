-- Structural equality of values, in which any two tokens are equal; maps and sets go by their order.
use Rattle.std.specs.Prelude.{Bool, true, false, not, ◌&&◌, ◌||◌, nat_eq}
use Rattle.std.specs.Ordering.{int_eq}
use Rattle.std.specs.Bool.{beq}
use Rattle.std.specs.Str.{bytes_eq}
use Rattle.fr_shape.specs.Val.{Val, Vals, Entries, unit, bool, char, int, nat, text, token, product, variant, none, some, ok, err, list_of, map_of, set_of, ptr, dyn, no_vals, first, no_entries, entry}
use Rattle.fr_shape.specs.Val.{Dynamic, Dynamics, Members, dyn_null, dyn_bool, dyn_int, dyn_nat, dyn_text, dyn_bytes, dyn_array, dyn_object, no_dynamics, first_dynamic, no_members, member}

abbrev mutual
  pub same_dynamic : Dynamic → Dynamic → Bool
  same_dynamic dyn_null dyn_null = true
  same_dynamic (dyn_bool a) (dyn_bool b) = beq a b
  same_dynamic (dyn_int a) (dyn_int b) = int_eq a b
  same_dynamic (dyn_nat a) (dyn_nat b) = nat_eq a b
  same_dynamic (dyn_text a) (dyn_text b) = bytes_eq a b
  same_dynamic (dyn_bytes a) (dyn_bytes b) = bytes_eq a b
  same_dynamic (dyn_array ds) (dyn_array es) = same_dynamics ds es
  same_dynamic (dyn_object ms) (dyn_object ns) = same_members ms ns
  same_dynamic _ _ = false

  pub same_dynamics : Dynamics → Dynamics → Bool
  same_dynamics no_dynamics no_dynamics = true
  same_dynamics (first_dynamic d ds) (first_dynamic e es) = same_dynamic d e && same_dynamics ds es
  same_dynamics _ _ = false

  pub same_members : Members → Members → Bool
  same_members no_members no_members = true
  same_members (member k d ms) (member l e ns) = bytes_eq k l && same_dynamic d e && same_members ms ns
  same_members _ _ = false

abbrev mutual
  pub same : Val → Val → Bool
  same unit unit = true
  same (bool a) (bool b) = beq a b
  same (char a) (char b) = nat_eq a b
  same (int a) (int b) = int_eq a b
  same (nat a) (nat b) = nat_eq a b
  same (text a) (text b) = bytes_eq a b
  same (token a) (token b) = true
  same (product vs) (product ws) = all_same vs ws
  same (variant i vs) (variant j ws) = nat_eq i j && all_same vs ws
  same none none = true
  same (some v) (some w) = same v w
  same (ok v) (ok w) = same v w
  same (err v) (err w) = same v w
  same (list_of vs) (list_of ws) = all_same vs ws
  same (map_of es) (map_of fs) = entries_same es fs
  same (set_of vs) (set_of ws) = all_same vs ws
  same (ptr v) (ptr w) = same v w
  same (dyn d) (dyn e) = same_dynamic d e
  same _ _ = false

  -- one by one, and as many
  pub all_same : Vals → Vals → Bool
  all_same no_vals no_vals = true
  all_same (first v vs) (first w ws) = same v w && all_same vs ws
  all_same _ _ = false

  pub entries_same : Entries → Entries → Bool
  entries_same no_entries no_entries = true
  entries_same (entry k v es) (entry l w fs) = same k l && same v w && entries_same es fs
  entries_same _ _ = false

-- the value is `same` as one of these
abbrev pub is_among : Val → Vals → Bool
is_among v no_vals = false
is_among v (first w ws) = same v w || is_among v ws

-- no two of these are `same`
abbrev pub none_twice : Vals → Bool
none_twice no_vals = true
none_twice (first v vs) = not (is_among v vs) && none_twice vs

abbrev pub keys : Entries → Vals
keys no_entries = no_vals
keys (entry k v es) = first k (keys es)
