-- Values are equal by their order exactly where they are `same`.
use Rattle.std.specs.Prelude.{◌≡◌, Bool, true, false, ◌&&◌, refl, nat_eq}
use Rattle.std.proofs.Common.{Some, sym, ◌∙◌, subst}
use Rattle.std.specs.declared.cmp.Ordering.{Ordering}
use Rattle.std.specs.Ordering.{ordering_then, is_eq, nat_cmp, bool_cmp}
use Rattle.std.specs.Bool.{beq}
use Rattle.std.specs.Str.{bytes_eq}
use Rattle.std.specs.Cmp.{IsEquivalence, IsPartialOrder, both_tied, unsigned_ties, eq_by_cmp_equiv, po}
use Rattle.std.specs.Cmp.Lexicographic.{slice_cmp, texts_ties}
use Rattle.fr_shape.specs.Same.{same, all_same, entries_same, same_dynamic, same_dynamics, same_members}
use Rattle.fr_shape.specs.Compare.{by_rank, by_dynamic_rank, compare, compare_all, compare_entries, compare_dynamic, compare_dynamics, compare_members}
use Rattle.fr_shape.specs.CompareLaws.{compare_total}
use Rattle.fr_shape.specs.Val.{Val, Vals, Entries, unit, bool, char, int, nat, text, token, product, variant, none, some, ok, err, list_of, map_of, set_of, ptr, dyn, no_vals, first, no_entries, entry}
use Rattle.fr_shape.specs.Val.{Dynamic, Dynamics, Members, dyn_null, dyn_bool, dyn_int, dyn_nat, dyn_text, dyn_bytes, dyn_array, dyn_object, no_dynamics, first_dynamic, no_members, member}

same_booleans : (a b : Bool) → beq a b ≡ is_eq (bool_cmp a b)
same_booleans true true = refl
same_booleans true false = refl
same_booleans false true = refl
same_booleans false false = refl

and_assoc : (a b c : Bool) → (a && b) && c ≡ a && (b && c)
and_assoc true b c = refl
and_assoc false b c = refl

-- three tests in a row
three_tied : (a b c : Bool) (r s t : Ordering) → a ≡ is_eq r → b ≡ is_eq s → c ≡ is_eq t → (a && b) && c ≡ is_eq (ordering_then r (ordering_then s t))
three_tied a b c r s t p q h = and_assoc a b c ∙ both_tied a (b && c) r (ordering_then s t) p (both_tied b c s t q h)

mutual
  unfolding by_dynamic_rank

  dynamic_tied : (d e : Dynamic) → same_dynamic d e ≡ is_eq (compare_dynamic d e)
  dynamic_tied dyn_null dyn_null = refl
  dynamic_tied (dyn_bool a) (dyn_bool b) = same_booleans a b
  dynamic_tied (dyn_int a) (dyn_int b) = refl
  dynamic_tied (dyn_nat a) (dyn_nat b) = unsigned_ties a b
  dynamic_tied (dyn_text a) (dyn_text b) = texts_ties a b
  dynamic_tied (dyn_bytes a) (dyn_bytes b) = texts_ties a b
  dynamic_tied (dyn_array ds) (dyn_array es) = dynamics_tied ds es
  dynamic_tied (dyn_object ms) (dyn_object ns) = members_tied ms ns
  dynamic_tied _ _ = refl

  dynamics_tied : (ds es : Dynamics) → same_dynamics ds es ≡ is_eq (compare_dynamics ds es)
  dynamics_tied no_dynamics no_dynamics = refl
  dynamics_tied no_dynamics (first_dynamic e es) = refl
  dynamics_tied (first_dynamic d ds) no_dynamics = refl
  dynamics_tied (first_dynamic d ds) (first_dynamic e es) =
      both_tied (same_dynamic d e) (same_dynamics ds es) (compare_dynamic d e) (compare_dynamics ds es) (dynamic_tied d e) (dynamics_tied ds es)

  members_tied : (ms ns : Members) → same_members ms ns ≡ is_eq (compare_members ms ns)
  members_tied no_members no_members = refl
  members_tied no_members (member l e ns) = refl
  members_tied (member k d ms) no_members = refl
  members_tied (member k d ms) (member l e ns) =
      three_tied (bytes_eq k l) (same_dynamic d e) (same_members ms ns) (slice_cmp nat_cmp k l) (compare_dynamic d e) (compare_members ms ns)
      (texts_ties k l) (dynamic_tied d e) (members_tied ms ns)

mutual
  unfolding by_rank

  pub same_tied : (v w : Val) → same v w ≡ is_eq (compare v w)
  same_tied unit unit = refl
  same_tied (bool a) (bool b) = same_booleans a b
  same_tied (char a) (char b) = unsigned_ties a b
  same_tied (int a) (int b) = refl
  same_tied (nat a) (nat b) = unsigned_ties a b
  same_tied (text a) (text b) = texts_ties a b
  same_tied (token a) (token b) = refl
  same_tied (product vs) (product ws) = all_tied vs ws
  same_tied (variant i vs) (variant j ws) = both_tied (nat_eq i j) (all_same vs ws) (nat_cmp i j) (compare_all vs ws) (unsigned_ties i j) (all_tied vs ws)
  same_tied none none = refl
  same_tied (some v) (some w) = same_tied v w
  same_tied (ok v) (ok w) = same_tied v w
  same_tied (err v) (err w) = same_tied v w
  same_tied (list_of vs) (list_of ws) = all_tied vs ws
  same_tied (map_of es) (map_of fs) = entries_tied es fs
  same_tied (set_of vs) (set_of ws) = all_tied vs ws
  same_tied (ptr v) (ptr w) = same_tied v w
  same_tied (dyn d) (dyn e) = dynamic_tied d e
  same_tied _ _ = refl

  all_tied : (vs ws : Vals) → all_same vs ws ≡ is_eq (compare_all vs ws)
  all_tied no_vals no_vals = refl
  all_tied no_vals (first w ws) = refl
  all_tied (first v vs) no_vals = refl
  all_tied (first v vs) (first w ws) = both_tied (same v w) (all_same vs ws) (compare v w) (compare_all vs ws) (same_tied v w) (all_tied vs ws)

  entries_tied : (es fs : Entries) → entries_same es fs ≡ is_eq (compare_entries es fs)
  entries_tied no_entries no_entries = refl
  entries_tied no_entries (entry l w fs) = refl
  entries_tied (entry k v es) no_entries = refl
  entries_tied (entry k v es) (entry l w fs) =
      three_tied (same k l) (same v w) (entries_same es fs) (compare k l) (compare v w) (compare_entries es fs)
      (same_tied k l) (same_tied v w) (entries_tied es fs)

-- so `same` is an equivalence, and the order is one up to it
pub same_equivalence : IsEquivalence same
same_equivalence = subst IsEquivalence (λ i v w. sym (same_tied v w) i) (eq_by_cmp_equiv compare_total)

pub same_order : IsPartialOrder same (λ v w. Some (compare v w))
same_order = po compare_total same_tied
