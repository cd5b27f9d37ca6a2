-- The integers of a value, and what may be asked of them.
use Rattle.std.specs.Prelude.{zero, suc, ◌&&◌, ℤ, pos, negsuc, int_le, Bool, true, false, not, List, [], ◌∷◌, ◌++◌, Option, Some, None, if◌then◌else◌}
use Rattle.std.specs.List.{list_all}
use Rattle.fr_shape.specs.Val.{Val, Vals, Entries, unit, bool, char, int, nat, text, token, product, variant, none, some, ok, err, list_of, map_of, set_of, ptr, dyn, no_vals, first, no_entries, entry}
use Rattle.fr_doc.specs.declared.integers.Integer.{Integer}
use Rattle.fr_doc.specs.declared.integers.IntegerRule.{IntegerRule}

abbrev mutual
  -- the integers of a value, left to right; those inside a dynamic value are left out
  pub integers : Val → List ℤ
  integers unit = []
  integers (bool b) = []
  integers (char c) = []
  integers (int z) = z ∷ []
  integers (nat n) = pos n ∷ []
  integers (text t) = []
  integers (token t) = []
  integers (product vs) = vals_integers vs
  integers (variant i vs) = vals_integers vs
  integers none = []
  integers (some v) = integers v
  integers (ok v) = integers v
  integers (err v) = integers v
  integers (list_of vs) = vals_integers vs
  integers (map_of es) = entries_integers es
  integers (set_of vs) = vals_integers vs
  integers (ptr v) = integers v
  integers (dyn d) = []

  -- those of values one after another
  pub vals_integers : Vals → List ℤ
  vals_integers no_vals = []
  vals_integers (first v vs) = integers v ++ vals_integers vs

  -- those of entries, of each its key's and then its value's
  pub entries_integers : Entries → List ℤ
  entries_integers no_entries = []
  entries_integers (entry k v es) = integers k ++ (integers v ++ entries_integers es)

-- the integer is 0
abbrev pub is_zero : ℤ → Bool
is_zero (pos zero) = true
is_zero (pos (suc n)) = false
is_zero (negsuc n) = false

-- the integer is below 0
abbrev pub is_negative : ℤ → Bool
is_negative (pos n) = false
is_negative (negsuc n) = true

-- none of the integers is 0
abbrev pub none_is_zero : List ℤ → Bool
none_is_zero zs = list_all (λ z. not (is_zero z)) zs

-- none of the integers is below 0
abbrev pub none_is_negative : List ℤ → Bool
none_is_negative zs = list_all (λ z. not (is_negative z)) zs

-- the integers are in non-decreasing order: each is at most the one after it
abbrev pub are_in_order : List ℤ → Bool
are_in_order [] = true
are_in_order (y ∷ []) = true
are_in_order (y ∷ (z ∷ zs)) = int_le y z && are_in_order (z ∷ zs)

-- the integers keep the rule
abbrev pub keep : IntegerRule → List ℤ → Bool
keep IntegerRule.NoZero zs = none_is_zero zs
keep IntegerRule.InOrder zs = are_in_order zs
keep IntegerRule.NoNegative zs = none_is_negative zs

-- How a pass over the integers tests them, one after another.

-- the integer that it is
abbrev pub number : Integer → ℤ
number (Integer.Int z) = z
number (Integer.Nat n) = pos n

-- an integer may come where this one was the last, if there was one
abbrev pub may_follow : IntegerRule → (last : Option ℤ) → ℤ → Bool
may_follow IntegerRule.NoZero last z = not (is_zero z)
may_follow IntegerRule.InOrder None z = true
may_follow IntegerRule.InOrder (Some last) z = int_le last z
may_follow IntegerRule.NoNegative last z = not (is_negative z)

-- the last integer after these, where each may come after the one before it
abbrev pub last_after : IntegerRule → (last : Option ℤ) → List ℤ → Option (Option ℤ)
last_after rule last [] = Some last
last_after rule last (z ∷ zs) = if may_follow rule last z then last_after rule (Some z) zs else None
