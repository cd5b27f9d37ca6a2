-- Worked examples of states that are well and of such as aren't: what a map had when it was begun is whole, has no key twice, and isn't
-- entered.
use Rattle.std.specs.Prelude.{◌∷◌}
use Rattle.fr_model.specs.Common.{ℕ, [], nat}
use Rattle.fr_laws.specs.CollectionExamples.{collections}
use Rattle.fr_model.specs.Basis.{Place, as_entries, EntriesKind, hole, entered, whole, begun, Trees, no_trees, branch, strict, State, IsWell}

-- a map of numbers to numbers over a base of so many entries, at whose place, or at a child of it, the builder works
abbrev pub pairs_over : (base : ℕ) → Trees → (cursor : Place) → State
pairs_over base children cursor =
    record { tree = begun (as_entries (EntriesKind.Map base)) children; cursor = cursor; mode = strict; calls = 0 }

-- an entry in front of others
abbrev pub pair_and : (key value : ℕ) → Trees → Trees
pair_and key value rest = branch (whole (nat key)) (branch (whole (nat value)) rest)

-- an entry whose key is just entered
abbrev pub pair_begun : Trees
pair_begun = branch entered (branch hole no_trees)

pub record WellExamples : Type 0 where
  -- behind a base of one entry another is under way
  pub behind_the_base : IsWell collections 6 (pairs_over 1 (pair_and 1 2 pair_begun) (2 ∷ []))
  -- two entries may have one key, but not in the base
  pub repeated_behind_the_base : IsWell collections 6 (pairs_over 1 (pair_and 1 2 (pair_and 1 3 no_trees)) [])
  pub repeated_in_the_base : IsWell collections 6 (pairs_over 2 (pair_and 1 2 (pair_and 1 3 no_trees)) []) → ⊥
  -- an entry under way is none of the base, and neither the key nor the value of one of the base is entered again
  pub under_way_in_the_base : IsWell collections 6 (pairs_over 2 (pair_and 1 2 pair_begun) (2 ∷ [])) → ⊥
  pub at_a_key_of_the_base : IsWell collections 6 (pairs_over 1 (pair_and 1 2 no_trees) (0 ∷ [])) → ⊥
  pub at_a_value_of_the_base : IsWell collections 6 (pairs_over 1 (pair_and 1 2 no_trees) (1 ∷ [])) → ⊥
  -- and the base is there
  pub too_few : IsWell collections 6 (pairs_over 2 (pair_and 1 2 no_trees) []) → ⊥
