-- Lists no two of whose items are equal.
use Rattle.std.specs.Prelude.{◌≡◌, ℕ, ◌<◌, Bool, true, not, ◌&&◌, List, [], ◌∷◌, length, take, slice_index_or}
use Rattle.std.specs.List.{list_any}

-- no item is equal to a later one
abbrev pub distinct : {X : Type 0} → (X → X → Bool) → List X → Bool
distinct eq [] = true
distinct eq (x ∷ xs) = not (list_any (eq x) xs) && distinct eq xs

-- the item of this number is equal to an earlier one, and the items before it are distinct
pub record IsFirstRepeated {X : Type 0} (eq : X → X → Bool) (xs : List X) (n : ℕ) : Type 0 where
  pub within : n < length xs
  pub distinct_before : distinct eq (take n xs) ≡ true
  pub repeated : (d : X) → list_any (eq (slice_index_or xs n d)) (take n xs) ≡ true
