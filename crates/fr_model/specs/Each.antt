-- What holds of each element of a list: a word with its lemmas, for the crates above too.
use Rattle.std.specs.Prelude.{◌∷◌, ◌++◌}
use Rattle.std.specs.List.{flat_map}
use Rattle.fr_model.specs.Common.{List, []}

-- each element of the list meets this
abbrev pub Each : {X : Type 0} → (X → Type 0) → List X → Type 0
Each P [] = Unit {0}
Each P (x ∷ xs) = P x × Each P xs

-- it holds of each element of a list and of another, one behind the other, where it holds of each of either
pub each_append : {X : Type 0} (P : X → Type 0) (xs more : List X) → Each P xs → Each P more → Each P (xs ++ more)
each_append P [] more these those = those
each_append P (x ∷ xs) more these those = (these.0, each_append P xs more these.1 those)

-- it holds of each element of the lists that a function makes of these, one behind the other, where it holds of each that the function
-- makes of any
pub each_flat_map : {X Y : Type 0} (P : Y → Type 0) (f : X → List Y) → ((x : X) → Each P (f x)) → (xs : List X)
    → Each P (flat_map f xs)
each_flat_map P f each [] = tt
each_flat_map P f each (x ∷ xs) = each_append P (f x) (flat_map f xs) (each x) (each_flat_map P f each xs)

-- where each that meets this meets that too, it is so of all of a list
pub each_so : {X : Type 0} (P Q : X → Type 0) → ((x : X) → P x → Q x) → (xs : List X) → Each P xs → Each Q xs
each_so P Q so [] these = tt
each_so P Q so (x ∷ xs) these = (so x these.0, each_so P Q so xs these.1)
