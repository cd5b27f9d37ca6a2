-- A test of lists.
use Rattle.std.specs.Prelude.{Bool, true, false, List, [], ◌∷◌}

-- there is nothing in the list
abbrev pub is_nil : {X : Type 0} → List X → Bool
is_nil [] = true
is_nil (x ∷ xs) = false
