-- The order in which stored places are completed: the longest path first, then step by step.
use Rattle.std.specs.Prelude.{◌≡◌, ℕ, true, List, [], ◌∷◌}
use Rattle.std.specs.List.{Contains}
use Rattle.std.specs.declared.cmp.Ordering.{Ordering}
use Rattle.fr_store.specs.Below.{Kid, Place, Plot, Tree, at, steps_in, tree_of, walk_order}
use Rattle.fr_store.specs.PlaceOrder.{Pairs}
use Rattle.fr_store.specs.Ways.{kid_at, Reaches}

-- at this place lies a stored place, in this slot
pub record IsStoredAt (k : Kid) (slot : ℕ) (place : Place) : Type 0 where
  pub plot : Plot
  pub reaches : Reaches place k
  pub is : kid_at place k ≡ at slot true plot

-- so it is of each slot and place, in turn
abbrev pub AreStoredAt : Kid → (slots : List ℕ) → List Place → Type 0
AreStoredAt k [] [] = Unit {0}
AreStoredAt k [] (place ∷ places) = ⊥
AreStoredAt k (slot ∷ slots) [] = ⊥
AreStoredAt k (slot ∷ slots) (place ∷ places) = IsStoredAt k slot place × AreStoredAt k slots places

abbrev pub ComesBefore : Tree → (first second : Place) → Type 0
ComesBefore tree first second = walk_order (steps_in first tree) (steps_in second tree) ≡ Ordering.Less

-- each of these places comes before all that follow
abbrev pub AreInWalkOrder : Tree → List Place → Type 0
AreInWalkOrder tree places = Pairs (ComesBefore tree) places

-- These slots are those of all stored places, in the order of the walk.
pub record IsWalk (k : Kid) (walk : List ℕ) : Type 0 where
  pub places : List Place
  pub stored : AreStoredAt k walk places
  pub order : AreInWalkOrder (tree_of k) places
  pub all : (slot : ℕ) (place : Place) → IsStoredAt k slot place → Contains places place
