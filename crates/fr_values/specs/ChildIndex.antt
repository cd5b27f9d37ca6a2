-- Which of its children the base and the index of a begun place have.
use Rattle.std.specs.Prelude.{◌≡◌, ℕ, ◌<◌, ◌≤◌, true, List, length, take}
use Rattle.std.specs.FinSet as set
use Rattle.fr_arena.specs.BitSets.{BitSet}
use Rattle.fr_shape.specs.declared.value.Value.{Value}
use Rattle.fr_values.specs.declared.bases.Base.{Base}
use Rattle.fr_values.specs.declared.value_index.ValueIndex.{ValueIndex}
use Rattle.fr_values.specs.Bases.{AreApart, IsCut, count_in_base}
use Rattle.fr_values.specs.Indexing.{Indexes}

-- there is room for the children's numbers; those of the base are given and hold nothing twice; and the index has just the first of
-- their values
pub record IndexesChildren (given : BitSet) (values : List Value) (base : Base) (index : ValueIndex) : Type 0 where
  pub room : length values ≤ given.capacity
  pub there : (j : ℕ) → j < count_in_base base → set.contains given.members j ≡ true
  pub apart : AreApart base values
  pub within : index.len ≤ count_in_base base
  pub just : Indexes index (take index.len values)

-- the index has what it had before, or nothing, and no value from this number on
pub record IsCutAt (number : ℕ) (before index : ValueIndex) : Type 0 where
  pub below : index.len ≤ number
  pub fewer : index.len ≤ before.len
  pub kept : (values : List Value) → Indexes before (take before.len values) → Indexes index (take index.len values)

-- a base ends before this number, and an index of its values has what it had before, or nothing
pub record AreCutAt (number : ℕ) (base_before base : Base) (before index : ValueIndex) : Type 0 where
  pub cut : IsCut number base_before base
  pub within : before.len ≤ count_in_base base_before → index.len ≤ count_in_base base
  pub kept : (values : List Value) → Indexes before (take before.len values) → Indexes index (take index.len values)
