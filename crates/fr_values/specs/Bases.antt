-- What is known of the first children of a begun place: that they hold nothing twice.
use Rattle.std.specs.Prelude.{◌≡◌, ◌⊎◌, ℕ, ◌+◌, ◌*◌, ◌≤◌, true, List, length, take}
use Rattle.fr_shape.specs.Same.{none_twice}
use Rattle.fr_shape.specs.Val.{Vals}
use Rattle.fr_shape.specs.View.{vals_view}
use Rattle.fr_shape.specs.declared.value.Value.{Value}
use Rattle.fr_values.specs.declared.bases.Base.{Base}
use Rattle.fr_values.specs.KeyPlaces.{first_keys}

-- how many children a base has
abbrev pub count_in_base : Base → ℕ
count_in_base (Base.Items count) = count
count_in_base (Base.Entries count) = 2 * count

-- what of children with these values is told apart: the items, or the keys of the entries
abbrev pub told_apart : Base → List Value → Vals
told_apart (Base.Items count) values = vals_view (take count values)
told_apart (Base.Entries count) values = first_keys count (vals_view values)

-- children with these values have the base, and no two of the items, or of the keys of the entries, are `same`
pub record AreApart (base : Base) (values : List Value) : Type 0 where
  pub within : count_in_base base ≤ length values
  pub once : none_twice (told_apart base values) ≡ true

-- a base ends before this number, and has at most the children that it had
abbrev pub IsCut : (number : ℕ) → (before after : Base) → Type 0
IsCut number (Base.Items count) (Base.Items fewer) = (fewer ≤ number) × (fewer ≤ count)
IsCut number (Base.Entries count) (Base.Entries fewer) = (2 * fewer ≤ number) × (fewer ≤ count)
IsCut number before after = ⊥

-- a base stays as it was, or ends behind the item of this number, before which it ended
abbrev pub IsGrown : (number : ℕ) → (before after : Base) → Type 0
IsGrown number before after =
    (after ≡ before) ⊎ ((before ≡ Base.Items number) × (after ≡ Base.Items (number + 1)))
