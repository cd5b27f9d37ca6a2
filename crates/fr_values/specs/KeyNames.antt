-- The names of a dynamic object's entries, kept as values beside an index of them.
use Rattle.std.specs.Prelude.{◌≡◌, ℕ, List, [], map}
use Rattle.fr_shape.specs.declared.value.Value.{Value}
use Rattle.fr_shape.specs.Val.{Val, text}
use Rattle.fr_shape.specs.View.{view}
use Rattle.fr_values.specs.declared.value_index.ValueIndex.{ValueIndex}
use Rattle.fr_values.specs.Indexing.{Indexes}

-- the bytes of a name: those of a text, and none of any other value
abbrev pub name_of : Val → List ℕ
name_of (text codes) = codes
name_of _ = []

abbrev pub names_of : List Value → List (List ℕ)
names_of names = map (λ name. name_of (view name)) names

-- each is a text, and the index has them all
pub record AreNames (names : List Value) (index : ValueIndex) : Type 0 where
  pub texts : map view names ≡ map text (names_of names)
  pub indexed : Indexes index names
