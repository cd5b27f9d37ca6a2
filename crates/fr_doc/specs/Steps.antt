-- Forms read in steps, each of which may find that there is none.
use Rattle.std.specs.Prelude.{List, [], ◌∷◌, Option, Some, None, option_and_then}
use Rattle.serde_json.specs.Data.{Data, Items, no_items, item}

infixl 10 ◌>>=◌
abbrev pub ◌>>=◌ : {A B : Type 0} → Option A → (A → Option B) → Option B
found >>= next = option_and_then next found

-- what each item of an array has the form of, if all have
abbrev pub each : {X : Type 0} → (Data → Option X) → Items → Option (List X)
each form no_items = Some []
each form (item d ds) = do
  x ← form d
  xs ← each form ds
  Some (x ∷ xs)

-- the items of an array, if there are two
abbrev pub two : Items → Option (Data × Data)
two (item a (item b no_items)) = Some (a, b)
two _ = None
