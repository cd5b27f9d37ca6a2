-- Parts of a document read in steps, each of which may find a fault.
use Rattle.std.specs.Prelude.{ℕ, ◌+◌, List, [], ◌∷◌, Result, Ok, Err}
use Rattle.serde_json.specs.Data.{Data, Items, no_items, item}

infixl 10 ◌>>=◌
abbrev pub ◌>>=◌ : {A B E : Type 0} → Result A E → (A → Result B E) → Result B E
(Ok found) >>= next = next found
(Err fault) >>= next = Err fault

-- what each item of an array is, or the fault of the first that is at fault; the first has the number i
abbrev pub each_at : {X E : Type 0} → (ℕ → Data → Result X E) → ℕ → Items → Result (List X) E
each_at part i no_items = Ok []
each_at part i (item d ds) = do
  x ← part i d
  xs ← each_at part (i + 1) ds
  Ok (x ∷ xs)
