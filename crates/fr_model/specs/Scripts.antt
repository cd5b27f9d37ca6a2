-- Which scripts may be handed to the builder, and the tokens that they bring.
use Rattle.std.specs.Prelude.{◌≡◌, ◌+◌, ◌<◌, ◌≤◌, ◌∷◌}
use Rattle.fr_model.specs.Common.{ℕ, true, List, [], slice_index, length, Option, Some, None, Table, IsIn, fits, tokens, occurs, Val}
use Rattle.fr_model.specs.Commands.{Call}
use Rattle.fr_model.specs.Each.{Each}

-- the value that a call brings, with the shape that it names: `set` brings its value, every other call nothing
abbrev pub value_brought : Call → Option (ℕ × Val)
value_brought (Call.Set shape v) = Some (shape, v)
value_brought _ = None

-- the tokens of the value, if there is one, in order
abbrev pub tokens_if_any : Option (ℕ × Val) → List ℕ
tokens_if_any (Some (shape, v)) = tokens v
tokens_if_any None = []

-- how often a token stands in the value, if there is one
abbrev pub occurs_if_any : Option (ℕ × Val) → ℕ → ℕ
occurs_if_any (Some (shape, v)) t = occurs v t
occurs_if_any None t = 0

-- the value, if there is one, fits the shape that is named with it, which is in the table
abbrev pub FitsIfAny : Table → Option (ℕ × Val) → Type 0
FitsIfAny table (Some (shape, v)) = IsIn table shape × (fits table shape v ≡ true)
FitsIfAny table None = Unit {0}

-- the tokens that a command brings, in order
abbrev pub tokens_of : Call → List ℕ
tokens_of command = tokens_if_any (value_brought command)

-- how often a command, or a script, brings a token
abbrev pub brings : Call → ℕ → ℕ
brings command t = occurs_if_any (value_brought command) t

abbrev pub brought : List Call → ℕ → ℕ
brought [] t = 0
brought (command ∷ commands) t = brings command t + brought commands t

-- a command is fitting: what it brings fits the shape that it names
abbrev pub IsFitting : Table → Call → Type 0
IsFitting table command = FitsIfAny table (value_brought command)

-- each call of a script is fitting
abbrev pub AllFitting : Table → List Call → Type 0
AllFitting table script = Each (IsFitting table) script

-- A valid script: every value fits the shape that it names, and each of its tokens is brought once, is one of the
-- ledger's, and was never released.
pub record IsValid (table : Table) (script : List Call) (ledger : List ℕ) : Type 0 where
  pub fitting : AllFitting table script
  pub once : (t : ℕ) → brought script t ≤ 1
  pub known : (t : ℕ) → 0 < brought script t → t < length ledger
  pub unreleased : (t : ℕ) → 0 < brought script t → slice_index ledger t ≡ 0
