-- Marks on tokens, one for each token of a ledger. A marked token may not be brought.
use Rattle.std.specs.Prelude.{◌≡◌, ◌<◌, ℕ, ◌+◌, Bool, true, false, not, ◌&&◌, ◌==◌, List, [], ◌∷◌, length, nat_lt, slice_index, slice_index_or, slice_set, Option, Some, None, if◌then◌else◌}
use Rattle.fr_shape.specs.Fits.{fits}
use Rattle.fr_shape.specs.Look.{Table}
use Rattle.fr_shape.specs.Tokens.{tokens}
use Rattle.fr_shape.specs.Val.{Val}
use Rattle.fr_model.specs.Commands.{Call}
use Rattle.fr_model.specs.Scripts.{value_brought}
use Rattle.fr_script.specs.Documents.{is_new}

-- the token was released, or brought before
abbrev pub is_taken : List ℕ → List ℕ → ℕ → Bool
is_taken ledger brought t = not (slice_index ledger t == 0 && is_new t brought)

-- exactly the tokens of the ledger that were released or brought are marked
pub record AreMarks (ledger brought : List ℕ) (marks : List Bool) : Type 0 where
  pub same_length : length marks ≡ length ledger
  pub each : (t : ℕ) → t < length ledger → slice_index_or marks t false ≡ is_taken ledger brought t

-- the marks with these tokens marked too, if each is a token of the ledger and none was marked when its turn came
abbrev pub tokens_marked : List ℕ → List Bool → Option (List Bool)
tokens_marked [] marks = Some marks
tokens_marked (t ∷ ts) marks =
    if nat_lt t (length marks) && not (slice_index_or marks t false) then tokens_marked ts (slice_set marks t true) else None

-- the same with the tokens of the value, if there is one, where it fits the shape that is named with it, which is in the table
abbrev pub marked_if_any : Table → Option (ℕ × Val) → List Bool → Option (List Bool)
marked_if_any table (Some (shape, v)) marks =
    if nat_lt shape (length table) && fits table shape v then tokens_marked (tokens v) marks else None
marked_if_any table None marks = Some marks

-- the same with the tokens of what a call brings
abbrev pub marked_by : Table → Call → List Bool → Option (List Bool)
marked_by table call = marked_if_any table (value_brought call)

-- the answer tells whether there are such marks, and then they were set
abbrev pub Marks : Option (List Bool) → Bool → List Bool → Type 0
Marks meant true after = meant ≡ Some after
Marks meant false after = meant ≡ None

-- this one where there are no marks, and else what comes of them
abbrev pub here_or : ℕ → (List Bool → Option ℕ) → Option (List Bool) → Option ℕ
here_or i go_on None = Some i
here_or i go_on (Some after) = go_on after

-- the first of these calls, counted from i, whose tokens can't be marked after those of the calls before it
abbrev pub first_unmarked : Table → List Bool → ℕ → List Call → Option ℕ
first_unmarked table marks i [] = None
first_unmarked table marks i (call ∷ calls) =
    here_or i (λ after. first_unmarked table after (i + 1) calls) (marked_by table call marks)
