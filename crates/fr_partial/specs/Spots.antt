-- The calls of a shorthand that puts a value at a child.
use Rattle.std.specs.Prelude.{ℕ, List, [], ◌∷◌}
use Rattle.fr_shape.specs.Val.{Val}
use Rattle.fr_model.specs.Commands.{Call}
use Rattle.fr_partial.specs.declared.shorthands.Spot.{Spot}

-- the call that enters the child
abbrev pub begin_call : Spot → Call
begin_call (Spot.NthField i) = Call.BeginNthField i
begin_call (Spot.Field name) = Call.BeginField name.now
begin_call Spot.Key = Call.BeginKey
begin_call Spot.Value = Call.BeginValue
begin_call Spot.ListItem = Call.BeginListItem
begin_call Spot.SetItem = Call.BeginSetItem

-- a child is entered, set to a value of this shape, and left
abbrev pub set_at : (begin : Call) → (shape : ℕ) → Val → List Call
set_at begin shape v = begin ∷ Call.Set shape v ∷ Call.End ∷ []
