-- What completing all that lies beneath the place at which a builder works owes.
use Rattle.std.specs.Prelude.{◌≡◌, ℕ, zero, suc, ◌-◌, ◌*◌, Bool, true, false, List, [], ◌∷◌, ◌++◌, length, ltb, map, Option, Some, None, if◌then◌else◌}
use Rattle.std.specs.Option.{option_map}
use Rattle.fr_shape.specs.declared.error.ReflectErrorKind.{ReflectErrorKind}
use Rattle.fr_shape.specs.Hooks.{Meanings}
use Rattle.fr_shape.specs.Look.{Table}
use Rattle.fr_path.specs.declared.path_steps.PathStep.{PathStep}
use Rattle.fr_model.specs.Collections.{is_map_tracker}
use Rattle.fr_model.specs.Complete.{complete}
use Rattle.fr_model.specs.Finish.{closed_all}
use Rattle.fr_model.specs.Places.{deferred_column, entry_of}
use Rattle.fr_model.specs.Step.{cause_by}
use Rattle.fr_model.specs.Tree.{Tree, hole, entered, whole, begun, change_at, shape_in}
use Rattle.fr_model.specs.Trackers.{is_conversion}
use Rattle.fr_plan.specs.TypePlan.{Plan}
use Rattle.fr_frame.specs.declared.places.Slot.{Slot}
use Rattle.fr_frame.specs.Bodies.{Body, entered_body, whole_body, begun_body, IsClosed}
use Rattle.fr_values.specs.Cells.{Cell, slot_in_cells}
use Rattle.fr_frame.specs.Heap.{Node}
use Rattle.fr_frame.specs.Kids.{Kid}
use Rattle.fr_store.specs.StackMoves.{cursor_in, tree_here, tree_in_slots, AtTop, IsOpenAt}
use Rattle.fr_store.specs.Stands.{kid_here}
use Rattle.fr_store.specs.Suited.{IsSuited}
use Rattle.fr_store.specs.Turns.{root_shape, CompletesAsBefore}
use Rattle.fr_store.specs.Ways.{kid_at}

-- the shape of the place at which it works
abbrev pub shape_here : Table → Plan → List Slot → List ℕ → ℕ
shape_here table plan slots stack = shape_in table (root_shape plan) (cursor_in slots stack) (tree_in_slots slots stack)

-- What becomes of a tree whose top has shape s, where everything that is there beneath the top is completed and nothing else
-- changes: the top stays as it is. Where it is begun each child becomes whole with the value that it makes by the rules of the end of
-- deferred mode, and one that isn't there stays away; a conversion becomes whole itself, as its source is converted. None where a child
-- makes no value, or the source isn't converted.
abbrev pub completed_beneath : Meanings → Table → (s : ℕ) → Tree → Option Tree
completed_beneath means table s hole = Some hole
completed_beneath means table s entered = Some entered
completed_beneath means table s (whole v) = Some (whole v)
completed_beneath means table s (begun tracker ts) =
    if is_conversion tracker then option_map whole (complete deferred_column means table s (begun tracker ts))
    else option_map (begun tracker) (closed_all means table s tracker 0 ts)

-- All that was there beneath that place is completed, and what comes of it stands there. That makes the value that was made
-- there before, or the same places fail in it, nothing beneath it is in a slot, and all else is as it was.
pub record IsCompleteBeneath (means : Meanings) (table : Table) (plan : Plan) (before : List Slot) (stack : List ℕ) (after : List Slot) : Type 0 where
  pub tree : Tree
  pub meant : completed_beneath means table (shape_here table plan before stack) (tree_here before stack) ≡ Some tree
  pub stands :
      IsOpenAt plan after stack (cursor_in before stack)
      (change_at (cursor_in before stack) (λ old. tree) (tree_in_slots before stack))
  pub as_before :
      CompletesAsBefore means table (root_shape plan) (tree_in_slots before stack) (tree_in_slots after stack)
      (cursor_in before stack)
  pub closed : AtTop after stack (λ at. IsClosed at.body)
  pub suits : IsSuited table (root_shape plan) (tree_in_slots after stack)

-- It can't come about, and this is the cause, whatever the path of that place: the first place that fails beneath it.
pub record IsHeldUpHere (means : Meanings) (table : Table) (plan : Plan) (slots : List Slot) (stack : List ℕ) (kind : ReflectErrorKind) : Type 0 where
  pub incomplete : complete deferred_column means table (shape_here table plan slots stack) (tree_here slots stack) ≡ None
  pub cause : (path : List PathStep)
      → kind ≡ cause_by deferred_column means table (shape_here table plan slots stack) path (tree_here slots stack)

-- what lies in slots at that place and beneath it
abbrev pub kid_on_top : List Slot → List ℕ → Kid
kid_on_top slots stack = kid_at (cursor_in slots stack) (kid_here slots stack)

-- The children of one place, from the last in the order of their steps to the first.

-- the number of the child that comes as the i-th: of a map the values come first, since their steps come after those of the keys
abbrev pub from_last : (of_map : Bool) → (count i : ℕ) → ℕ
from_last false count i = count - suc i
from_last true count i = if ltb i (entry_of count) then suc (2 * (entry_of count - suc i)) else 2 * (count - suc i)

abbrev pub number_if : Option ℕ → ℕ → List ℕ
number_if (Some slot) number = number ∷ []
number_if None number = []

-- the numbers of those among the first so many that are in slots
abbrev pub slotted_numbers : (of_map : Bool) → List Cell → (i : ℕ) → List ℕ
slotted_numbers of_map cells zero = []
slotted_numbers of_map cells (suc i) =
    slotted_numbers of_map cells i
    ++ number_if (slot_in_cells cells (from_last of_map (length cells) i)) (from_last of_map (length cells) i)

abbrev pub slot_if : Option ℕ → ℕ
slot_if (Some slot) = slot
slot_if None = 0

-- the slots of those
abbrev pub slotted : (of_map : Bool) → List Cell → (i : ℕ) → List ℕ
slotted of_map cells i = map (λ number. slot_if (slot_in_cells cells number)) (slotted_numbers of_map cells i)

-- of the place that was found

abbrev pub is_map_body : Body → Bool
is_map_body entered_body = false
is_map_body (whole_body v) = false
is_map_body (begun_body tracker cells) = is_map_tracker tracker

abbrev pub is_map_found : Option Node → Bool
is_map_found (Some node) = is_map_body node.body
is_map_found None = false
