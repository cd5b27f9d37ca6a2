-- One turn of the walk over stored places: what it asks for and what it owes. And all turns of it, one after another.
use Rattle.std.specs.Prelude.{◌≡◌, ◌≢◌, ℕ, Bool, true, false, List, [], ◌∷◌, ◌++◌, is_some, Some, None, if◌then◌else◌}
use Rattle.std.specs.List.{Contains}
use Rattle.fr_store.specs.Below.{Body, IsClosed, Kid, Meanings, PathStep, Place, Plan, Plot, ReflectErrorKind, Slot, Table, Tree, Val, at, begun_body, body_in, change_at, complete, deferred_column, entered_body, failures_off, finished, finished_here, gone, heap_of, is_begun_conversion, is_closed_slice, marked, own_lack, shape_in, steps_in, there, tree_at, turn_of, up, whole, whole_body, whole_plot}
use Rattle.fr_store.specs.StackMoves.{IsOpenAt, cursor_in, tree_in_slots}
pub use Rattle.fr_store.specs.Stands.{kid_here}
use Rattle.fr_store.specs.Stands.{IsOpen}
use Rattle.fr_store.specs.StayPut.{StaysPut}
use Rattle.fr_store.specs.Suited.{IsSuited}
use Rattle.fr_store.specs.Turns.{done_at, root_shape, CompletesAsBefore, KeepThoseLeft, Turned}
use Rattle.fr_store.specs.Walks.{IsStoredAt, AreInWalkOrder, IsWalk}
use Rattle.fr_store.specs.Ways.{kid_at, put_at, Reaches}

-- where the builder works, the place becomes whole at the end of deferred mode: it was only entered, or is a closed pointer to a slice
abbrev pub becomes_whole : Body → Bool
becomes_whole entered_body = true
becomes_whole (whole_body v) = false
becomes_whole (begun_body tracker cells) = is_closed_slice tracker

-- it is a place's turn: the place in this slot is stored, and nothing beneath it is in a slot
pub record MayTurn (slots : List Slot) (stack : List ℕ) (slot : ℕ) : Type 0 where
  pub place : Place
  pub plot : Plot
  pub reaches : Reaches place (kid_here slots stack)
  pub is : kid_at place (kid_here slots stack) ≡ at slot true plot
  pub closed : IsClosed (body_in plot)

-- what lies in a slot, whole with this value where it is; or the value
abbrev pub made_whole : Val → Kid → Kid
made_whole v gone = there v
made_whole v (there u) = there v
made_whole v (at slot stored plot) = at slot stored (whole_plot v)

-- what lies at the place that became whole with this value at the turn of a place: the value; or that place in its slot, where it is a
-- conversion
abbrev pub kid_done : Place → Tree → Val → Kid → Kid
kid_done place tree v k = if is_begun_conversion (tree_at (up place) tree) then made_whole v (kid_at (up place) k) else there v

-- At the turn of the place in this slot the place that is done then made a value by the rules of the end of deferred mode, and became
-- whole with it: a conversion in its own slot, any other place in the place above. The tree changed at that place alone, the builder
-- works where it did, and one slot fewer is in use.
pub record HasTurned (means : Meanings) (table : Table) (plan : Plan) (before : List Slot) (stack : List ℕ) (after : List Slot) (slot : ℕ) : Type 0 where
  pub place : Place
  pub stored : IsStoredAt (kid_here before stack) slot place
  pub value : Val
  pub meant :
      complete deferred_column means table
      (shape_in table (root_shape plan) (done_at place (tree_in_slots before stack)) (tree_in_slots before stack))
      (tree_at (done_at place (tree_in_slots before stack)) (tree_in_slots before stack)) ≡ Some value
  pub stands :
      IsOpenAt plan after stack (cursor_in before stack)
      (change_at (done_at place (tree_in_slots before stack)) (λ old. whole value) (tree_in_slots before stack))
  pub here :
      kid_here after stack
      ≡ put_at (done_at place (tree_in_slots before stack))
      (kid_done place (tree_in_slots before stack) value (kid_here before stack)) (kid_here before stack)
  pub free : heap_of after slot ≡ None
  pub others : (n : ℕ) → n ≢ slot → is_some (heap_of after n) ≡ is_some (heap_of before n)
  pub marks : (n : ℕ) → n ≢ slot → marked (heap_of after) n ≡ marked (heap_of before) n

-- A turn leaves the rest as it was: each place that is stored still completes as before, so does the one at which the builder
-- works, and so does the whole along the way there.
pub record KeepsTheRest (means : Meanings) (table : Table) (plan : Plan) (before : List Slot) (stack : List ℕ) (after : List Slot) : Type 0 where
  pub still : (slot : ℕ) (place : Place) → IsStoredAt (kid_here after stack) slot place
      → CompletesAsBefore means table (root_shape plan) (tree_in_slots before stack) (tree_in_slots after stack) place
  pub cursor :
      CompletesAsBefore means table (root_shape plan) (tree_in_slots before stack) (tree_in_slots after stack)
      (cursor_in before stack)
  pub finish :
      finished means table (root_shape plan) (cursor_in before stack) (tree_in_slots after stack)
      ≡ finished means table (root_shape plan) (cursor_in before stack) (tree_in_slots before stack)
  pub failing : (path : List PathStep)
      → failures_off means table (root_shape plan) path (cursor_in before stack) (tree_in_slots after stack)
      ≡ failures_off means table (root_shape plan) path (cursor_in before stack) (tree_in_slots before stack)

-- At the turn of the place in this slot a place makes no value, and the refusal is of what it lacks by itself: the place in the slot,
-- or the conversion whose source it is.
pub record IsLackingAt (means : Meanings) (table : Table) (plan : Plan) (slots : List Slot) (stack : List ℕ) (slot : ℕ) (kind : ReflectErrorKind) : Type 0 where
  pub place : Place
  pub stored : IsStoredAt (kid_here slots stack) slot place
  pub here : Place
  pub turn : turn_of here (tree_in_slots slots stack) ≡ place
  pub incomplete :
      complete deferred_column means table (shape_in table (root_shape plan) here (tree_in_slots slots stack))
      (tree_at here (tree_in_slots slots stack)) ≡ None
  pub lacks :
      own_lack means table (shape_in table (root_shape plan) here (tree_in_slots slots stack))
      (tree_at here (tree_in_slots slots stack)) ≡ Some kind

-- Some places of a walk had their turn, each at its own turn, and these are left: the builder works where it did, and what becomes
-- of the tree, or fails, is as at the start.
pub record Walked (means : Meanings) (table : Table) (plan : Plan) (before : List Slot) (stack : List ℕ) (now : List Slot) (walk rest : List ℕ) : Type 0 where
  pub first : IsWalk (kid_here before stack) walk
  pub still : IsOpen plan now stack
  pub cursor : cursor_in now stack ≡ cursor_in before stack
  pub suits : IsSuited table (root_shape plan) (tree_in_slots now stack)
  pub left : IsWalk (kid_here now stack) rest
  pub done : List Place
  pub split : first.places ≡ done ++ left.places
  pub turned : Turned means table (root_shape plan) (tree_in_slots before stack) done (tree_in_slots now stack)
  pub kept :
      KeepThoseLeft means table (root_shape plan) (tree_in_slots before stack) (tree_in_slots before stack) done left.places
  pub here :
      CompletesAsBefore means table (root_shape plan) (tree_in_slots before stack) (tree_in_slots now stack)
      (cursor_in before stack)
  pub path :
      steps_in (cursor_in before stack) (tree_in_slots now stack) ≡ steps_in (cursor_in before stack) (tree_in_slots before stack)
  pub finish :
      finished means table (root_shape plan) (cursor_in before stack) (tree_in_slots now stack)
      ≡ finished means table (root_shape plan) (cursor_in before stack) (tree_in_slots before stack)
  pub failing : (path : List PathStep)
      → failures_off means table (root_shape plan) path (cursor_in before stack) (tree_in_slots now stack)
      ≡ failures_off means table (root_shape plan) path (cursor_in before stack) (tree_in_slots before stack)
  pub marks : (n : ℕ) → marked (heap_of now) n ≡ true → marked (heap_of before) n ≡ true

-- The place at which the builder works was finished, and all else is as it was.
pub record FinishedHere (means : Meanings) (table : Table) (plan : Plan) (before : List Slot) (stack : List ℕ) (after : List Slot) : Type 0 where
  pub tree : Tree
  pub meant :
      finished_here means table (shape_in table (root_shape plan) (cursor_in before stack) (tree_in_slots before stack))
      (tree_at (cursor_in before stack) (tree_in_slots before stack)) ≡ Some tree
  pub stands :
      IsOpenAt plan after stack (cursor_in before stack)
      (change_at (cursor_in before stack) (λ old. tree) (tree_in_slots before stack))

-- It lacks something by itself.
abbrev pub LacksHere : Meanings → Table → Plan → List Slot → List ℕ → ReflectErrorKind → Type 0
LacksHere means table plan slots stack kind =
    own_lack means table (shape_in table (root_shape plan) (cursor_in slots stack) (tree_in_slots slots stack))
    (tree_at (cursor_in slots stack) (tree_in_slots slots stack)) ≡ Some kind

-- The end of deferred mode came about turn by turn: just the places that were stored had their turn, in the order of the walk, at
-- every turn those still to come completed as at the start, and then the place at which the builder works was finished.
pub record CameByTurns (means : Meanings) (table : Table) (plan : Plan) (before : List Slot) (stack : List ℕ) (after : List Slot) (stack_after : List ℕ) : Type 0 where
  pub done : List Place
  pub order : AreInWalkOrder (tree_in_slots before stack) done
  pub all : (slot : ℕ) (place : Place) → IsStoredAt (kid_here before stack) slot place → Contains done place
  pub each : (place : Place) → Contains done place → (slot : ℕ) × IsStoredAt (kid_here before stack) slot place
  pub tree : Tree
  pub turned : Turned means table (root_shape plan) (tree_in_slots before stack) done tree
  pub kept : KeepThoseLeft means table (root_shape plan) (tree_in_slots before stack) (tree_in_slots before stack) done []
  pub here : Tree
  pub finishes :
      finished_here means table (shape_in table (root_shape plan) (cursor_in before stack) tree)
      (tree_at (cursor_in before stack) tree) ≡ Some here
  pub last : tree_in_slots after stack_after ≡ change_at (cursor_in before stack) (λ old. here) tree

-- the first of the places that are left; the one at which the builder works if none is
abbrev pub next_place : (left : List Place) → (cursor : Place) → Place
next_place [] cursor = cursor
next_place (place ∷ places) cursor = place

-- The end of deferred mode stopped at a place: of the stored places, in the order of the walk, those before it had their turn, at
-- every turn those still to come completed as at the start, and at that turn a place then lacks this by itself.
pub record StoppedByTurns (means : Meanings) (table : Table) (plan : Plan) (before : List Slot) (stack : List ℕ) (kind : ReflectErrorKind) : Type 0 where
  pub done : List Place
  pub left : List Place
  pub order : AreInWalkOrder (tree_in_slots before stack) (done ++ left)
  pub all : (slot : ℕ) (place : Place) → IsStoredAt (kid_here before stack) slot place → Contains (done ++ left) place
  pub each : (place : Place) → Contains (done ++ left) place → (slot : ℕ) × IsStoredAt (kid_here before stack) slot place
  pub tree : Tree
  pub turned : Turned means table (root_shape plan) (tree_in_slots before stack) done tree
  pub kept : KeepThoseLeft means table (root_shape plan) (tree_in_slots before stack) (tree_in_slots before stack) done left
  pub here : Place
  pub turn : turn_of here tree ≡ next_place left (cursor_in before stack)
  pub lacks : own_lack means table (shape_in table (root_shape plan) here tree) (tree_at here tree) ≡ Some kind

-- each place on the way to the one at which the builder works stays in its slot
abbrev pub OpenStayPut : (before after : Kid) → (cursor : Place) → Type 0
OpenStayPut before after cursor = (place below : Place) → cursor ≡ place ++ below → StaysPut before after place
