-- The walk over stored places at the end of deferred mode, turn by turn, and what comes of it.
use Rattle.std.specs.Prelude.{◌≡◌, ℕ, List, [], ◌∷◌, ◌++◌, Some, None, if◌then◌else◌}
use Rattle.std.specs.List.{All}
use Rattle.fr_store.specs.Below.{Meanings, PathStep, Place, Plan, ReflectErrorKind, Slot, Table, Tree, Val, change_at, complete, deferred_column, failures, finish_cause, finished, is_begun_conversion, shape_in, shape_of, tree_at, up, whole}
use Rattle.fr_store.specs.StackMoves.{IsOpenAt, cursor_in, tree_in_slots}

-- the place that becomes whole at the turn of this one: itself, but where it is the source of a conversion the place above
abbrev pub done_at : Place → Tree → Place
done_at place tree = if is_begun_conversion (tree_at (up place) tree) then up place else place

-- The places that had their turn: at each turn the place that is done then made a value by the rules of the end of deferred mode, and
-- became whole with it.
abbrev pub Turned : Meanings → Table → ℕ → (before : Tree) → List Place → (after : Tree) → Type 0
Turned means table s before [] after = after ≡ before
Turned means table s before (place ∷ places) after =
    (v : Val)
    × (complete deferred_column means table (shape_in table s (done_at place before) before) (tree_at (done_at place before) before)
    ≡ Some v) × Turned means table s (change_at (done_at place before) (λ old. whole v) before) places after

-- What stands at a place makes the same value as before, or the same places fail in it.
pub record CompletesAsBefore (means : Meanings) (table : Table) (s : ℕ) (before after : Tree) (place : Place) : Type 0 where
  pub value :
      complete deferred_column means table (shape_in table s place after) (tree_at place after)
      ≡ complete deferred_column means table (shape_in table s place before) (tree_at place before)
  pub failing : (path : List PathStep) → failures means table (shape_in table s place after) path (tree_at place after)
      ≡ failures means table (shape_in table s place before) path (tree_at place before)

-- Of the places whose turn is still to come each completes as at the start: at every one of these turns, and after the last of them.
abbrev pub KeepThoseLeft : Meanings → Table → ℕ → (start before : Tree) → (done left : List Place) → Type 0
KeepThoseLeft means table s start before [] left = All (CompletesAsBefore means table s start before) left
KeepThoseLeft means table s start before (place ∷ places) left =
    All (CompletesAsBefore means table s start before) (place ∷ places ++ left)
    × ((v : Val)
    → complete deferred_column means table (shape_in table s (done_at place before) before) (tree_at (done_at place before) before)
    ≡ Some v → KeepThoseLeft means table s start (change_at (done_at place before) (λ old. whole v) before) places left)

-- the root's shape, by the plan
abbrev pub root_shape : Plan → ℕ
root_shape plan = shape_of plan plan.root

-- The end of deferred mode came about: slots and stack stand for the tree that it makes, at the same place.
pub record IsFinished (means : Meanings) (table : Table) (plan : Plan) (slots : List Slot) (stack : List ℕ) (after : List Slot) (stack_after : List ℕ) : Type 0 where
  pub tree : Tree
  pub meant : finished means table (root_shape plan) (cursor_in slots stack) (tree_in_slots slots stack) ≡ Some tree
  pub stands : IsOpenAt plan after stack_after (cursor_in slots stack) tree

-- It can't come about, and this is the cause: the first place that fails.
pub record IsHeldUp (means : Meanings) (table : Table) (plan : Plan) (slots : List Slot) (stack : List ℕ) (kind : ReflectErrorKind) : Type 0 where
  pub unfinished : finished means table (root_shape plan) (cursor_in slots stack) (tree_in_slots slots stack) ≡ None
  pub cause : kind ≡ finish_cause means table (root_shape plan) (cursor_in slots stack) (tree_in_slots slots stack)
