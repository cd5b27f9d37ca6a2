-- Which places fail at the end of deferred mode, and what that end is once nothing is left.
use Rattle.std.specs.Prelude.{◌≡◌, ◌⊎◌, ◌∷◌, ◌++◌, if◌then◌else◌}
use Rattle.fr_model.specs.Common.{ℕ, true, false, List, [], is_none, is_some, Some, Contains, option_map, option_or, Ordering, ReflectErrorKind, Meanings, Table, PathStep, walk_order}
use Rattle.fr_model.specs.Basis.{Failure, failures, failures_among, first_by_walk, is_begun_conversion, own_lack, steps_in, Place, Mode, strict, Tree, entered, begun, child_tree, tree_at, change_at, shape_below, shape_in, Leads}
use Rattle.fr_model.specs.Finish.{closed, finished, finished_here, failures_off, kind_of}
use Rattle.fr_model.specs.DueNotes.{IsOffTheWay}
use Rattle.fr_model.specs.Relation.{HasPlace}
use Rattle.fr_model.specs.Well.{AllOff}

-- a place is neither a hole nor whole
abbrev pub IsHalfDone : Tree → Type 0
IsHalfDone entered = Unit {0}
IsHalfDone (begun tracker children) = Unit {0}
IsHalfDone _ = ⊥

-- The places are completed one by one, each at its turn: a conversion at that of its source, any other place at its own.
abbrev pub turn_of : Place → Tree → Place
turn_of here tree = if is_begun_conversion (tree_at here tree) then here ++ 0 ∷ [] else here

-- its turn comes before that of the place at which the builder works: it lies off the way, or is that place and a conversion
abbrev pub HasATurn : (cursor here : Place) → Tree → Type 0
HasATurn cursor here tree = IsOffTheWay cursor here ⊎ ((cursor ≡ here) × (is_begun_conversion (tree_at here tree) ≡ true))

-- a failure is that of a place of the tree that has a turn and is half done, and is told at that turn
pub record LiesThere (path : List PathStep) (cursor : Place) (tree : Tree) (failure : Failure) : Type 0 where
  pub here : Place
  pub place : HasPlace here tree
  pub off : HasATurn cursor here tree
  pub half : IsHalfDone (tree_at here tree)
  pub at : failure.path ≡ path ++ steps_in (turn_of here tree) tree

abbrev pub FailuresLieThere : Type 0
FailuresLieThere =
    (hooks : Meanings) (table : Table) (s : ℕ) (path : List PathStep) (cursor : Place) (tree : Tree) (failure : Failure)
    → Contains (failures_off hooks table s path cursor tree) failure → LiesThere path cursor tree failure

-- each child of what is begun here is whole or a hole
abbrev pub ChildrenAreOff : Tree → Type 0
ChildrenAreOff (begun tracker ts) = AllOff strict ts
ChildrenAreOff _ = Unit {0}

-- a half done place that has a turn, and whose children are whole or holes, fails with what it lacks by itself
abbrev pub LackingFails : Type 0
LackingFails =
    (hooks : Meanings) (table : Table) (s : ℕ) (path : List PathStep) (mode : Mode) (cursor here : Place) (tree : Tree)
    (kind : ReflectErrorKind) → Leads mode cursor tree → HasPlace here tree → HasATurn cursor here tree
    → IsHalfDone (tree_at here tree) → ChildrenAreOff (tree_at here tree)
    → own_lack hooks table (shape_in table s here tree) (tree_at here tree) ≡ Some kind
    → Contains (failures_off hooks table s path cursor tree) (record { path = path ++ steps_in (turn_of here tree) tree; kind = kind })

-- each child of a place of shape s completes at the end of deferred mode, or is a hole, as is one that the place hasn't
abbrev pub ChildrenClose : Meanings → Table → ℕ → Tree → Type 0
ChildrenClose hooks table s tree = (i : ℕ) → is_none (closed hooks table (shape_below table s i tree) (child_tree i tree)) ≡ false

-- what fails among the children of a place
abbrev pub failures_beneath : Meanings → Table → ℕ → (path : List PathStep) → Tree → List Failure
failures_beneath hooks table s path (begun tracker ts) = failures_among hooks table s tracker 0 path ts
failures_beneath hooks table s path _ = []

-- A failure of a tree that stands at this path is that of one of its places, half done, and the failure's path leads to where that has
-- its turn. The place lacks the failure's kind by itself: its children close, and nothing fails among them.
pub record FailsAt (hooks : Meanings) (table : Table) (s : ℕ) (path : List PathStep) (tree : Tree) (failure : Failure) : Type 0 where
  pub here : Place
  pub place : HasPlace here tree
  pub half : IsHalfDone (tree_at here tree)
  pub at : failure.path ≡ path ++ steps_in (turn_of here tree) tree
  pub lacks : own_lack hooks table (shape_in table s here tree) (tree_at here tree) ≡ Some failure.kind
  pub children : ChildrenClose hooks table (shape_in table s here tree) (tree_at here tree)
  pub beneath : failures_beneath hooks table (shape_in table s here tree) (path ++ steps_in here tree) (tree_at here tree) ≡ []

-- a failure of a tree that stands at this path is that of one of its places, which has a turn
pub record FailsOff (hooks : Meanings) (table : Table) (s : ℕ) (path : List PathStep) (cursor : Place) (tree : Tree) (failure : Failure) : Type 0 where
  pub fails : FailsAt hooks table s path tree failure
  pub off : HasATurn cursor fails.here tree

-- each failure off the way has its place there
abbrev pub EachFailureHasItsPlace : Type 0
EachFailureHasItsPlace =
    (hooks : Meanings) (table : Table) (s : ℕ) (path : List PathStep) (cursor : Place) (tree : Tree) (failure : Failure)
    → Contains (failures_off hooks table s path cursor tree) failure → FailsOff hooks table s path cursor tree failure

-- and so has each failure of a tree that lies off the way as a whole
abbrev pub EachFailureOfATreeHasItsPlace : Type 0
EachFailureOfATreeHasItsPlace =
    (hooks : Meanings) (table : Table) (s : ℕ) (path : List PathStep) (tree : Tree) (failure : Failure)
    → Contains (failures hooks table s path tree) failure → FailsAt hooks table s path tree failure

-- the failure with which one starts is the first of some, or comes before the other
abbrev pub IsOrAfter : Failure → Failure → Type 0
IsOrAfter first other = (other ≡ first) ⊎ (walk_order first.path other.path ≡ Ordering.Less)

-- one of some failures that all others come after in the order of the walk is the first of them
abbrev pub FirstByWalkIs : Type 0
FirstByWalkIs =
    (failures : List Failure) (first : Failure) → Contains failures first
    → ((other : Failure) → Contains failures other → IsOrAfter first other) → first_by_walk failures ≡ Some first

-- deferred mode can't end exactly where a place off the way fails, or that at which the builder works lacks something
abbrev pub FinishesOrRefuses : Type 0
FinishesOrRefuses =
    (hooks : Meanings) (table : Table) (s : ℕ) (path : List PathStep) (mode : Mode) (cursor : Place) (tree : Tree)
    → Leads mode cursor tree → is_none (finished hooks table s cursor tree)
    ≡ is_some (option_or (kind_of (first_by_walk (failures_off hooks table s path cursor tree)))
    (own_lack hooks table (shape_in table s cursor tree) (tree_at cursor tree)))

-- where every place off the way is whole or a hole, none of them fails
abbrev pub NothingFailsOfDone : Type 0
NothingFailsOfDone =
    (hooks : Meanings) (table : Table) (s : ℕ) (path : List PathStep) (cursor : Place) (tree : Tree)
    → Leads strict cursor tree → failures_off hooks table s path cursor tree ≡ []

-- and only the place at which the builder works is still to be finished
abbrev pub FinishOfDone : Type 0
FinishOfDone =
    (hooks : Meanings) (table : Table) (s : ℕ) (cursor : Place) (tree : Tree) → Leads strict cursor tree
    → finished hooks table s cursor tree ≡ option_map (λ (here : Tree). change_at cursor (λ old. here) tree)
    (finished_here hooks table (shape_in table s cursor tree) (tree_at cursor tree))
