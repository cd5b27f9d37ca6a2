-- Laws of the tree and of the steps.
use Rattle.std.specs.Prelude.{◌≡◌, ◌+◌, ◌<◌, ◌≤◌}
use Rattle.fr_model.specs.Common.{ℕ, true, not, None, List, is_none, is_some, Some, Result, Ok, Err, ReflectErrorKind, IsChecked, Meanings, is_nil, Table, Val, fits, occurs, PathStep}
use Rattle.fr_shape.specs.Hooks.{IsLawful}
use Rattle.fr_model.specs.Basis.{Call, Tree, tree_occurs, State, initial, complete, lack, failures, Column, strict_column, IsFitting, brings, Suits, IsInOrder, RestsAround, ConversionsSuit, AreDistinct, IsWell}
use Rattle.fr_model.specs.Dropping.{dropped_by_completing}
use Rattle.fr_model.specs.Finish.{closed}
use Rattle.fr_model.specs.Step.{step, build}
use Rattle.fr_model.specs.Removed.{removed, removed_at_build}

-- a place makes no value in strict mode exactly where it lacks something
abbrev pub CompletesOrLacks : Type 0
CompletesOrLacks =
    (hooks : Meanings) (table : Table) (s : ℕ) (tree : Tree)
    → is_none (complete strict_column hooks table s tree) ≡ is_some (lack hooks table s tree)

-- a place off the way can't be completed at the end of deferred mode exactly where it, or some place beneath it, fails
abbrev pub CompletesOrFails : Type 0
CompletesOrFails =
    (hooks : Meanings) (table : Table) (s : ℕ) (path : List PathStep) (tree : Tree)
    → is_none (closed hooks table s tree) ≡ not (is_nil (failures hooks table s path tree))

-- The value that a place makes by either column, over a checked table and where each node suits its shape, holds each token as
-- often as the place does, but for what is dropped: what a hole or an entered place takes brings none, nor does what a lawful hook gives.
abbrev pub CompletingKeepsTokens : Type 0
CompletingKeepsTokens =
    (column : Column) (hooks : Meanings) (table : Table) (s : ℕ) (tree : Tree) (v : Val) (t : ℕ) → IsLawful hooks → IsChecked table
    → Suits table s tree → complete column hooks table s tree ≡ Some v
    → occurs v t + dropped_by_completing column hooks table s tree t ≡ tree_occurs tree t

-- what a place makes, with lawful hooks, over a checked table and where each node suits its shape, fits its shape
abbrev pub CompletingFits : Type 0
CompletingFits =
    (column : Column) (hooks : Meanings) (table : Table) (s : ℕ) (tree : Tree) (v : Val) → IsLawful hooks → IsChecked table
    → Suits table s tree → complete column hooks table s tree ≡ Some v → fits table s v ≡ true

-- Tokens: nothing is lost and nothing doubled

-- how often a token is held after a command: in the tree; after a refusal nothing is held
abbrev pub held_after : Result State ReflectErrorKind → ℕ → ℕ
held_after (Ok next) t = tree_occurs next.tree t
held_after (Err kind) t = 0

-- With lawful hooks, what the tree held and the command brought is what is held after the command, and what it dropped.
abbrev pub StepKeepsTokens : Type 0
StepKeepsTokens =
    (hooks : Meanings) (table : Table) (root : ℕ) (state : State) (command : Call) → IsLawful hooks → IsChecked table
    → IsInOrder table root state → (t : ℕ) → tree_occurs state.tree t + brings command t
    ≡ held_after (step hooks table root state command) t + removed hooks table root state command t

-- how often a token stands in what is built, if anything is
abbrev pub built_occurs : Result Val ReflectErrorKind → ℕ → ℕ
built_occurs (Ok v) t = occurs v t
built_occurs (Err kind) t = 0

-- What the tree held is what the built value holds, and what `build` dropped.
abbrev pub BuildKeepsTokens : Type 0
BuildKeepsTokens =
    (hooks : Meanings) (table : Table) (root : ℕ) (state : State) → IsLawful hooks → IsChecked table → Suits table root state.tree → (t : ℕ)
    → tree_occurs state.tree t ≡ built_occurs (build hooks table root state) t + removed_at_build hooks table root state t

-- States stay well

-- a builder of which nothing was asked yet is in a well state
abbrev pub StartIsWell : Type 0
StartIsWell = (table : Table) (root : ℕ) → IsWell table root (initial table root)

-- with lawful hooks, an admitted command, if it is fitting, leads from a state in order to a state in order
abbrev pub StepKeepsOrder : Type 0
StepKeepsOrder =
    (hooks : Meanings) (table : Table) (root : ℕ) (state next : State) (command : Call) → IsLawful hooks → IsChecked table
    → IsInOrder table root state → IsFitting table command → step hooks table root state command ≡ Ok next → IsInOrder table root next

-- and if what lay around the cursor rested, so it does then
abbrev pub StepKeepsRest : Type 0
StepKeepsRest =
    (hooks : Meanings) (table : Table) (root : ℕ) (state next : State) (command : Call) → IsChecked table
    → IsInOrder table root state → RestsAround state.cursor state.tree → IsFitting table command
    → step hooks table root state command ≡ Ok next → RestsAround next.cursor next.tree

-- and each conversion has the hook and the source of its place's wrapper or of a proxy of its place, if each had before
abbrev pub StepKeepsConversions : Type 0
StepKeepsConversions =
    (hooks : Meanings) (table : Table) (root : ℕ) (state next : State) (command : Call) → IsLawful hooks → IsChecked table
    → IsInOrder table root state → ConversionsSuit table root None state.tree → step hooks table root state command ≡ Ok next
    → ConversionsSuit table root None next.tree

-- a command brings each token at most once, and none that the tree holds
pub record IsFresh (state : State) (command : Call) : Type 0 where
  pub distinct : (t : ℕ) → brings command t ≤ 1
  pub new : (t : ℕ) → 0 < brings command t → tree_occurs state.tree t ≡ 0

-- with lawful hooks, an admitted command, if it is fresh, leaves no token twice in the tree of a well state
abbrev pub StepKeepsDistinct : Type 0
StepKeepsDistinct =
    (hooks : Meanings) (table : Table) (root : ℕ) (state next : State) (command : Call) → IsLawful hooks → IsChecked table
    → IsWell table root state → IsFresh state command → step hooks table root state command ≡ Ok next → AreDistinct next.tree
