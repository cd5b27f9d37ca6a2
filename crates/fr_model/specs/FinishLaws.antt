-- What closing a place beneath the others leaves as it is: a walk over the places of deferred mode may close them one by one.
use Rattle.std.specs.Prelude.{◌≡◌, ◌≢◌}
use Rattle.fr_model.specs.Common.{ℕ, List, Some, Meanings, Table, Val, PathStep}
use Rattle.fr_model.specs.Basis.{complete, failures, Place, deferred_column, Tree, hole, whole, tree_at, change_at, shape_in}
use Rattle.fr_model.specs.Finish.{finished, failures_off}
use Rattle.fr_model.specs.FailingLaws.{HasATurn}
use Rattle.fr_model.specs.Relation.{HasPlace}

-- at this place of a tree stands no hole, and it makes this value at the end of deferred mode
pub record Closes (hooks : Meanings) (table : Table) (s : ℕ) (here : Place) (v : Val) (tree : Tree) : Type 0 where
  pub place : HasPlace here tree
  pub there : tree_at here tree ≢ hole
  pub makes : complete deferred_column hooks table (shape_in table s here tree) (tree_at here tree) ≡ Some v

-- the tree with that place whole
abbrev pub closed_at : Place → Val → Tree → Tree
closed_at here v tree = change_at here (λ old. whole v) tree

-- the tree makes the same value
abbrev pub ClosingKeepsCompletion : Type 0
ClosingKeepsCompletion =
    (hooks : Meanings) (table : Table) (s : ℕ) (here : Place) (v : Val) (tree : Tree) → Closes hooks table s here v tree
    → complete deferred_column hooks table s (closed_at here v tree) ≡ complete deferred_column hooks table s tree

-- the same places fail in it
abbrev pub ClosingKeepsFailures : Type 0
ClosingKeepsFailures =
    (hooks : Meanings) (table : Table) (s : ℕ) (path : List PathStep) (here : Place) (v : Val) (tree : Tree)
    → Closes hooks table s here v tree → failures hooks table s path (closed_at here v tree) ≡ failures hooks table s path tree

-- where the place has a turn, the same becomes of the tree at the end of deferred mode
abbrev pub ClosingKeepsFinish : Type 0
ClosingKeepsFinish =
    (hooks : Meanings) (table : Table) (s : ℕ) (cursor here : Place) (v : Val) (tree : Tree)
    → Closes hooks table s here v tree → HasATurn cursor here tree
    → finished hooks table s cursor (closed_at here v tree) ≡ finished hooks table s cursor tree

-- and the same places off the way fail
abbrev pub ClosingKeepsFailuresOff : Type 0
ClosingKeepsFailuresOff =
    (hooks : Meanings) (table : Table) (s : ℕ) (path : List PathStep) (cursor here : Place) (v : Val) (tree : Tree)
    → Closes hooks table s here v tree → HasATurn cursor here tree
    → failures_off hooks table s path cursor (closed_at here v tree) ≡ failures_off hooks table s path cursor tree
