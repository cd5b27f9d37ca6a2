-- The tokens that are dropped as places complete: those of what is left out of sets and maps, and of what conversions don't take.
use Rattle.std.specs.Prelude.{◌+◌, ◌∷◌}
use Rattle.fr_model.specs.Common.{ℕ, zero, suc, [], Option, Some, None, Meanings, Table, Vals}
use Rattle.fr_model.specs.Conversions.{taken, not_taken}
use Rattle.fr_model.specs.Basis.{complete, complete_all, left_out, Place, Column, deferred_column, Tracker, Tree, hole, begun, Trees, no_trees, branch, child_as}

abbrev pub left_out_of : Tracker → (values : Option Vals) → ℕ → ℕ
left_out_of tracker (Some vs) t = left_out tracker vs t
left_out_of tracker None t = 0

-- how often it stands in what a place of shape s, begun so, doesn't take of the values of its children, from number i on: of a source it
-- takes what that is converted to
abbrev pub not_taken_among : Column → Meanings → Table → ℕ → Tracker → ℕ → Trees → ℕ → ℕ
not_taken_among column hooks table s tracker i no_trees t = 0
not_taken_among column hooks table s tracker i (branch tree ts) t =
    not_taken (complete column hooks table (child_as table s tracker i) tree)
    (taken hooks table s tracker (complete column hooks table (child_as table s tracker i) tree)) t
    + not_taken_among column hooks table s tracker (suc i) ts t

-- How often a token is dropped as a place of shape s completes by the rules of this column: as often as by its children, as it stands
-- in what the place doesn't take of their values, and in what it leaves out of what it takes.
abbrev mutual
  pub dropped_by_completing : Column → Meanings → Table → ℕ → Tree → ℕ → ℕ
  dropped_by_completing column hooks table s (begun tracker ts) t =
      dropped_among column hooks table s tracker 0 ts t + not_taken_among column hooks table s tracker 0 ts t
      + left_out_of tracker (complete_all column hooks table s tracker 0 ts) t
  dropped_by_completing column hooks table s _ t = 0

  -- by the children from number i on, of a place of shape s that is begun so
  pub dropped_among : Column → Meanings → Table → ℕ → Tracker → ℕ → Trees → ℕ → ℕ
  dropped_among column hooks table s tracker i no_trees t = 0
  dropped_among column hooks table s tracker i (branch tree ts) t =
      dropped_by_completing column hooks table (child_as table s tracker i) tree t
      + dropped_among column hooks table s tracker (suc i) ts t

-- the same with one of them, as many further on, on the way: of that one something else is dropped
abbrev pub dropped_but : Meanings → Table → ℕ → Tracker → (on_way : ℕ) → (ℕ → Tree → ℕ → ℕ) → ℕ → Trees → ℕ → ℕ
dropped_but hooks table s tracker on_way drops i no_trees t = 0
dropped_but hooks table s tracker zero drops i (branch tree ts) t =
    drops (child_as table s tracker i) tree t + dropped_among deferred_column hooks table s tracker (suc i) ts t
dropped_but hooks table s tracker (suc on_way) drops i (branch tree ts) t =
    dropped_by_completing deferred_column hooks table (child_as table s tracker i) tree t
    + dropped_but hooks table s tracker on_way drops (suc i) ts t

-- How often a token is dropped at the end of deferred mode: as often as by the places off the way, by the children of the place at
-- which the builder works, and as it stands in what that place doesn't take of their values.
abbrev pub dropped_by_finishing : Meanings → Table → ℕ → (cursor : Place) → Tree → ℕ → ℕ
dropped_by_finishing hooks table s cursor hole t = 0
dropped_by_finishing hooks table s [] (begun tracker ts) t =
    dropped_among deferred_column hooks table s tracker 0 ts t + not_taken_among deferred_column hooks table s tracker 0 ts t
dropped_by_finishing hooks table s (i ∷ place) (begun tracker ts) t =
    dropped_but hooks table s tracker i
    (λ (shape : ℕ) (tree : Tree) (token : ℕ). dropped_by_finishing hooks table shape place tree token) 0 ts t
dropped_by_finishing hooks table s cursor _ t = 0
