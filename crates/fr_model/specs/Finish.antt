-- The end of deferred mode, along the way to the place at which a builder works.
use Rattle.std.specs.Prelude.{◌∷◌, ◌++◌, ◌||◌, if◌then◌else◌}
use Rattle.fr_model.specs.Common.{ℕ, zero, suc, Bool, true, false, List, [], Option, Some, None, option_map, option_or, ReflectErrorKind, Meanings, Table, Vals, PathStep}
use Rattle.fr_model.specs.Basis.{complete, complete_all, missing_value, value_as, Failure, failures, failures_among, first_by_walk, own_lack, step_as, Place, deferred_column, Tracker, as_items, ItemsKind, is_conversion, Tree, hole, entered, whole, begun, Trees, no_trees, branch, for_hole, child_as, shape_in, tree_at, wholes}

-- What becomes of the tree.

-- a place off the way is completed; a hole isn't
abbrev pub closed : Meanings → Table → ℕ → Tree → Option Tree
closed hooks table s t = for_hole t (Some hole) (option_map whole (complete deferred_column hooks table s t))

-- a tree and the ones after it, where all are there
abbrev pub one_more_tree : Option Tree → Option Trees → Option Trees
one_more_tree (Some t) (Some ts) = Some (branch t ts)
one_more_tree (Some t) None = None
one_more_tree None ts = None

-- the children from number i on, of a place of shape s that is begun so, each of them off the way
abbrev pub closed_all : Meanings → Table → ℕ → Tracker → ℕ → Trees → Option Trees
closed_all hooks table s tracker i no_trees = Some no_trees
closed_all hooks table s tracker i (branch t ts) =
    one_more_tree (closed hooks table (child_as table s tracker i) t) (closed_all hooks table s tracker (suc i) ts)

-- the same with one of them, as many further on, on the way: of that one something else becomes
abbrev pub closed_but : Meanings → Table → ℕ → Tracker → (on_way : ℕ) → (ℕ → Tree → Option Tree) → ℕ → Trees → Option Trees
closed_but hooks table s tracker on_way becomes i no_trees = Some no_trees
closed_but hooks table s tracker zero becomes i (branch t ts) =
    one_more_tree (becomes (child_as table s tracker i) t) (closed_all hooks table s tracker (suc i) ts)
closed_but hooks table s tracker (suc on_way) becomes i (branch t ts) =
    one_more_tree (closed hooks table (child_as table s tracker i) t) (closed_but hooks table s tracker on_way becomes (suc i) ts)

abbrev pub is_closed_slice : Tracker → Bool
is_closed_slice (as_items ItemsKind.ClosedSlice) = true
is_closed_slice _ = false

-- a place that is begun so becomes whole, though the builder works there: a pointer to a slice that is closed, and a conversion, whose
-- source is converted as it completes
abbrev pub is_made_whole : Tracker → Bool
is_made_whole tracker = is_closed_slice tracker || is_conversion tracker

-- any other place at which the builder works, begun, keeps its children apart: each of them, and each hole its fill, is now whole
abbrev pub begun_with : Tracker → Vals → Tree
begun_with tracker vs = if is_made_whole tracker then whole (value_as tracker vs) else begun tracker (wholes vs)

-- The place at which the builder works: where it is begun its children are completed, its holes are filled, its fields'
-- validators are passed, and it stays begun, but a closed pointer to a slice or a conversion; an entered one becomes whole with the
-- value that it makes.
abbrev pub finished_here : Meanings → Table → ℕ → Tree → Option Tree
finished_here hooks table s hole = Some hole
finished_here hooks table s entered = option_map whole (complete deferred_column hooks table s entered)
finished_here hooks table s (whole v) = Some (whole v)
finished_here hooks table s (begun tracker ts) = option_map (begun_with tracker) (complete_all deferred_column hooks table s tracker 0 ts)

-- Each place that is neither that place nor above it is completed; the places above it stay begun. None where one of them
-- makes no value.
abbrev pub finished : Meanings → Table → ℕ → (cursor : Place) → Tree → Option Tree
finished hooks table s [] t = finished_here hooks table s t
finished hooks table s (i ∷ place) hole = Some hole
finished hooks table s (i ∷ place) entered = Some entered
finished hooks table s (i ∷ place) (whole v) = Some (whole v)
finished hooks table s (i ∷ place) (begun tracker ts) =
    option_map (begun tracker) (closed_but hooks table s tracker i (λ (shape : ℕ) (t : Tree). finished hooks table shape place t) 0 ts)

-- What fails.

-- among the children from number i on, of which one, as many further on, lies on the way
abbrev pub failures_but : Meanings → Table → ℕ → Tracker → (on_way : ℕ) → (ℕ → List PathStep → Tree → List Failure) → ℕ → (path : List PathStep) → Trees → List Failure
failures_but hooks table s tracker on_way below i path no_trees = []
failures_but hooks table s tracker zero below i path (branch t ts) =
    below (child_as table s tracker i) (path ++ step_as tracker i ∷ []) t ++ failures_among hooks table s tracker (suc i) path ts
failures_but hooks table s tracker (suc on_way) below i path (branch t ts) =
    failures hooks table (child_as table s tracker i) (path ++ step_as tracker i ∷ []) t
    ++ failures_but hooks table s tracker on_way below (suc i) path ts

-- Of the place at which the builder works the children are off the way: what fails among them; and of a conversion also that its source
-- isn't converted, which fails at the source.
abbrev pub failures_here : Meanings → Table → ℕ → (path : List PathStep) → Tracker → Trees → List Failure
failures_here hooks table s path tracker ts =
    if is_conversion tracker then failures hooks table s path (begun tracker ts) else failures_among hooks table s tracker 0 path ts

-- the failing places that are neither the one at which the builder works nor above it
abbrev pub failures_off : Meanings → Table → ℕ → (path : List PathStep) → (cursor : Place) → Tree → List Failure
failures_off hooks table s path cursor hole = []
failures_off hooks table s path [] (begun tracker ts) = failures_here hooks table s path tracker ts
failures_off hooks table s path (i ∷ place) (begun tracker ts) =
    failures_but hooks table s tracker i
    (λ (shape : ℕ) (to : List PathStep) (t : Tree). failures_off hooks table shape to place t) 0 path ts
failures_off hooks table s path cursor _ = []

abbrev pub kind_of : Option Failure → Option ReflectErrorKind
kind_of (Some failure) = Some failure.kind
kind_of None = None

abbrev pub refusal_or : Option ReflectErrorKind → ReflectErrorKind → ReflectErrorKind
refusal_or (Some kind) otherwise = kind
refusal_or None otherwise = otherwise

-- why deferred mode can't end: the first failing place off the way; else what the place at which the builder works lacks
abbrev pub finish_cause : Meanings → Table → (root : ℕ) → (cursor : Place) → Tree → ReflectErrorKind
finish_cause hooks table root cursor tree =
    refusal_or (option_or (kind_of (first_by_walk (failures_off hooks table root [] cursor tree)))
    (own_lack hooks table (shape_in table root cursor tree) (tree_at cursor tree))) (missing_value (shape_in table root cursor tree))
