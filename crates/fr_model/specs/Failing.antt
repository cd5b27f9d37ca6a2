-- Completing at the end of deferred mode: which places fail, each with its refusal, and the first of them.
use Rattle.std.specs.Prelude.{◌∷◌, ◌++◌, if◌then◌else◌}
use Rattle.fr_model.specs.Common.{ℕ, suc, List, [], Option, Some, None, option_or, Ordering, Field, ReflectErrorKind, DeferredRule, filled, marked_without_default, missing, deferred_rule, preset_of, Meanings, Table, def_of, field_in, PathStep, walk_order}
use Rattle.fr_model.specs.Complete.{complete, failing_child, hole_takes, lack_by, missing_child, missing_value, unless_there}
use Rattle.fr_model.specs.Paths.{step_as}
use Rattle.fr_model.specs.Places.{deferred_column, child_count}
use Rattle.fr_model.specs.Trackers.{Tracker, as_fields, as_elements, as_content, as_items, as_entries, is_conversion}
use Rattle.fr_model.specs.Tree.{Tree, hole, entered, whole, begun, Trees, no_trees, branch, for_hole, child_as, holes}

-- What one place lacks, its children being complete.

-- a field that is marked to take its shape's default, where that has none
abbrev pub unmet_by : Field → DeferredRule → Option ReflectErrorKind
unmet_by field marked_without_default = Some (ReflectErrorKind.DefaultAttrButNoDefaultImpl field.shape)
unmet_by field (filled template) = None
unmet_by field missing = None

abbrev pub unmet_mark_of : Table → ℕ → Option Field → Option ReflectErrorKind
unmet_mark_of table s (Some field) = unmet_by field (deferred_rule table s field)
unmet_mark_of table s None = None

-- child i of a place of shape s that is begun so, a hole, is marked to take a default that there isn't
abbrev pub unmet_mark : Table → ℕ → Tracker → ℕ → Option ReflectErrorKind
unmet_mark table s (as_fields selected) i = unmet_mark_of table s (field_in (def_of table s) selected i)
unmet_mark table s as_elements i = None
unmet_mark table s (as_content kind) i = None
unmet_mark table s (as_items kind) i = None
unmet_mark table s (as_entries kind) i = None

-- the first hole among the children from number i on that is marked so
abbrev pub first_unmet : Table → ℕ → Tracker → ℕ → Trees → Option ReflectErrorKind
first_unmet table s tracker i no_trees = None
first_unmet table s tracker i (branch t ts) =
    option_or (for_hole t (unmet_mark table s tracker i) None) (first_unmet table s tracker (suc i) ts)

-- the first hole among them that takes nothing
abbrev pub first_missing : Table → ℕ → Tracker → ℕ → Trees → Option ReflectErrorKind
first_missing table s tracker i no_trees = None
first_missing table s tracker i (branch t ts) =
    option_or (for_hole t (unless_there (hole_takes deferred_column table s tracker i) (missing_child s tracker i)) None)
    (first_missing table s tracker (suc i) ts)

-- the first of them whose value, or what it takes where it is a hole, doesn't pass its field's validators, or isn't converted
abbrev pub first_invalid : Meanings → Table → ℕ → Tracker → ℕ → Trees → Option ReflectErrorKind
first_invalid hooks table s tracker i no_trees = None
first_invalid hooks table s tracker i (branch t ts) =
    option_or (failing_child hooks table s tracker i (for_hole t (hole_takes deferred_column table s tracker i)
    (complete deferred_column hooks table (child_as table s tracker i) t))) (first_invalid hooks table s tracker (suc i) ts)

-- A begun place takes its fills in index order: the first hole that is marked and has no default fails it. Then the first hole
-- that is left does, and then the first field, in index order, whose validators aren't passed. What a conversion lacks is that its
-- source isn't converted.
abbrev pub lack_of_begun : Meanings → Table → ℕ → Tracker → Trees → Option ReflectErrorKind
lack_of_begun hooks table s tracker ts =
    option_or (first_unmet table s tracker 0 ts)
    (option_or (first_missing table s tracker 0 ts) (first_invalid hooks table s tracker 0 ts))

-- What a place lacks by itself. An entered struct without a default lacks what a struct of holes lacks; an entered option without
-- one, and any other entered place, its value.
abbrev pub own_lack : Meanings → Table → ℕ → Tree → Option ReflectErrorKind
own_lack hooks table s hole = Some (missing_value s)
own_lack hooks table s entered =
    lack_by (def_of table s) (preset_of table s)
    (lack_of_begun hooks table s (as_fields None) (holes (child_count table s))) (missing_value s)
own_lack hooks table s (whole v) = None
own_lack hooks table s (begun tracker ts) = lack_of_begun hooks table s tracker ts

-- Failing places

-- a place that fails, by its path, and its refusal
pub record Failure : Type 0 where
  pub path : List PathStep
  pub kind : ReflectErrorKind

abbrev pub failure_at : List PathStep → Option ReflectErrorKind → List Failure
failure_at path (Some kind) = record { path = path; kind = kind } ∷ []
failure_at path None = []

-- a place fails by itself only where nothing beneath it fails
abbrev pub or_itself : (beneath : List Failure) → (itself : List Failure) → List Failure
or_itself [] itself = itself
or_itself (failure ∷ beneath) itself = failure ∷ beneath

-- where a place at this path that is begun so fails: a conversion at its source, any other at the place itself
abbrev pub failing_path : Tracker → List PathStep → List PathStep
failing_path tracker path = if is_conversion tracker then path ++ step_as tracker 0 ∷ [] else path

-- The places that fail in what stands at this path, a place of shape s, child by child: a place fails where its children complete
-- and it doesn't. A hole isn't completed.
abbrev mutual
  pub failures : Meanings → Table → ℕ → (path : List PathStep) → Tree → List Failure
  failures hooks table s path entered = failure_at path (own_lack hooks table s entered)
  failures hooks table s path (begun tracker ts) =
      or_itself (failures_among hooks table s tracker 0 path ts)
      (failure_at (failing_path tracker path) (lack_of_begun hooks table s tracker ts))
  failures hooks table s path _ = []

  -- among the children from number i on
  pub failures_among : Meanings → Table → ℕ → Tracker → ℕ → (path : List PathStep) → Trees → List Failure
  failures_among hooks table s tracker i path no_trees = []
  failures_among hooks table s tracker i path (branch t ts) =
      failures hooks table (child_as table s tracker i) (path ++ step_as tracker i ∷ []) t
      ++ failures_among hooks table s tracker (suc i) path ts

-- The first

abbrev pub earlier_by : Ordering → (first second : Failure) → Failure
earlier_by Ordering.Less first second = first
earlier_by Ordering.Equal first second = first
earlier_by Ordering.Greater first second = second

abbrev pub earlier : Failure → Option Failure → Failure
earlier failure (Some other) = earlier_by (walk_order failure.path other.path) failure other
earlier failure None = failure

-- the one whose path comes first in the order of the walk: the longest, and of the longest the first step by step
abbrev pub first_by_walk : List Failure → Option Failure
first_by_walk [] = None
first_by_walk (failure ∷ failures) = Some (earlier failure (first_by_walk failures))
