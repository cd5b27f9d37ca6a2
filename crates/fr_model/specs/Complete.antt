-- Completing a place: the value that it makes by the rules of either column, and what it lacks first in strict mode. What fails at
-- the end of deferred mode is said in Failing.
use Rattle.std.specs.Prelude.{◌∷◌, if◌then◌else◌}
use Rattle.fr_model.specs.Common.{ℕ, zero, suc, List, [], Option, Some, None, option_map, option_or, Def, Field, ValidatorDef, ReflectErrorKind, preset_of, Meanings, Table, def_of, field_in, Val, Vals, product, variant, none, some, ok, err, list_of, map_of, set_of, ptr, dyn, no_vals, no_entries, dyn_array, dyn_object, passes_at, message}
use Rattle.fr_model.specs.Conversions.{failing_source, taken}
use Rattle.fr_model.specs.Dynamics.{dynamics_in, members_in}
use Rattle.fr_model.specs.Gathering.{items_in, entries_in}
use Rattle.fr_model.specs.Places.{Column, strict_column, child_count, vals_nth, one_more, each_child, fill_in, fill_at}
use Rattle.fr_model.specs.Trackers.{Tracker, as_fields, as_elements, as_content, ContentKind, as_items, ItemsKind, as_entries, EntriesKind}
use Rattle.fr_model.specs.Tree.{Tree, hole, entered, whole, begun, Trees, no_trees, branch, for_hole, child_as}

-- the refusals, of field i of a struct of shape s, or of the variant that is selected at an enum of shape s

abbrev pub missing_field : ℕ → (selected : Option ℕ) → ℕ → ReflectErrorKind
missing_field s selected i = ReflectErrorKind.UninitializedField (record { shape = record { 0 = s }; variant = selected; index = i })

abbrev pub missing_value : ℕ → ReflectErrorKind
missing_value s = ReflectErrorKind.UninitializedValue (record { 0 = s })

abbrev pub invalid_field : ℕ → (selected : Option ℕ) → ℕ → List ℕ → ReflectErrorKind
invalid_field s selected i text =
    ReflectErrorKind.ValidationFailed (record { shape = record { 0 = s }; variant = selected; index = i }) text

abbrev pub unless_there : Option Val → ReflectErrorKind → Option ReflectErrorKind
unless_there (Some v) kind = None
unless_there None kind = Some kind

-- validators of a field's value

-- the first validator, in their order, that the value doesn't pass, as a refusal of field i
abbrev pub first_failing : Meanings → Def → ℕ → (selected : Option ℕ) → ℕ → List ValidatorDef → Val → Option ReflectErrorKind
first_failing hooks def s selected i [] v = None
first_failing hooks def s selected i (validator ∷ validators) v =
    if passes_at hooks.check def validator v then first_failing hooks def s selected i validators v
    else Some (invalid_field s selected i (message validator v))

abbrev pub failing_field : Meanings → Table → ℕ → (selected : Option ℕ) → ℕ → Option Field → Option Val → Option ReflectErrorKind
failing_field hooks table s selected i (Some field) (Some v) =
    first_failing hooks (def_of table field.shape.0) s selected i field.validators v
failing_field hooks table s selected i (Some field) None = None
failing_field hooks table s selected i None value = None

-- the same of the field that a struct, or the selected variant, has under this number
abbrev pub failing_field_in : Meanings → Table → ℕ → (selected : Option ℕ) → ℕ → Option Val → Option ReflectErrorKind
failing_field_in hooks table s selected i value = failing_field hooks table s selected i (field_in (def_of table s) selected i) value

-- of child i of a place of shape s that is begun so, why its value, if it has one, isn't taken: the first validator that it doesn't
-- pass, which only fields have; and of a source that it isn't converted
abbrev pub failing_child : Meanings → Table → ℕ → Tracker → ℕ → Option Val → Option ReflectErrorKind
failing_child hooks table s (as_fields selected) i value = failing_field_in hooks table s selected i value
failing_child hooks table s as_elements i value = None
failing_child hooks table s (as_content (ContentKind.Source conversion)) i value = failing_source hooks table s conversion value
failing_child hooks table s (as_content ContentKind.Some) i value = None
failing_child hooks table s (as_content ContentKind.Ok) i value = None
failing_child hooks table s (as_content ContentKind.Err) i value = None
failing_child hooks table s (as_content ContentKind.Pointer) i value = None
failing_child hooks table s (as_items kind) i value = None
failing_child hooks table s (as_entries kind) i value = None

-- the value, unless there is something to refuse
abbrev pub unless_failing : Option ReflectErrorKind → Option Val → Option Val
unless_failing (Some kind) value = None
unless_failing None value = value

-- what is taken of a child's value, where nothing is to refuse
abbrev pub valid_child : Meanings → Table → ℕ → Tracker → ℕ → Option Val → Option Val
valid_child hooks table s tracker i value =
    unless_failing (failing_child hooks table s tracker i value) (taken hooks table s tracker value)

-- what a hole takes as child i of a place of shape s that is begun so: a field its fill, if it has one; anything else nothing
abbrev pub hole_takes : Column → Table → ℕ → Tracker → ℕ → Option Val
hole_takes column table s (as_fields selected) i = fill_in column table s selected i
hole_takes column table s as_elements i = None
hole_takes column table s (as_content kind) i = None
hole_takes column table s (as_items kind) i = None
hole_takes column table s (as_entries kind) i = None

-- what a begun place lacks where child i is a hole that takes nothing: a struct or a variant that field, any other its value
abbrev pub missing_child : ℕ → Tracker → ℕ → ReflectErrorKind
missing_child s (as_fields selected) i = missing_field s selected i
missing_child s as_elements i = missing_value s
missing_child s (as_content kind) i = missing_value s
missing_child s (as_items kind) i = missing_value s
missing_child s (as_entries kind) i = missing_value s

-- the value that a place begun so makes of what it takes of its children's: their product, their variant, the one value held so, that
-- to which a source was converted, their list, the pointer to it, the set or map that they make one after the other, or the dynamic array or object
abbrev pub value_as : Tracker → Vals → Val
value_as (as_fields None) vs = product vs
value_as as_elements vs = product vs
value_as (as_fields (Some k)) vs = variant k vs
value_as (as_content ContentKind.Some) vs = some (vals_nth vs 0)
value_as (as_content ContentKind.Ok) vs = ok (vals_nth vs 0)
value_as (as_content ContentKind.Err) vs = err (vals_nth vs 0)
value_as (as_content ContentKind.Pointer) vs = ptr (vals_nth vs 0)
value_as (as_content (ContentKind.Source conversion)) vs = vals_nth vs 0
value_as (as_items ItemsKind.List) vs = list_of vs
value_as (as_items ItemsKind.Slice) vs = ptr (list_of vs)
value_as (as_items ItemsKind.ClosedSlice) vs = ptr (list_of vs)
value_as (as_items ItemsKind.Set) vs = set_of (items_in no_vals vs)
value_as (as_entries (EntriesKind.Map base)) vs = map_of (entries_in no_entries vs)
value_as (as_items ItemsKind.Array) vs = dyn (dyn_array (dynamics_in vs))
value_as (as_entries (EntriesKind.Object keys)) vs = dyn (dyn_object (members_in keys vs))

-- the same, where each child has a value
abbrev pub made : Tracker → (values : Option Vals) → Option Val
made tracker values = option_map (value_as tracker) values

-- The value of an entered place

-- of a struct whose fields are all holes
abbrev pub made_of_fills : Column → Meanings → Table → ℕ → Option Val
made_of_fills column hooks table s =
    made (as_fields None)
    (each_child (λ i. valid_child hooks table s (as_fields None) i (fill_at column table s i)) (child_count table s) 0)

abbrev pub none_if_preset : Option Val → Option Val
none_if_preset (Some v) = Some none
none_if_preset None = None

abbrev pub made_by : Def → (preset of_fills : Option Val) → Option Val
made_by (Def.Struct struct) preset of_fills = option_or preset of_fills
made_by (Def.Option t) preset of_fills = none_if_preset preset
made_by (Def.Scalar kind) preset of_fills = None
made_by Def.Str preset of_fills = None
made_by Def.Opaque preset of_fills = None
made_by (Def.Enum enumeration) preset of_fills = None
made_by (Def.Result t e) preset of_fills = None
made_by (Def.List t) preset of_fills = None
made_by (Def.Map key item) preset of_fills = None
made_by (Def.Set t) preset of_fills = None
made_by (Def.Array t n) preset of_fills = None
made_by (Def.Pointer pointer) preset of_fills = None
made_by (Def.Slice t) preset of_fills = None
made_by Def.Dynamic preset of_fills = None
made_by Def.Undefined preset of_fills = None
made_by Def.Other preset of_fills = None

-- A struct with a default makes that, and no validator is asked; without one, what a struct of holes makes. An option
-- with a default makes `None`. Anything else makes nothing.
abbrev pub made_of_entered : Column → Meanings → Table → ℕ → Option Val
made_of_entered column hooks table s = made_by (def_of table s) (preset_of table s) (made_of_fills column hooks table s)

-- The value that a place of shape s makes: a whole place its own; an entered place as above; a begun place what is
-- made, as it is begun, of its children's, of which a hole takes its fill, where each makes one that passes its validators, or is
-- converted. A hole by itself makes none.
abbrev mutual
  pub complete : Column → Meanings → Table → ℕ → Tree → Option Val
  complete column hooks table s hole = None
  complete column hooks table s entered = made_of_entered column hooks table s
  complete column hooks table s (whole v) = Some v
  complete column hooks table s (begun tracker ts) = made tracker (complete_all column hooks table s tracker 0 ts)

  pub complete_all : Column → Meanings → Table → ℕ → Tracker → ℕ → Trees → Option Vals
  complete_all column hooks table s tracker i no_trees = Some no_vals
  complete_all column hooks table s tracker i (branch t ts) =
      one_more (valid_child hooks table s tracker i
      (for_hole t (hole_takes column table s tracker i) (complete column hooks table (child_as table s tracker i) t)))
      (complete_all column hooks table s tracker (suc i) ts)

-- What is lacking in strict mode

-- of child i, a hole: its fill, or that the fill passes its validators
abbrev pub lack_of_hole : Meanings → Table → ℕ → Tracker → ℕ → Option ReflectErrorKind
lack_of_hole hooks table s tracker i =
    option_or (unless_there (hole_takes strict_column table s tracker i) (missing_child s tracker i))
    (failing_child hooks table s tracker i (hole_takes strict_column table s tracker i))

-- of so many children from number i on, all of them holes
abbrev pub lack_of_holes : Meanings → Table → ℕ → Tracker → (count i : ℕ) → Option ReflectErrorKind
lack_of_holes hooks table s tracker zero i = None
lack_of_holes hooks table s tracker (suc count) i =
    option_or (lack_of_hole hooks table s tracker i) (lack_of_holes hooks table s tracker count (suc i))

abbrev pub unless_default : Option Val → Option ReflectErrorKind → Option ReflectErrorKind
unless_default (Some v) lacking = None
unless_default None lacking = lacking

abbrev pub lack_by : Def → (preset : Option Val) → (of_holes : Option ReflectErrorKind) → (missing : ReflectErrorKind) → Option ReflectErrorKind
lack_by (Def.Struct struct) preset of_holes missing = unless_default preset of_holes
lack_by (Def.Option t) preset of_holes missing = unless_there preset missing
lack_by (Def.Scalar kind) preset of_holes missing = Some missing
lack_by Def.Str preset of_holes missing = Some missing
lack_by Def.Opaque preset of_holes missing = Some missing
lack_by (Def.Enum enumeration) preset of_holes missing = Some missing
lack_by (Def.Result t e) preset of_holes missing = Some missing
lack_by (Def.List t) preset of_holes missing = Some missing
lack_by (Def.Map key item) preset of_holes missing = Some missing
lack_by (Def.Set t) preset of_holes missing = Some missing
lack_by (Def.Array t n) preset of_holes missing = Some missing
lack_by (Def.Pointer pointer) preset of_holes missing = Some missing
lack_by (Def.Slice t) preset of_holes missing = Some missing
lack_by Def.Dynamic preset of_holes missing = Some missing
lack_by Def.Undefined preset of_holes missing = Some missing
lack_by Def.Other preset of_holes missing = Some missing

-- of an entered place: of a struct without a default what a struct of holes lacks; of an option without one, and of
-- anything else, its value
abbrev pub lack_of_entered : Meanings → Table → ℕ → Option ReflectErrorKind
lack_of_entered hooks table s =
    lack_by (def_of table s) (preset_of table s) (lack_of_holes hooks table s (as_fields None) (child_count table s) 0) (missing_value s)

-- What a place of shape s lacks, if anything. A begun place is taken child by child in index order: a hole has to have a
-- fill, any other child must lack nothing itself, and then the value has to pass its field's validators in their order, or to be
-- converted.
abbrev mutual
  pub lack : Meanings → Table → ℕ → Tree → Option ReflectErrorKind
  lack hooks table s hole = Some (missing_value s)
  lack hooks table s entered = lack_of_entered hooks table s
  lack hooks table s (whole v) = None
  lack hooks table s (begun tracker ts) = lack_among hooks table s tracker 0 ts

  pub lack_among : Meanings → Table → ℕ → Tracker → ℕ → Trees → Option ReflectErrorKind
  lack_among hooks table s tracker i no_trees = None
  lack_among hooks table s tracker i (branch t ts) =
      for_hole t (option_or (lack_of_hole hooks table s tracker i) (lack_among hooks table s tracker (suc i) ts))
      (option_or (lack hooks table (child_as table s tracker i) t)
      (option_or (failing_child hooks table s tracker i (complete strict_column hooks table (child_as table s tracker i) t))
      (lack_among hooks table s tracker (suc i) ts)))
