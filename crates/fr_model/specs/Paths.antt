-- The typed path of a place: the steps that lead to it from the root.
use Rattle.std.specs.Prelude.{◌-◌, ◌∷◌, if◌then◌else◌}
use Rattle.fr_model.specs.Common.{ℕ, List, [], PathStep}
use Rattle.fr_model.specs.Dynamics.{key_nth}
use Rattle.fr_model.specs.Places.{Place, is_key, entry_of}
use Rattle.fr_model.specs.Trackers.{Tracker, as_fields, as_elements, as_content, ContentKind, Through, as_items, ItemsKind, as_entries, EntriesKind}
use Rattle.fr_model.specs.Tree.{Tree, begun, child_tree, State}

-- the step to the source of a conversion
abbrev pub step_through : Through → PathStep
step_through Through.Wrapper = PathStep.Inner
step_through Through.Proxy = PathStep.Proxy

-- the step to child i of a place that is begun so: to a field of a struct or of a variant, to an element of an array, to the content
-- of an option or of either side of a result, to what a pointer points to, to the source of a conversion, to an item of a list, a slice or a set, to the key or the
-- value of a map's entry, whose number doesn't count its base, or to an element or an entry of a dynamic value
abbrev pub step_as : Tracker → ℕ → PathStep
step_as (as_fields selected) i = PathStep.Field i
step_as as_elements i = PathStep.Index i
step_as (as_content ContentKind.Some) i = PathStep.OptionSome
step_as (as_content ContentKind.Ok) i = PathStep.ResultOk
step_as (as_content ContentKind.Err) i = PathStep.ResultErr
step_as (as_content ContentKind.Pointer) i = PathStep.Deref
step_as (as_content (ContentKind.Source conversion)) i = step_through conversion.through
step_as (as_items ItemsKind.List) i = PathStep.Index i
step_as (as_items ItemsKind.Slice) i = PathStep.Index i
step_as (as_items ItemsKind.ClosedSlice) i = PathStep.Index i
step_as (as_items ItemsKind.Set) i = PathStep.SetItem
step_as (as_items ItemsKind.Array) i = PathStep.Index i
step_as (as_entries (EntriesKind.Object keys)) i = PathStep.Entry (key_nth keys i)
step_as (as_entries (EntriesKind.Map base)) i = if is_key i then PathStep.MapKey (entry_of i - base) else PathStep.MapValue (entry_of i - base)

-- the step to child i of what stands at a place (only a begun place has one)
abbrev pub step_below : ℕ → Tree → PathStep
step_below i (begun tracker ts) = step_as tracker i
step_below i _ = PathStep.Field i

-- the steps to the place that lies so in a tree
abbrev pub steps_in : Place → Tree → List PathStep
steps_in [] t = []
steps_in (i ∷ place) t = step_below i t ∷ steps_in place (child_tree i t)

-- the path of the place at which a builder works
abbrev pub path_of : State → List PathStep
path_of state = steps_in state.cursor state.tree
