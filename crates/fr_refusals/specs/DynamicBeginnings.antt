-- How a dynamic place comes to be begun as an array or an object: what of it is kept, and what it is then.
use Rattle.std.specs.Prelude.{Option, [], is_some, if◌then◌else◌}
use Rattle.fr_model.specs.DynamicPlaces.{array_anew, kept_array, kept_object, object_anew}
use Rattle.fr_model.specs.Trackers.{Tracker, as_items, ItemsKind, as_entries, EntriesKind}
use Rattle.fr_model.specs.Tree.{Tree, hole, entered, whole, begun}
use Rattle.fr_refusals.specs.declared.beginning.Beginning.{Beginning}
use Rattle.fr_refusals.specs.declared.dynamic_places.DynamicParts.{DynamicParts}

-- what is kept of what stands there
abbrev pub kept_as : DynamicParts → Tree → Option Tree
kept_as DynamicParts.Elements tree = kept_array tree
kept_as DynamicParts.Entries tree = kept_object tree

-- as what it is begun with such parts, none of which is there
abbrev pub tracker_with : DynamicParts → Tracker
tracker_with DynamicParts.Elements = as_items ItemsKind.Array
tracker_with DynamicParts.Entries = as_entries (EntriesKind.Object [])

-- where nothing is kept it has no parts
abbrev pub anew_as : DynamicParts → Tree
anew_as DynamicParts.Elements = array_anew
anew_as DynamicParts.Entries = object_anew

-- what is begun with such parts stays as it is, a whole value that has them keeps them, and anything else starts anew
abbrev pub beginning_as : DynamicParts → Tree → Beginning
beginning_as parts hole = Beginning.Anew
beginning_as parts entered = Beginning.Anew
beginning_as parts (whole v) = if is_some (kept_as parts (whole v)) then Beginning.InPlace else Beginning.Anew
beginning_as parts (begun tracker ts) = if is_some (kept_as parts (begun tracker ts)) then Beginning.AsItIs else Beginning.Anew
