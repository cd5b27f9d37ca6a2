-- Sets and maps as places: why one can't be begun, why an item, a key or a value can't, and what they add.
use Rattle.std.specs.Prelude.{◌||◌, ◌∷◌, if◌then◌else◌}
use Rattle.fr_model.specs.Common.{ℕ, zero, suc, Bool, true, false, [], Option, Some, None, Def, Operation, Table, def_of, same, Val}
use Rattle.fr_model.specs.Places.{Place}
use Rattle.fr_model.specs.Trackers.{Tracker, as_items, ItemsKind, as_entries, EntriesKind}
use Rattle.fr_model.specs.Tree.{Tree, hole, whole, begun, Trees, no_trees, branch, for_hole, count_trees, and_last, child_as, fresh}

-- Beginning a map or a set

-- a map is begun as one, and a dynamic value; any other definition is refused so
abbrev pub unless_map : Operation → Def → Option Operation
unless_map refusal (Def.Map key item) = None
unless_map refusal Def.Dynamic = None
unless_map refusal _ = Some refusal

-- a set alone
abbrev pub unless_set : Operation → Def → Option Operation
unless_set refusal (Def.Set t) = None
unless_set refusal _ = Some refusal

-- a place begun so is a map or a dynamic value: a map may be begun there
abbrev pub is_map_like : Tracker → Bool
is_map_like (as_entries kind) = true
is_map_like (as_items ItemsKind.Array) = true
is_map_like _ = false

abbrev pub is_map_tracker : Tracker → Bool
is_map_tracker (as_entries (EntriesKind.Map base)) = true
is_map_tracker _ = false

abbrev pub is_set_tracker : Tracker → Bool
is_set_tracker (as_items ItemsKind.Set) = true
is_set_tracker _ = false

abbrev pub is_map : Tree → Bool
is_map (begun tracker children) = is_map_tracker tracker
is_map _ = false

abbrev pub is_set : Tree → Bool
is_set (begun tracker children) = is_set_tracker tracker
is_set _ = false

-- Keys and values

abbrev pub is_hole : Tree → Bool
is_hole tree = for_hole tree true false

-- the last child, of all that a begun place has, is a hole: of a map's last entry the value
abbrev pub ends_in_hole : Trees → Bool
ends_in_hole no_trees = false
ends_in_hole (branch t no_trees) = is_hole t
ends_in_hole (branch t (branch u ts)) = ends_in_hole (branch u ts)

abbrev pub lacks_value : Tree → Bool
lacks_value (begun tracker children) = ends_in_hole children
lacks_value _ = false

-- a key is begun at a begun map alone, and not where the last entry still lacks its value
abbrev pub key_refusal : Tree → Option Operation
key_refusal tree =
    if is_map tree then (if lacks_value tree then Some Operation.KeyBeforeValue else None) else Some Operation.KeyBeforeInitMap

-- a value is begun where a begun map's last entry lacks it
abbrev pub value_refusal : Tree → Option Operation
value_refusal tree =
    if is_map tree then (if lacks_value tree then None else Some Operation.ValueBeforeKey) else Some Operation.ValueBeforeKey

-- the map of shape s with a new entry behind the others, whose key is just entered
abbrev pub with_key : Table → ℕ → Tree → Tree
with_key table s (begun tracker children) =
    begun tracker (and_last (and_last children (fresh (def_of table (child_as table s tracker (count_trees children))))) hole)
with_key table s other = other

-- the number of the last of so many
abbrev pub last_of : ℕ → ℕ
last_of zero = zero
last_of (suc n) = n

-- Items of a set

-- an item is begun at a begun set alone
abbrev pub set_item_refusal : Def → Tree → Option Operation
set_item_refusal (Def.Set t) tree = if is_set tree then None else Some Operation.SetItemBeforeInitSet
set_item_refusal _ tree = Some Operation.SetItemOfOther

-- what stands here is a value `same` as this one
abbrev pub is_same_value : Val → Tree → Bool
is_same_value v (whole u) = same u v
is_same_value v _ = false

abbrev pub has_same : Val → Trees → Bool
has_same v no_trees = false
has_same v (branch t ts) = is_same_value v t || has_same v ts

-- the trees but the one of this number
abbrev pub without_nth : ℕ → Trees → Trees
without_nth i no_trees = no_trees
without_nth zero (branch t ts) = ts
without_nth (suc i) (branch t ts) = branch t (without_nth i ts)

-- a value comes behind the items that a set has, unless it is `same` as one of them
abbrev pub and_item : Trees → Val → Trees
and_item items v = if has_same v items then items else and_last items (whole v)

-- the set whose item number i has ended with this value
abbrev pub with_ended_item : ℕ → Val → Tree → Tree
with_ended_item i v (begun tracker children) = begun tracker (and_item (without_nth i children) v)
with_ended_item i v other = other

-- the value is left out of it
abbrev pub leaves_item_out : ℕ → Val → Tree → Bool
leaves_item_out i v (begun tracker children) = has_same v (without_nth i children)
leaves_item_out i v _ = false

-- the number of a place among the children of the place above it (the root's is 0)
abbrev pub number_in : Place → ℕ
number_in [] = 0
number_in (i ∷ []) = i
number_in (i ∷ j ∷ place) = number_in (j ∷ place)
