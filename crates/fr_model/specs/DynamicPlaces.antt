-- Dynamic values as places: as what one is begun, why an entry can't be begun, and what it adds.
use Rattle.std.specs.Prelude.{◌∷◌, ◌++◌, if◌then◌else◌}
use Rattle.fr_model.specs.Common.{ℕ, suc, length, Bool, true, false, List, [], Option, Some, None, option_map, bytes_eq, Def, Operation, Table, def_of, Dynamics, Members}
use Rattle.fr_model.specs.Dynamics.{dynamic_in, elements_in, members_of_object, element_vals, member_vals, member_keys}
use Rattle.fr_model.specs.Trackers.{Tracker, as_items, ItemsKind, as_entries, EntriesKind, keys_of_tracker}
use Rattle.fr_model.specs.Tree.{Tree, whole, begun, Trees, no_trees, wholes, and_last, child_as, count_trees, fresh}

-- an element or an entry of what is begun so is completed as it ends
abbrev pub is_dynamic_tracker : Tracker → Bool
is_dynamic_tracker (as_items ItemsKind.Array) = true
is_dynamic_tracker (as_entries (EntriesKind.Object keys)) = true
is_dynamic_tracker _ = false

abbrev pub is_begun_dynamic : Tree → Bool
is_begun_dynamic (begun tracker children) = is_dynamic_tracker tracker
is_begun_dynamic _ = false

-- Arrays and objects

abbrev pub array_of : Dynamics → Tree
array_of ds = begun (as_items ItemsKind.Array) (wholes (element_vals ds))

abbrev pub object_of : Members → Tree
object_of ms = begun (as_entries (EntriesKind.Object (member_keys ms))) (wholes (member_vals ms))

abbrev pub array_anew : Tree
array_anew = begun (as_items ItemsKind.Array) no_trees

abbrev pub object_anew : Tree
object_anew = begun (as_entries (EntriesKind.Object [])) no_trees

abbrev pub begun_array : Tracker → Trees → Option Tree
begun_array (as_items ItemsKind.Array) children = Some (begun (as_items ItemsKind.Array) children)
begun_array _ children = None

-- what is kept of a dynamic place that is to be begun as an array: the elements of one that is there
abbrev pub kept_array : Tree → Option Tree
kept_array (whole v) = option_map array_of (elements_in (dynamic_in v))
kept_array (begun tracker children) = begun_array tracker children
kept_array _ = None

abbrev pub begun_object : Tracker → Trees → Option Tree
begun_object (as_entries (EntriesKind.Object keys)) children = Some (begun (as_entries (EntriesKind.Object keys)) children)
begun_object _ children = None

-- and of one that is to be begun as an object, the entries
abbrev pub kept_object : Tree → Option Tree
kept_object (whole v) = option_map object_of (members_of_object (dynamic_in v))
kept_object (begun tracker children) = begun_object tracker children
kept_object _ = None

-- Entries

abbrev pub is_object_tracker : Tracker → Bool
is_object_tracker (as_entries (EntriesKind.Object keys)) = true
is_object_tracker _ = false

abbrev pub is_begun_object : Tree → Bool
is_begun_object (begun tracker children) = is_object_tracker tracker
is_begun_object _ = false

-- an entry is begun at a dynamic value that is begun as an object
abbrev pub entry_refusal : Def → Tree → Option Operation
entry_refusal Def.Dynamic tree = if is_begun_object tree then None else Some Operation.EntryBeforeInitMap
entry_refusal _ tree = Some Operation.EntryOfOther

-- the keys of what is begun as an object
abbrev pub keys_here : Tree → List (List ℕ)
keys_here (begun tracker children) = keys_of_tracker tracker
keys_here _ = []

-- the number of the entry that has the key
abbrev pub entry_found : (key : List ℕ) → (keys : List (List ℕ)) → Option ℕ
entry_found key [] = None
entry_found key (other ∷ keys) = if bytes_eq key other then Some 0 else option_map suc (entry_found key keys)

-- the number of the entry that has the key, or of a new last one
abbrev pub number_or_last : Option ℕ → (count : ℕ) → ℕ
number_or_last (Some i) count = i
number_or_last None count = count

abbrev pub entry_number : (key : List ℕ) → Tree → ℕ
entry_number key tree = number_or_last (entry_found key (keys_here tree)) (length (keys_here tree))

abbrev pub and_entry : Table → ℕ → (key : List ℕ) → Tracker → Trees → Option ℕ → Tree
and_entry table s key tracker children (Some i) = begun tracker children
and_entry table s key tracker children None =
    begun (as_entries (EntriesKind.Object (keys_of_tracker tracker ++ key ∷ [])))
    (and_last children (fresh (def_of table (child_as table s tracker (count_trees children)))))

-- the object of shape s with an entry of this key: it stays as it is where there is one, and gets a new last one, just entered, where
-- there is none
abbrev pub with_entry : Table → ℕ → (key : List ℕ) → Tree → Tree
with_entry table s key (begun tracker children) = and_entry table s key tracker children (entry_found key (keys_of_tracker tracker))
with_entry table s key other = other
