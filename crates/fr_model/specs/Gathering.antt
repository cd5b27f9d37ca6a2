-- How values that come one after the other make a set or a map, and what is left out of it.
use Rattle.std.specs.Prelude.{◌+◌, ◌||◌, if◌then◌else◌}
use Rattle.fr_model.specs.Common.{ℕ, Bool, false, same, occurs, Val, Vals, Entries, no_vals, first, no_entries, entry}
use Rattle.fr_model.specs.Trackers.{Tracker, as_fields, as_elements, as_content, as_items, ItemsKind, as_entries, EntriesKind}

-- Sets

-- the value is `same` as one that is there
abbrev pub is_there : Val → (there : Vals) → Bool
is_there v no_vals = false
is_there v (first u there) = same u v || is_there v there

-- the values with one more behind them
abbrev pub and_last_val : Vals → Val → Vals
and_last_val no_vals v = first v no_vals
and_last_val (first u vs) v = first u (and_last_val vs v)

-- an item comes to those that are there, unless it is `same` as one of them
abbrev pub with_item_in : (there : Vals) → Val → Vals
with_item_in there v = if is_there v there then there else and_last_val there v

-- items come one after the other to those that are there
abbrev pub items_in : (there : Vals) → Vals → Vals
items_in there no_vals = there
items_in there (first v vs) = items_in (with_item_in there v) vs

-- how often a token stands in the items that are left out of it
abbrev pub items_left_out : (there : Vals) → Vals → ℕ → ℕ
items_left_out there no_vals t = 0
items_left_out there (first v vs) t = (if is_there v there then occurs v t else 0) + items_left_out (with_item_in there v) vs t

-- Maps

-- an entry comes to those that are there: where its key is `same` as one of theirs the old key stays and takes the new value
abbrev pub with_entry_in : (there : Entries) → (key value : Val) → Entries
with_entry_in no_entries k v = entry k v no_entries
with_entry_in (entry l w there) k v = if same l k then entry l v there else entry l w (with_entry_in there k v)

-- and the new key and the old value are left out
abbrev pub entry_leaves_out : (there : Entries) → (key : Val) → ℕ → ℕ
entry_leaves_out no_entries k t = 0
entry_leaves_out (entry l w there) k t = if same l k then occurs k t + occurs w t else entry_leaves_out there k t

-- keys and values, in turn, come one entry after the other to the entries that are there (a last key without value doesn't come)
abbrev pub entries_in : (there : Entries) → Vals → Entries
entries_in there no_vals = there
entries_in there (first k no_vals) = there
entries_in there (first k (first v vs)) = entries_in (with_entry_in there k v) vs

-- how often a token stands in what is left out of them
abbrev pub entries_left_out : (there : Entries) → Vals → ℕ → ℕ
entries_left_out there no_vals t = 0
entries_left_out there (first k no_vals) t = occurs k t
entries_left_out there (first k (first v vs)) t = entry_leaves_out there k t + entries_left_out (with_entry_in there k v) vs t

-- how often a token stands in what is left out of the value that a place begun so makes of those of its children: nothing, but of a
-- set and of a map
abbrev pub left_out : Tracker → Vals → ℕ → ℕ
left_out (as_items ItemsKind.Set) vs t = items_left_out no_vals vs t
left_out (as_entries (EntriesKind.Map base)) vs t = entries_left_out no_entries vs t
left_out (as_fields selected) vs t = 0
left_out as_elements vs t = 0
left_out (as_content kind) vs t = 0
left_out (as_items ItemsKind.List) vs t = 0
left_out (as_items ItemsKind.Slice) vs t = 0
left_out (as_items ItemsKind.ClosedSlice) vs t = 0
left_out (as_items ItemsKind.Array) vs t = 0
left_out (as_entries (EntriesKind.Object keys)) vs t = 0
