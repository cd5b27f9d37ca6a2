-- How a place is entered: each way on to one of its children, what becomes of the place, and where the cursor goes.
use Rattle.std.specs.Prelude.{◌∷◌, ◌++◌}
use Rattle.fr_model.specs.Common.{ℕ, [], List, Option, Some, None, option_map, unwrap_or, Def, Table, def_of, Val, Vals, no_vals, first}
use Rattle.fr_model.specs.Basis.{with_key, content_anew, entry_number, with_entry, count_children, parts_of, items_of, set_items_of, entries_of, Tracker, as_fields, as_elements, as_content, ContentKind, as_items, ItemsKind, as_entries, EntriesKind, tracker_of, tracker_at, over_base, Tree, hole, entered, whole, begun, for_hole, wholes, holes, fresh, child_as, count_below, change_child, change_at, State, cursor_tree, one_more_call, without_source}
use Rattle.fr_model.specs.Contents.{content_of}
use Rattle.fr_model.specs.Dynamics.{dynamic_in, elements_in, element_vals, members_of_object, member_vals}
use Rattle.fr_model.specs.Items.{with_item}

-- A child as it is

-- a whole place begun with whole children, if its value has any
abbrev pub opened_value : Tracker → Val → (parts : Option Vals) → Tree
opened_value tracker v (Some vs) = begun (over_base tracker v) (wholes vs)
opened_value tracker v None = whole v

-- the values of the children that a value has at a place that is to be begun so: a struct's or an array's of its parts, an option's of
-- what it holds, a list's, a set's or a dynamic array's of its items, a map's or a dynamic object's of its entries
abbrev pub parts_as : Tracker → Val → Option Vals
parts_as (as_fields None) v = parts_of v
parts_as as_elements v = parts_of v
parts_as (as_items ItemsKind.List) v = items_of v
parts_as (as_fields (Some k)) v = None
parts_as (as_content ContentKind.Some) v = option_map (λ (held : Val). first held no_vals) (content_of v)
parts_as (as_content ContentKind.Ok) v = None
parts_as (as_content ContentKind.Err) v = None
parts_as (as_content ContentKind.Pointer) v = None
parts_as (as_content (ContentKind.Source conversion)) v = None
parts_as (as_items ItemsKind.Slice) v = None
parts_as (as_items ItemsKind.ClosedSlice) v = None
parts_as (as_items ItemsKind.Set) v = set_items_of v
parts_as (as_entries (EntriesKind.Map base)) v = entries_of v
parts_as (as_items ItemsKind.Array) v = option_map element_vals (elements_in (dynamic_in v))
parts_as (as_entries (EntriesKind.Object keys)) v = option_map member_vals (members_of_object (dynamic_in v))

-- a place that is to be begun so, with so many children, as they see it: an entered one has a hole for each, a whole one
-- is begun with whole children, a begun one stays as it is
abbrev pub opened_as : Tracker → (count : ℕ) → Tree → Tree
opened_as tracker count hole = hole
opened_as tracker count entered = begun tracker (holes count)
opened_as tracker count (whole v) = opened_value tracker v (parts_as tracker v)
opened_as tracker count (begun made children) = begun made children

-- the same, as the place's definition tells
abbrev pub opened : Def → Tree → Tree
opened def tree = opened_as (tracker_of def) (count_children def) tree

-- a child of this definition that is entered: a hole is now fresh, anything else stays as it is
abbrev pub enter : Def → Tree → Tree
enter def tree = for_hole tree (fresh def) tree

-- the place of shape s with its child i entered
abbrev pub enter_child : Table → ℕ → ℕ → Tree → Tree
enter_child table s i t =
    change_child i (enter (def_of table (child_as table s (tracker_at (def_of table s) t) i))) (opened (def_of table s) t)

-- The ways

-- The ways on from a place to one of its children: to the child of this number, where a hole is just entered and anything else stays as
-- it is (a place that is begun as a conversion has no such child, and starts anew first); to that child of a place that starts anew first,
-- whatever it is; to a new item, behind the others; to the key of a new entry of a map; to the value, of this number, that the last entry lacks;
-- to the entry of this key of a dynamic object; to the one child of a place that is begun so around it, of which this is kept.
pub data Way : Type 0 where
  Child : ℕ → Way
  Anew : ℕ → Way
  Item : Way
  Key : Way
  Value : ℕ → Way
  Entry : (key : List ℕ) → Way
  Content : Tracker → (kept : Option Tree) → Way

-- the number of the child to which a way leads on from this tree
abbrev pub number_on : Way → Tree → ℕ
number_on (Way.Child i) tree = i
number_on (Way.Anew i) tree = i
number_on Way.Item tree = count_below tree
number_on Way.Key tree = count_below tree
number_on (Way.Value i) tree = i
number_on (Way.Entry key) tree = entry_number key tree
number_on (Way.Content tracker kept) tree = 0

-- the place of shape s with the child on this way entered
abbrev pub entered_on : Table → (s : ℕ) → Way → Tree → Tree
entered_on table s (Way.Child i) = λ old. enter_child table s i (without_source (def_of table s) old)
entered_on table s (Way.Anew i) = λ old. enter_child table s i (fresh (def_of table s))
entered_on table s Way.Item = with_item table s
entered_on table s Way.Key = with_key table s
entered_on table s (Way.Value i) = enter_child table s i
entered_on table s (Way.Entry key) = with_entry table s key
entered_on table s (Way.Content tracker kept) = λ old. unwrap_or kept (content_anew table s tracker)

-- the child on this way from the cursor's place, of shape s, is entered, and the cursor goes there
abbrev pub enters : Table → (s : ℕ) → State → Way → State
enters table s state way = record state {
  tree = change_at state.cursor (entered_on table s way) state.tree;
  cursor = state.cursor ++ number_on way (cursor_tree state) ∷ [];
  calls = one_more_call state.calls;
}
