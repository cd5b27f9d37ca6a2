-- What is being built, as one tree, and the state of a builder.
use Rattle.std.specs.Prelude.{◌+◌, ◌∷◌, if◌then◌else◌}
use Rattle.fr_model.specs.Common.{ℕ, zero, suc, min, List, [], Bool, false, Option, Some, None, Def, Field, Val, Vals, product, no_vals, first, occurs, is_empty_struct, Table, def_of, field_in}
use Rattle.fr_model.specs.Trackers.{Tracker, as_fields, as_elements, as_content, ContentKind, as_items, ItemsKind, as_entries, EntriesKind, variant_of, is_conversion}
use Rattle.fr_model.specs.Dynamics.{object_keys}
use Rattle.fr_model.specs.Places.{Place, child_shape, shape_of_field, content_shape, ok_shape, err_shape, pointee_shape, item_shape, is_key, entry_shape, base_in}

-- as what a place of this definition is begun by entering a field, an element or an item
abbrev pub tracker_of : Def → Tracker
tracker_of (Def.Array t n) = as_elements
tracker_of (Def.Scalar kind) = as_fields None
tracker_of Def.Str = as_fields None
tracker_of Def.Opaque = as_fields None
tracker_of (Def.Struct struct) = as_fields None
tracker_of (Def.Enum enumeration) = as_fields None
tracker_of (Def.Option t) = as_fields None
tracker_of (Def.Result t e) = as_fields None
tracker_of (Def.List t) = as_items ItemsKind.List
tracker_of (Def.Map key item) = as_entries (EntriesKind.Map 0)
tracker_of (Def.Set t) = as_items ItemsKind.Set
tracker_of (Def.Pointer pointer) = as_fields None
tracker_of (Def.Slice t) = as_fields None
tracker_of Def.Dynamic = as_fields None
tracker_of Def.Undefined = as_fields None
tracker_of Def.Other = as_fields None

-- A place: never entered; entered, with nothing put in; holding a value; or begun, with a tree for each child.
mutual
  pub data Tree : Type 0 where
    hole : Tree
    entered : Tree
    whole : Val → Tree
    begun : Tracker → Trees → Tree

  pub data Trees : Type 0 where
    no_trees : Trees
    branch : Tree → Trees → Trees

-- the variant that is selected at a place
abbrev pub selected : Tree → Option ℕ
selected (begun tracker children) = variant_of tracker
selected _ = None

-- as what a place that holds a value is begun: a map over the entries of the value, a dynamic object under the keys that it has
abbrev pub over_base : Tracker → Val → Tracker
over_base (as_entries (EntriesKind.Map base)) v = as_entries (EntriesKind.Map (base_in v))
over_base (as_fields selected) v = as_fields selected
over_base as_elements v = as_elements
over_base (as_content kind) v = as_content kind
over_base (as_items kind) v = as_items kind
over_base (as_entries (EntriesKind.Object keys)) v = as_entries (EntriesKind.Object (object_keys v))

-- as what a place of this definition is begun once a part of it is entered: a begun one stays what it is
abbrev pub tracker_at : Def → Tree → Tracker
tracker_at def hole = tracker_of def
tracker_at def entered = tracker_of def
tracker_at def (whole v) = over_base (tracker_of def) v
tracker_at def (begun tracker children) = tracker

-- the first of two for a hole, the second for anything else
abbrev pub for_hole : {T : Type 0} → Tree → (of_hole of_other : T) → T
for_hole hole of_hole of_other = of_hole
for_hole _ of_hole of_other = of_other

-- the tree of this number (a hole past the end)
abbrev pub tree_nth : ℕ → Trees → Tree
tree_nth i no_trees = hole
tree_nth zero (branch t ts) = t
tree_nth (suc i) (branch t ts) = tree_nth i ts

-- the trees with the one of this number changed
abbrev pub change_nth : ℕ → (Tree → Tree) → Trees → Trees
change_nth i change no_trees = no_trees
change_nth zero change (branch t ts) = branch (change t) ts
change_nth (suc i) change (branch t ts) = branch t (change_nth i change ts)

abbrev pub child_tree : ℕ → Tree → Tree
child_tree i hole = hole
child_tree i (begun tracker ts) = tree_nth i ts
child_tree i _ = hole

-- the tree that stands at a place
abbrev pub tree_at : Place → Tree → Tree
tree_at [] t = t
tree_at (i ∷ place) t = tree_at place (child_tree i t)

abbrev pub change_child : ℕ → (Tree → Tree) → Tree → Tree
change_child i change (begun tracker ts) = begun tracker (change_nth i change ts)
change_child i change other = other

-- the tree with what stands at a place changed
abbrev pub change_at : Place → (Tree → Tree) → Tree → Tree
change_at [] change t = change t
change_at (i ∷ place) change t = change_child i (λ child. change_at place change child) t

-- the shape of child i of a place of shape s that is begun so
abbrev pub child_as : Table → ℕ → Tracker → ℕ → ℕ
child_as table s (as_fields None) i = child_shape table s i
child_as table s as_elements i = child_shape table s i
child_as table s (as_fields (Some k)) i = shape_of_field (field_in (def_of table s) (Some k) i)
child_as table s (as_content ContentKind.Some) i = content_shape (def_of table s)
child_as table s (as_content ContentKind.Ok) i = ok_shape (def_of table s)
child_as table s (as_content ContentKind.Err) i = err_shape (def_of table s)
child_as table s (as_content ContentKind.Pointer) i = pointee_shape (def_of table s)
child_as table s (as_content (ContentKind.Source conversion)) i = conversion.source
child_as table s (as_items ItemsKind.List) i = item_shape (def_of table s)
child_as table s (as_items ItemsKind.Slice) i = item_shape (def_of table (pointee_shape (def_of table s)))
child_as table s (as_items ItemsKind.ClosedSlice) i = item_shape (def_of table (pointee_shape (def_of table s)))
child_as table s (as_items ItemsKind.Set) i = item_shape (def_of table s)
child_as table s (as_entries (EntriesKind.Map base)) i = entry_shape (def_of table s) (is_key i)
child_as table s (as_items ItemsKind.Array) i = s
child_as table s (as_entries (EntriesKind.Object keys)) i = s

-- the shapes of so many of its children, number i first
abbrev pub shapes_from : Table → ℕ → Tracker → (count i : ℕ) → List ℕ
shapes_from table s tracker zero i = []
shapes_from table s tracker (suc count) i = child_as table s tracker i ∷ shapes_from table s tracker count (suc i)

-- the shapes of all its children, of which there are so many
abbrev pub shapes_as : Table → ℕ → Tracker → (count : ℕ) → List ℕ
shapes_as table s tracker count = shapes_from table s tracker count 0

abbrev pub shape_below : Table → ℕ → ℕ → Tree → ℕ
shape_below table s i (begun tracker ts) = child_as table s tracker i
shape_below table s i _ = s

-- the shape of the place that lies so in a tree whose top has shape s
abbrev pub shape_in : Table → ℕ → Place → Tree → ℕ
shape_in table s [] t = s
shape_in table s (i ∷ place) t = shape_in table (shape_below table s i t) place (child_tree i t)

-- the field that child i is, of a place of this definition that is begun so
abbrev pub field_as : Def → Tracker → ℕ → Option Field
field_as def (as_fields selected) i = field_in def selected i
field_as def as_elements i = None
field_as def (as_content kind) i = None
field_as def (as_items kind) i = None
field_as def (as_entries kind) i = None

abbrev pub field_below : Def → ℕ → Tree → Option Field
field_below def i (begun tracker ts) = field_as def tracker i
field_below def i _ = None

-- the field that the place is that lies so in a tree whose top has shape s and is this field, if they are one
abbrev pub field_along : Table → ℕ → Option Field → Place → Tree → Option Field
field_along table s field [] t = field
field_along table s field (i ∷ place) t =
    field_along table (shape_below table s i t) (field_below (def_of table s) i t) place (child_tree i t)

-- what is begun here is a conversion
abbrev pub is_begun_conversion : Tree → Bool
is_begun_conversion (begun tracker children) = is_conversion tracker
is_begun_conversion _ = false

-- as many trees as values, each holding its value
abbrev pub wholes : Vals → Trees
wholes no_vals = no_trees
wholes (first v vs) = branch (whole v) (wholes vs)

-- so many holes
abbrev pub holes : ℕ → Trees
holes zero = no_trees
holes (suc n) = branch hole (holes n)

abbrev pub count_trees : Trees → ℕ
count_trees no_trees = zero
count_trees (branch t ts) = suc (count_trees ts)

-- the trees with one more behind them
abbrev pub and_last : Trees → Tree → Trees
and_last no_trees last = branch last no_trees
and_last (branch t ts) last = branch t (and_last ts last)

-- how many children a place has, as far as it is begun
abbrev pub count_below : Tree → ℕ
count_below (begun tracker ts) = count_trees ts
count_below _ = 0

-- how often a token stands in a tree: in all its values together
abbrev mutual
  pub tree_occurs : Tree → ℕ → ℕ
  tree_occurs (whole v) t = occurs v t
  tree_occurs (begun tracker ts) t = trees_occur ts t
  tree_occurs _ t = 0

  pub trees_occur : Trees → ℕ → ℕ
  trees_occur no_trees t = 0
  trees_occur (branch tree ts) t = tree_occurs tree t + trees_occur ts t

-- the count of calls stands still here
abbrev pub most_calls : ℕ
most_calls = 4294967295

-- How a builder works: in strict mode, where a place is completed as it is left; or in deferred mode, where it is left as it
-- is, since the place at which the builder worked lay so deep.
pub data Mode : Type 0 where
  strict : Mode
  deferred : (start : ℕ) → Mode

-- A builder's state: the tree, the place at which it works, its mode, and how many of its calls have succeeded.
pub record State : Type 0 where
  pub tree : Tree
  pub cursor : Place
  pub mode : Mode
  pub calls : ℕ

-- the shape of the place at the cursor, the root having shape `root`
abbrev pub cursor_shape : Table → (root : ℕ) → State → ℕ
cursor_shape table root state = shape_in table root state.cursor state.tree

-- what stands at the cursor
abbrev pub cursor_tree : State → Tree
cursor_tree state = tree_at state.cursor state.tree

-- the field that the cursor's place is, if the last step leads to one
abbrev pub cursor_field : Table → (root : ℕ) → State → Option Field
cursor_field table root state = field_along table root None state.cursor state.tree

abbrev pub one_more_call : ℕ → ℕ
one_more_call calls = min (calls + 1) most_calls

-- A place of this definition that is just entered: a struct without fields is whole with the empty product, as there is
-- nothing to put in; at any other nothing was put in yet.
abbrev pub fresh : Def → Tree
fresh def = if is_empty_struct def then whole (product no_vals) else entered

-- what stands at a place of this definition, which starts anew where it is begun as a conversion
abbrev pub without_source : Def → Tree → Tree
without_source def tree = if is_begun_conversion tree then fresh def else tree

-- a builder of which nothing was asked yet, for a root of shape s
abbrev pub initial : Table → ℕ → State
initial table s = record { tree = fresh (def_of table s); cursor = []; mode = strict; calls = 0 }
