-- What was put at a place, and what becomes of it where a child is entered or leaves.
use Rattle.std.specs.Prelude.{◌≡◌, ℕ, Bool, true, false, ◌||◌, List, [], ◌∷◌, ◌++◌, length, replicate, slice_get, slice_set, Option, Some, None, IsSome, nat_eq, if◌then◌else◌}
use Rattle.fr_shape.specs.declared.shape.Def.{Def}
use Rattle.fr_shape.specs.Fills.{is_empty_struct}
use Rattle.fr_shape.specs.Same.{keys, none_twice}
use Rattle.fr_shape.specs.Tokens.{occurs}
use Rattle.fr_shape.specs.Val.{Val, Vals, unit, product, some, ok, err, list_of, map_of, set_of, ptr, no_vals}
use Rattle.fr_model.specs.Complete.{made}
use Rattle.fr_model.specs.DynamicPlaces.{is_object_tracker, entry_found, number_or_last}
use Rattle.fr_model.specs.Places.{vals_nth}
use Rattle.fr_model.specs.Step.{parts_as}
use Rattle.fr_model.specs.Trackers.{Tracker, as_fields, as_elements, as_content, ContentKind, as_items, ItemsKind, as_entries, EntriesKind, is_conversion, keys_of_tracker}
use Rattle.fr_model.specs.Tree.{over_base, Tree, hole, entered, whole, begun, Trees, no_trees, branch}
use Rattle.fr_values.specs.Cells.{Cell, absent, given, placed, cells_occur, values_of, cells_of_vals, without_cell, and_item_cell}

-- a place: entered, with nothing put in; holding a value; or begun, with its children
pub data Body : Type 0 where
  entered_body : Body
  whole_body : Val → Body
  begun_body : Tracker → List Cell → Body

abbrev pub body_occurs : Body → ℕ → ℕ
body_occurs entered_body t = 0
body_occurs (whole_body v) t = occurs v t
body_occurs (begun_body tracker cells) t = cells_occur cells t

-- a place of this definition that is just entered: a struct without fields is whole, as there is nothing to put in
abbrev pub fresh_body : Def → Body
fresh_body def = if is_empty_struct def then whole_body (product no_vals) else entered_body

-- One child.

-- child number i, where the place is begun and has it
abbrev pub cell_at : Body → ℕ → Option Cell
cell_at entered_body i = None
cell_at (whole_body v) i = None
cell_at (begun_body tracker cells) i = slice_get cells i

-- the place with another child of this number, where it has one
abbrev pub with_cell : Body → ℕ → Cell → Body
with_cell entered_body i child = entered_body
with_cell (whole_body v) i child = whole_body v
with_cell (begun_body tracker cells) i child = begun_body tracker (slice_set cells i child)

-- Entering a child that will be in slot n.

-- what is put at the child's place: what its parent holds of it, and else nothing
abbrev pub taken_over : Def → Option Cell → Body
taken_over def (Some absent) = fresh_body def
taken_over def (Some (given v)) = whole_body v
taken_over def (Some (placed m)) = fresh_body def
taken_over def None = fresh_body def

-- the parent: a child that has no slot yet now stands in slot n
abbrev pub linked_by : (n : ℕ) → ℕ → Body → Option Cell → Body
linked_by n i body (Some absent) = with_cell body i (placed n)
linked_by n i body (Some (given v)) = with_cell body i (placed n)
linked_by n i body (Some (placed m)) = body
linked_by n i body None = body

abbrev pub linked : (n : ℕ) → ℕ → Body → Body
linked n i body = linked_by n i body (cell_at body i)

-- A child that leaves slot n: where its parent has it there, it now isn't there.
abbrev pub unlinked_by : (n : ℕ) → ℕ → Body → Option Cell → Body
unlinked_by n i body (Some (placed m)) = if nat_eq m n then with_cell body i absent else body
unlinked_by n i body (Some absent) = body
unlinked_by n i body (Some (given v)) = body
unlinked_by n i body None = body

abbrev pub unlinked : (n : ℕ) → ℕ → Body → Body
unlinked n i body = unlinked_by n i body (cell_at body i)

-- Beginning a place.

abbrev pub opened_by : Tracker → Val → (parts : Option Vals) → Body
opened_by tracker v (Some vs) = begun_body (over_base tracker v) (cells_of_vals vs)
opened_by tracker v None = whole_body v

-- a place that is begun so, with so many children: an entered one has none of them yet, of a whole one each has its part of the value
-- (what an option holds; the items of a list, a set or a dynamic array; keys and values in turn of a map, which are its base; the values
-- of an object, under its keys), a begun one stays as it is
abbrev pub opened : Tracker → (count : ℕ) → Body → Body
opened tracker count entered_body = begun_body tracker (replicate count absent)
opened tracker count (whole_body v) = opened_by tracker v (parts_as tracker v)
opened tracker count (begun_body as_before cells) = begun_body as_before cells

-- no two items of a set are `same`, and no two keys of a map
abbrev pub HoldsNothingTwice : Val → Type 0
HoldsNothingTwice (set_of vs) = none_twice vs ≡ true
HoldsNothingTwice (map_of es) = none_twice (keys es) ≡ true
HoldsNothingTwice _ = Unit {0}

-- a whole place is begun so only where its value has parts for that, and holds nothing twice
abbrev pub MayOpen : Tracker → Body → Type 0
MayOpen tracker entered_body = Unit {0}
MayOpen tracker (whole_body v) = IsSome (parts_as tracker v) × HoldsNothingTwice v
MayOpen tracker (begun_body as_before cells) = Unit {0}

-- a place that is begun so, with so many children, none of which is there, whatever was there before
abbrev pub restarted : Tracker → (count : ℕ) → Body → Body
restarted tracker count before = begun_body tracker (replicate count absent)

-- Items.

-- the place is begun as what takes more items: a list, a set, a dynamic array, or an open pointer to a slice
abbrev pub TakesItems : Tracker → Type 0
TakesItems (as_items ItemsKind.List) = Unit {0}
TakesItems (as_items ItemsKind.Slice) = Unit {0}
TakesItems (as_items ItemsKind.ClosedSlice) = ⊥
TakesItems (as_fields selected) = ⊥
TakesItems as_elements = ⊥
TakesItems (as_content kind) = ⊥
TakesItems (as_items ItemsKind.Set) = Unit {0}
TakesItems (as_entries kind) = ⊥
TakesItems (as_items ItemsKind.Array) = Unit {0}

abbrev pub IsGrowing : Body → Type 0
IsGrowing entered_body = ⊥
IsGrowing (whole_body v) = ⊥
IsGrowing (begun_body tracker cells) = TakesItems tracker

-- a begun place with one more child behind the others, which isn't there yet; any other place stays as it is
abbrev pub added : Body → Body
added entered_body = entered_body
added (whole_body v) = whole_body v
added (begun_body tracker cells) = begun_body tracker (cells ++ absent ∷ [])

-- a begun map with one more entry behind the others, of which neither key nor value is there yet; any other place stays as it is
abbrev pub added_entry : Body → Body
added_entry entered_body = entered_body
added_entry (whole_body v) = whole_body v
added_entry (begun_body tracker cells) = begun_body tracker (cells ++ absent ∷ absent ∷ [])

-- the place is begun as a map
abbrev pub IsMapBody : Body → Type 0
IsMapBody entered_body = ⊥
IsMapBody (whole_body v) = ⊥
IsMapBody (begun_body tracker cells) = (base : ℕ) × (tracker ≡ as_entries (EntriesKind.Map base))

-- The end of a set's item.

-- a begun place whose child number i ended with this value: it goes, and the value comes unless it is there already
abbrev pub with_ended : ℕ → Val → Body → Body
with_ended i v entered_body = entered_body
with_ended i v (whole_body u) = whole_body u
with_ended i v (begun_body tracker cells) = begun_body tracker (and_item_cell (without_cell i cells) v)

-- the place is begun as a set
abbrev pub IsSetBody : Body → Type 0
IsSetBody entered_body = ⊥
IsSetBody (whole_body v) = ⊥
IsSetBody (begun_body tracker cells) = tracker ≡ as_items ItemsKind.Set

-- Dynamic values.

-- the place is begun as a dynamic object
abbrev pub IsObjectBody : Body → Type 0
IsObjectBody entered_body = ⊥
IsObjectBody (whole_body v) = ⊥
IsObjectBody (begun_body tracker cells) = is_object_tracker tracker ≡ true

-- the keys of its entries
abbrev pub keys_in : Body → List (List ℕ)
keys_in entered_body = []
keys_in (whole_body v) = []
keys_in (begun_body tracker cells) = keys_of_tracker tracker

abbrev pub with_entry_unless : (key : List ℕ) → Tracker → List Cell → (found : Option ℕ) → Body
with_entry_unless key tracker cells (Some i) = begun_body tracker cells
with_entry_unless key tracker cells None = begun_body (as_entries (EntriesKind.Object (keys_of_tracker tracker ++ key ∷ []))) (cells ++ absent ∷ [])

-- an object with an entry under this key: the one that it has, or one more behind the others, whose value isn't there yet; any other
-- place stays as it is
abbrev pub with_entry_for : (key : List ℕ) → Body → Body
with_entry_for key entered_body = entered_body
with_entry_for key (whole_body v) = whole_body v
with_entry_for key (begun_body tracker cells) = with_entry_unless key tracker cells (entry_found key (keys_of_tracker tracker))

-- how many children a place has, as far as it is begun
abbrev pub count_cells : Body → ℕ
count_cells entered_body = 0
count_cells (whole_body v) = 0
count_cells (begun_body tracker cells) = length cells

-- the number of the entry of an object that has this key, or of a new last one
abbrev pub entry_in : (key : List ℕ) → Body → ℕ
entry_in key body = number_or_last (entry_found key (keys_in body)) (count_cells body)

-- a begun place, begun so instead, with the children that it has; any other place stays as it is
abbrev pub reformed : Tracker → Body → Body
reformed tracker entered_body = entered_body
reformed tracker (whole_body v) = whole_body v
reformed tracker (begun_body as_before cells) = begun_body tracker cells

-- What a place comes to.

-- a place is begun so around one child: a content, a side, a pointee or a source
abbrev pub is_around : Tracker → Bool
is_around (as_fields selected) = false
is_around as_elements = false
is_around (as_content kind) = true
is_around (as_items kind) = false
is_around (as_entries kind) = false

-- what is made of a place that is begun so holds a box: around the one child, or around the list of a slice's items
abbrev pub boxes : Tracker → Bool
boxes (as_fields selected) = false
boxes as_elements = false
boxes (as_content kind) = true
boxes (as_items ItemsKind.List) = false
boxes (as_items ItemsKind.Slice) = true
boxes (as_items ItemsKind.ClosedSlice) = true
boxes (as_items ItemsKind.Set) = false
boxes (as_entries kind) = false
boxes (as_items ItemsKind.Array) = false

-- what that box holds (the unit value where there is no box)
abbrev pub boxed_as : Tracker → Vals → Val
boxed_as (as_fields selected) vs = unit
boxed_as as_elements vs = unit
boxed_as (as_content kind) vs = vals_nth vs 0
boxed_as (as_items ItemsKind.List) vs = unit
boxed_as (as_items ItemsKind.Slice) vs = list_of vs
boxed_as (as_items ItemsKind.ClosedSlice) vs = list_of vs
boxed_as (as_items ItemsKind.Set) vs = unit
boxed_as (as_entries kind) vs = unit
boxed_as (as_items ItemsKind.Array) vs = unit

-- the value of such a place whose box holds this (the value itself where there is no box)
abbrev pub around_as : Tracker → Val → Val
around_as (as_fields selected) held = held
around_as as_elements held = held
around_as (as_content ContentKind.Some) held = some held
around_as (as_content ContentKind.Ok) held = ok held
around_as (as_content ContentKind.Err) held = err held
around_as (as_content ContentKind.Pointer) held = ptr held
around_as (as_content (ContentKind.Source conversion)) held = held
around_as (as_items ItemsKind.List) held = held
around_as (as_items ItemsKind.Slice) held = ptr held
around_as (as_items ItemsKind.ClosedSlice) held = ptr held
around_as (as_items ItemsKind.Set) held = held
around_as (as_entries kind) held = held
around_as (as_items ItemsKind.Array) held = held

-- what is made of a place that is begun so is put together anew: a set or a map of what isn't there twice, a dynamic value of those
-- of its parts
abbrev pub gathers : Tracker → Bool
gathers (as_fields selected) = false
gathers as_elements = false
gathers (as_content kind) = false
gathers (as_items ItemsKind.List) = false
gathers (as_items ItemsKind.Slice) = false
gathers (as_items ItemsKind.ClosedSlice) = false
gathers (as_items ItemsKind.Set) = true
gathers (as_entries kind) = true
gathers (as_items ItemsKind.Array) = true

-- making the value of what is there takes memory: it holds a box, or is put together anew
abbrev pub takes_memory : Body → Bool
takes_memory entered_body = false
takes_memory (whole_body v) = false
takes_memory (begun_body tracker cells) = boxes tracker || gathers tracker

abbrev pub is_one : List Cell → Bool
is_one [] = false
is_one (c ∷ []) = true
is_one (c ∷ d ∷ cs) = false

-- so many children can make a value of a place that is begun so: around one child just that one, else any; but none can of a
-- conversion, whose hook makes it
abbrev pub can_make : Tracker → List Cell → Bool
can_make tracker cells = if is_conversion tracker then false else if is_around tracker then is_one cells else true

-- the value of a place that is whole, or begun with each child's value there
abbrev pub value_of : Body → Option Val
value_of entered_body = None
value_of (whole_body v) = Some v
value_of (begun_body tracker cells) = if can_make tracker cells then made tracker (values_of cells) else None

-- the place is begun as a conversion
abbrev pub is_conversion_body : Body → Bool
is_conversion_body entered_body = false
is_conversion_body (whole_body v) = false
is_conversion_body (begun_body tracker cells) = is_conversion tracker

-- of the children of a begun place none is missing: the value of each is there. A place that is entered or whole has no
-- children that could be missing.
abbrev pub HasAllChildren : Body → Type 0
HasAllChildren entered_body = Unit {0}
HasAllChildren (whole_body v) = Unit {0}
HasAllChildren (begun_body tracker cells) = IsSome (values_of cells)

-- a child in a slot of its own isn't told here
abbrev pub tree_of_cell : Cell → Tree
tree_of_cell absent = hole
tree_of_cell (given v) = whole v
tree_of_cell (placed n) = hole

abbrev pub trees_of : List Cell → Trees
trees_of [] = no_trees
trees_of (c ∷ cs) = branch (tree_of_cell c) (trees_of cs)

-- the tree of a place none of whose children is in a slot of its own
abbrev pub own_tree : Body → Tree
own_tree entered_body = entered
own_tree (whole_body v) = whole v
own_tree (begun_body tracker cells) = begun tracker (trees_of cells)

abbrev pub IsUnplaced : Cell → Type 0
IsUnplaced absent = Unit {0}
IsUnplaced (given v) = Unit {0}
IsUnplaced (placed n) = ⊥

abbrev pub AreUnplaced : List Cell → Type 0
AreUnplaced [] = Unit {0}
AreUnplaced (c ∷ cs) = IsUnplaced c × AreUnplaced cs

-- no child of the place is in a slot of its own
abbrev pub IsClosed : Body → Type 0
IsClosed entered_body = Unit {0}
IsClosed (whole_body v) = Unit {0}
IsClosed (begun_body tracker cells) = AreUnplaced cells
