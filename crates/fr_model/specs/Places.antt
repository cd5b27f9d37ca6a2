-- Places: lists of child numbers from the root, and what a table says of the shapes along them.
use Rattle.std.specs.Prelude.{◌∷◌, if◌then◌else◌}
use Rattle.fr_model.specs.Common.{ℕ, zero, suc, Bool, true, false, List, [], length, slice_get, Option, Some, None, is_some, Def, Field, ShapeId, strict_fill, deferred_fill, Table, def_of, field_in, Val, Vals, Entries, unit, product, list_of, map_of, set_of, no_vals, first, no_entries, entry}

abbrev pub Place : Type 0
Place = List ℕ

abbrev pub is_root : Place → Bool
is_root [] = true
is_root (i ∷ place) = false

-- an array of more elements can only be set as a whole
abbrev pub array_limit : ℕ
array_limit = 4096

-- the place above (the root's is itself)
abbrev pub up : Place → Place
up [] = []
up (i ∷ []) = []
up (i ∷ j ∷ place) = i ∷ up (j ∷ place)

-- How many children a struct's or an array's place has: one for each field, one for each element. None is counted of any other
-- definition: a variant's fields, the one thing that an option, a result or a pointer holds, and items are counted by what is begun.
abbrev pub count_children : Def → ℕ
count_children (Def.Struct struct) = length struct.fields
count_children (Def.Array t n) = n
count_children _ = 0

abbrev pub child_count : Table → ℕ → ℕ
child_count table s = count_children (def_of table s)

abbrev pub shape_of_field : Option Field → ℕ
shape_of_field (Some field) = field.shape.0
shape_of_field None = 0

abbrev pub shape_of_child : Def → ℕ → ℕ
shape_of_child (Def.Struct struct) i = shape_of_field (slice_get struct.fields i)
shape_of_child (Def.Array t n) i = t.0
shape_of_child _ i = 0

-- the shape of child i of a place: that of the field of this number, or of an element. Where there is no such child it
-- is 0, which no definition asks for.
abbrev pub child_shape : Table → ℕ → ℕ → ℕ
child_shape table s i = shape_of_child (def_of table s) i

-- the shape of what an option holds, of either side of a result, and of what a pointer points to (0 where there is none)
abbrev pub content_shape : Def → ℕ
content_shape (Def.Option t) = t.0
content_shape _ = 0

abbrev pub ok_shape : Def → ℕ
ok_shape (Def.Result t e) = t.0
ok_shape _ = 0

abbrev pub err_shape : Def → ℕ
err_shape (Def.Result t e) = e.0
err_shape _ = 0

abbrev pub shape_or_zero : Option ShapeId → ℕ
shape_or_zero (Some t) = t.0
shape_or_zero None = 0

abbrev pub pointee_shape : Def → ℕ
pointee_shape (Def.Pointer pointer) = shape_or_zero pointer.pointee
pointee_shape _ = 0

-- the shape of the items of a list, a slice or a set (0 where there are none)
abbrev pub item_shape : Def → ℕ
item_shape (Def.List t) = t.0
item_shape (Def.Slice t) = t.0
item_shape (Def.Set t) = t.0
item_shape _ = 0

-- Of a map the children are a key and its value in turn: those of an even number are keys, and each entry has two.

abbrev pub is_key : ℕ → Bool
is_key zero = true
is_key (suc zero) = false
is_key (suc (suc i)) = is_key i

-- the number of the entry to which child i belongs
abbrev pub entry_of : ℕ → ℕ
entry_of zero = zero
entry_of (suc zero) = zero
entry_of (suc (suc i)) = suc (entry_of i)

-- the shape of a map's keys, or that of its values (0 where there are none)
abbrev pub entry_shape : Def → (of_key : Bool) → ℕ
entry_shape (Def.Map key item) of_key = if of_key then key.0 else item.0
entry_shape _ of_key = 0

-- The two columns of rules by which a place completes: the one of strict mode, and the one of the end of deferred mode.
pub data Column : Type 0 where
  strict_column : Column
  deferred_column : Column

-- what a hole takes as a field of a struct or of a variant of shape s, if it has a fill by the rules of this column
abbrev pub fill_by : Column → Table → ℕ → (of_variant : Bool) → Field → Option Val
fill_by strict_column table s of_variant field = strict_fill table s of_variant field
fill_by deferred_column table s of_variant field = deferred_fill table s field

abbrev pub fill_of_field : Column → Table → ℕ → (of_variant : Bool) → Option Field → Option Val
fill_of_field column table s of_variant (Some field) = fill_by column table s of_variant field
fill_of_field column table s of_variant None = None

-- what field i takes where it is a hole, if it has a fill: of a struct of shape s, or of the variant of this number of an
-- enum of shape s
abbrev pub fill_in : Column → Table → ℕ → (selected : Option ℕ) → ℕ → Option Val
fill_in column table s selected i = fill_of_field column table s (is_some selected) (field_in (def_of table s) selected i)

-- what child i of a place of shape s takes where it is a hole: a struct's field its fill, if it has one; an element of an
-- array never takes anything
abbrev pub fill_at : Column → Table → ℕ → ℕ → Option Val
fill_at column table s i = fill_in column table s None i

-- The shape of the place that this way leads to, from a place of shape s, through structs and arrays alone: shape_in goes by
-- what is begun, and so through any place.
abbrev pub shape_at : Table → ℕ → Place → ℕ
shape_at table s [] = s
shape_at table s (i ∷ place) = shape_at table (child_shape table s i) place

-- the value of this number among some (a placeholder past their end)
abbrev pub vals_nth : Vals → ℕ → Val
vals_nth no_vals i = unit
vals_nth (first v vs) zero = v
vals_nth (first v vs) (suc i) = vals_nth vs i

-- the values of the children that a value has: a product's, of fields or of elements
abbrev pub parts_of : Val → Option Vals
parts_of (product vs) = Some vs
parts_of _ = None

-- the values of the items that a list's value has
abbrev pub items_of : Val → Option Vals
items_of (list_of vs) = Some vs
items_of _ = None

-- the same of a set's value
abbrev pub set_items_of : Val → Option Vals
set_items_of (set_of vs) = Some vs
set_items_of _ = None

-- the keys and values of entries in turn
abbrev pub in_turn : Entries → Vals
in_turn no_entries = no_vals
in_turn (entry k v es) = first k (first v (in_turn es))

-- those of the entries that a map's value has
abbrev pub entries_of : Val → Option Vals
entries_of (map_of es) = Some (in_turn es)
entries_of _ = None

abbrev pub count_entries : Entries → ℕ
count_entries no_entries = zero
count_entries (entry k v es) = suc (count_entries es)

-- how many entries a map's value has
abbrev pub base_in : Val → ℕ
base_in (map_of es) = count_entries es
base_in _ = 0

abbrev pub part_among : Option Vals → Val → ℕ → Val
part_among (Some vs) v i = vals_nth vs i
part_among None v i = v

-- the part that a value gives to its child i (a value without children gives itself)
abbrev pub part : Val → ℕ → Val
part v i = part_among (parts_of v) v i

-- the part that a value gives to the place that this way leads to
abbrev pub part_at : Val → Place → Val
part_at v [] = v
part_at v (i ∷ place) = part_at (part v i) place

-- a value and the ones after it, where all are there
abbrev pub one_more : Option Val → Option Vals → Option Vals
one_more (Some v) (Some vs) = Some (first v vs)
one_more (Some v) None = None
one_more None vs = None

-- the product of some values, where all are there
abbrev pub product_of : Option Vals → Option Val
product_of (Some vs) = Some (product vs)
product_of None = None

-- the value of each of so many children, number i first, where all have one
abbrev pub each_child : (ℕ → Option Val) → (count i : ℕ) → Option Vals
each_child value zero i = Some no_vals
each_child value (suc count) i = one_more (value i) (each_child value count (suc i))
