-- Lists, arrays and pointers to slices as places: why one can't be begun, why an item can't, and what an item adds.
use Rattle.std.specs.Prelude.{if◌then◌else◌}
use Rattle.fr_model.specs.Common.{ℕ, nat_le, Bool, true, false, Option, Some, None, option_or, Def, KnownPointer, ShapeId, Operation, Table, def_of}
use Rattle.fr_model.specs.Basis.{is_slice, array_limit, Tracker, as_fields, as_elements, as_content, as_items, ItemsKind, as_entries, EntriesKind, Tree, whole, begun, count_trees, and_last, child_as, fresh}

-- Beginning a list or an array

-- a list is begun as one, and a dynamic value; any other definition is refused so
abbrev pub unless_list : Operation → Def → Option Operation
unless_list refusal (Def.List t) = None
unless_list refusal Def.Dynamic = None
unless_list refusal _ = Some refusal

-- a place begun so is a list, a pointer to a slice or a dynamic value: a list may be begun there
abbrev pub is_list_like : Tracker → Bool
is_list_like (as_items ItemsKind.List) = true
is_list_like (as_items ItemsKind.Slice) = true
is_list_like (as_items ItemsKind.ClosedSlice) = true
is_list_like (as_fields selected) = false
is_list_like as_elements = false
is_list_like (as_content kind) = false
is_list_like (as_items ItemsKind.Set) = false
is_list_like (as_entries (EntriesKind.Map base)) = false
is_list_like (as_items ItemsKind.Array) = true
is_list_like (as_entries (EntriesKind.Object keys)) = true

abbrev pub whole_array_refusal : Tree → Option Operation
whole_array_refusal (whole v) = Some Operation.InitArrayOfBegun
whole_array_refusal _ = None

-- Why the array here can't be begun, if it can't. Of several refusals the first in this order is given: the place is no array; it has
-- more elements than the limit; it is whole.
abbrev pub init_array_refusal : Def → Tree → Option Operation
init_array_refusal (Def.Array item n) tree =
    option_or (if nat_le n array_limit then None else Some Operation.ArrayTooLarge) (whole_array_refusal tree)
init_array_refusal _ tree = Some Operation.InitArrayOfOther

-- Items

-- what takes no items: a list that isn't begun, or anything else
abbrev pub unbegun_refusal : Def → Operation
unbegun_refusal (Def.List t) = Operation.ItemBeforeInitList
unbegun_refusal _ = Operation.ItemOfOther

-- of a place that is begun so: a list, a dynamic array and an open pointer to a slice take items, a closed one takes no more
abbrev pub begun_item_refusal : Def → Tracker → Option Operation
begun_item_refusal def (as_fields selected) = Some (unbegun_refusal def)
begun_item_refusal def as_elements = Some (unbegun_refusal def)
begun_item_refusal def (as_content kind) = Some (unbegun_refusal def)
begun_item_refusal def (as_items ItemsKind.List) = None
begun_item_refusal def (as_items ItemsKind.Slice) = None
begun_item_refusal def (as_items ItemsKind.ClosedSlice) = Some Operation.ItemStillOpen
begun_item_refusal def (as_items ItemsKind.Set) = Some (unbegun_refusal def)
begun_item_refusal def (as_items ItemsKind.Array) = None
begun_item_refusal def (as_entries kind) = Some (unbegun_refusal def)

-- why no item can be begun here, if none can
abbrev pub item_refusal : Def → Tree → Option Operation
item_refusal def (begun tracker children) = begun_item_refusal def tracker
item_refusal def _ = Some (unbegun_refusal def)

-- the place of shape s with a new item, just entered, behind the others
abbrev pub with_item : Table → ℕ → Tree → Tree
with_item table s (begun tracker children) =
    begun tracker (and_last children (fresh (def_of table (child_as table s tracker (count_trees children)))))
with_item table s other = other

-- Pointers to slices

abbrev pub is_open_slice : Tree → Bool
is_open_slice (begun (as_items ItemsKind.Slice) children) = true
is_open_slice _ = false

-- what is begun here, closed for further items
abbrev pub closed_slice : Tree → Tree
closed_slice (begun tracker children) = begun (as_items ItemsKind.ClosedSlice) children
closed_slice other = other

-- it is known what is behind the pointer, and that is a slice
abbrev pub shared_slice_behind : Table → (pointee : Option ShapeId) → Option Operation
shared_slice_behind table (Some pointee) = if is_slice (def_of table pointee.0) then None else Some Operation.PointeeNotSlice
shared_slice_behind table None = Some Operation.SharedReferenceWithoutPointee

-- and it is known that the pointer borrows it
abbrev pub shared_slice_by : Table → (known : Option KnownPointer) → (pointee : Option ShapeId) → Option Operation
shared_slice_by table (Some KnownPointer.SharedReference) pointee = shared_slice_behind table pointee
shared_slice_by table (Some _) pointee = Some Operation.NotSharedReference
shared_slice_by table None pointee = Some Operation.NotSharedReference

-- Why a place of this definition can't be set to an empty borrowed slice, if it can't. Of several refusals the first in this order is
-- given: the place is no pointer that is known as a shared reference; it isn't known what it points to; that is no slice.
abbrev pub shared_slice_refusal : Table → Def → Option Operation
shared_slice_refusal table (Def.Pointer pointer) = shared_slice_by table pointer.known pointer.pointee
shared_slice_refusal table _ = Some Operation.NotSharedReference
