-- Options, results, pointers and enums as places: what is kept of one at which something is begun, and how it starts anew.
use Rattle.std.specs.Prelude.{if◌then◌else◌}
use Rattle.fr_model.specs.Common.{ℕ, Bool, true, false, length, Option, Some, None, option_map, Def, KnownPointer, ShapeId, Operation, Table, def_of, Val, some}
use Rattle.fr_path.specs.StepShapes.{owns}
use Rattle.fr_model.specs.Places.{pointee_shape}
use Rattle.fr_model.specs.Trackers.{Tracker, as_fields, as_content, ContentKind, as_items, ItemsKind, same_tracker}
use Rattle.fr_model.specs.Tree.{Tree, whole, begun, Trees, no_trees, branch, child_as, holes, fresh, Mode, strict, deferred}
use Rattle.fr_model.specs.Variants.{variant_fields}

abbrev pub is_result : Def → Bool
is_result (Def.Result t e) = true
is_result _ = false

-- Pointers

-- a `str` or a slice is begun only behind a pointer that owns it, anything else behind any
abbrev pub inside_refusal : (owned : Bool) → (pointee : Def) → Option Operation
inside_refusal owned (Def.Slice item) = if owned then None else Some Operation.SlicePointerNotBuildable
inside_refusal owned Def.Str = if owned then None else Some Operation.PointeeNotBuildable
inside_refusal owned _ = None

abbrev pub pointee_refusal : Table → Option KnownPointer → (pointee : Option ShapeId) → Option Operation
pointee_refusal table known (Some pointee) = inside_refusal (owns known) (def_of table pointee.0)
pointee_refusal table known None = Some Operation.PointerWithoutPointee

-- Why what a place of this definition points to can't be begun, if it can't. Of several refusals the first in this order is given:
-- the place is no pointer that can be made from what it points to; it isn't known what that is; that can't be built.
abbrev pub pointer_refusal : Table → Def → Option Operation
pointer_refusal table (Def.Pointer pointer) =
    if pointer.constructible then pointee_refusal table pointer.known pointer.pointee
    else Some Operation.PointerNotConstructible
pointer_refusal table _ = Some Operation.PointerNotConstructible

abbrev pub is_slice : Def → Bool
is_slice (Def.Slice item) = true
is_slice _ = false

-- what a pointer of this definition points to is a slice: its items are begun at the pointer itself
abbrev pub points_to_slice : Table → Def → Bool
points_to_slice table def = is_slice (def_of table (pointee_shape def))

-- Starting anew: all that stood there is released

-- a variant, with a hole for each of its fields
abbrev pub variant_anew : Def → ℕ → Tree
variant_anew def k = begun (as_fields (Some k)) (holes (length (variant_fields def k)))

-- a place of shape s that is begun so around this one child
abbrev pub around : Tracker → Tree → Tree
around tracker child = begun tracker (branch child no_trees)

-- a content, a side, a pointee or a source, just entered
abbrev pub content_anew : Table → ℕ → Tracker → Tree
content_anew table s tracker = around tracker (fresh (def_of table (child_as table s tracker 0)))

-- a pointer to a slice, open, without items
abbrev pub slice_anew : Tree
slice_anew = begun (as_items ItemsKind.Slice) no_trees

-- What is kept

-- what is begun just so stays as it is
abbrev pub kept_so : Tracker → Tree → Option Tree
kept_so tracker (begun made children) = if same_tracker made tracker then Some (begun made children) else None
kept_so tracker _ = None

-- in deferred mode a begun side, pointer or conversion is entered again as it is; in strict mode it isn't
abbrev pub kept_in : Mode → Tracker → Tree → Option Tree
kept_in strict tracker tree = None
kept_in (deferred start) tracker tree = kept_so tracker tree

-- a begun pointer to a slice, open or closed, is open again with its items
abbrev pub reopened : Tracker → Trees → Option Tree
reopened (as_items ItemsKind.Slice) children = Some (begun (as_items ItemsKind.Slice) children)
reopened (as_items ItemsKind.ClosedSlice) children = Some (begun (as_items ItemsKind.Slice) children)
reopened _ children = None

-- a pointer to a slice is kept so in deferred mode; in strict mode it isn't
abbrev pub kept_slice : Mode → Tree → Option Tree
kept_slice strict tree = None
kept_slice (deferred start) (begun tracker children) = reopened tracker children
kept_slice (deferred start) _ = None

abbrev pub is_deferred : Mode → Bool
is_deferred strict = false
is_deferred (deferred start) = true

-- A whole `Some` of a content of this definition is entered in place: a list, map, set or dynamic value, to which more can be added;
-- in deferred mode a struct or an enum too, whose fields can be set.
abbrev pub is_entered_in_place : Mode → (content : Def) → Bool
is_entered_in_place mode (Def.List t) = true
is_entered_in_place mode (Def.Map key item) = true
is_entered_in_place mode (Def.Set t) = true
is_entered_in_place mode Def.Dynamic = true
is_entered_in_place mode (Def.Struct struct) = is_deferred mode
is_entered_in_place mode (Def.Enum enumeration) = is_deferred mode
is_entered_in_place mode (Def.Scalar kind) = false
is_entered_in_place mode Def.Str = false
is_entered_in_place mode Def.Opaque = false
is_entered_in_place mode (Def.Option t) = false
is_entered_in_place mode (Def.Result t e) = false
is_entered_in_place mode (Def.Array t n) = false
is_entered_in_place mode (Def.Pointer pointer) = false
is_entered_in_place mode (Def.Slice t) = false
is_entered_in_place mode Def.Undefined = false
is_entered_in_place mode Def.Other = false

-- what a whole option holds
abbrev pub content_of : Val → Option Val
content_of (some v) = Some v
content_of _ = None

-- of an option with a content of this definition: a whole `Some` may be entered in place; a begun option is entered again as it is in
-- deferred mode
abbrev pub kept_option : Mode → (content : Def) → Tree → Option Tree
kept_option mode content (whole v) =
    if is_entered_in_place mode content then option_map (λ (held : Val). around (as_content ContentKind.Some) (whole held)) (content_of v) else None
kept_option mode content (begun tracker children) = kept_in mode (as_content ContentKind.Some) (begun tracker children)
kept_option mode content _ = None
