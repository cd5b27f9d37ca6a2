-- What commands are refused for: each function says why one can't be made at a place, if it can't.
use Rattle.std.specs.Prelude.{◌==◌, ◌&&◌, ◌||◌, if◌then◌else◌}
use Rattle.fr_model.specs.Common.{ℕ, Bool, true, false, length, nat_lt, nat_le, Option, Some, None, is_some, option_or, Def, ScalarKind, Expected, InitCall, ReflectErrorKind, Operation, Invariant, Table, def_of}
use Rattle.fr_model.specs.Items.{unless_list, is_list_like}
use Rattle.fr_model.specs.Basis.{array_limit, Tracker, tracker_kind, selected, Tree, hole, entered, whole, begun, variant_fields, unless_map, unless_set, is_map_like, is_set_tracker}

abbrev pub operation_failed : ℕ → Operation → ReflectErrorKind
operation_failed s operation = ReflectErrorKind.OperationFailed (record { 0 = s }) operation

abbrev pub violates : Invariant → ReflectErrorKind
violates invariant = ReflectErrorKind.InvariantViolation invariant

abbrev pub at_shape : ℕ → Option Operation → Option ReflectErrorKind
at_shape s (Some operation) = Some (operation_failed s operation)
at_shape s None = None

abbrev pub was_not_a : Expected → ℕ → ReflectErrorKind
was_not_a expected s = ReflectErrorKind.WasNotA expected (record { 0 = s })

-- Entering a child

-- the elements of a whole array can't be entered
abbrev pub element_refusal : Tree → Option Operation
element_refusal (whole v) = Some Operation.ElementOfWholeArray
element_refusal _ = None

-- of an enum, a field of the variant that is selected
abbrev pub variant_field_refusal : Def → (selected : Option ℕ) → ℕ → Option Operation
variant_field_refusal def None i = Some Operation.FieldOfUnselectedVariant
variant_field_refusal def (Some k) i =
    if nat_lt i (length (variant_fields def k)) then None else Some Operation.VariantFieldIndexOutOfBounds

-- begin_nth_field is refused but at a struct, or a begun enum, with a field of that number, and at an array with such an element that
-- has no more elements than the limit and isn't whole. Of several refusals of an array the first in this order is given: there is no
-- such element; the array is too large; it is whole.
abbrev pub field_refusal : Def → Tree → ℕ → Option Operation
field_refusal (Def.Struct struct) tree i = if nat_lt i (length struct.fields) then None else Some Operation.FieldIndexOutOfBounds
field_refusal (Def.Enum enumeration) tree i = variant_field_refusal (Def.Enum enumeration) (selected tree) i
field_refusal (Def.Array item n) tree i =
    option_or (if nat_lt i n then None else Some Operation.ArrayIndexOutOfBounds)
    (option_or (if nat_le n array_limit then None else Some Operation.ArrayTooLarge) (element_refusal tree))
field_refusal (Def.Slice item) tree i = Some Operation.FieldOfSlice
field_refusal Def.Opaque tree i = Some Operation.FieldOfOpaque
field_refusal (Def.Scalar kind) tree i = Some Operation.FieldOfOther
field_refusal Def.Str tree i = Some Operation.FieldOfOther
field_refusal (Def.Option t) tree i = Some Operation.FieldOfOther
field_refusal (Def.Result t e) tree i = Some Operation.FieldOfOther
field_refusal (Def.List t) tree i = Some Operation.FieldOfOther
field_refusal (Def.Map key item) tree i = Some Operation.FieldOfOther
field_refusal (Def.Set t) tree i = Some Operation.FieldOfOther
field_refusal (Def.Pointer pointer) tree i = Some Operation.FieldOfOther
field_refusal Def.Dynamic tree i = Some Operation.FieldOfOther
field_refusal Def.Undefined tree i = Some Operation.FieldOfOther
field_refusal Def.Other tree i = Some Operation.FieldOfOther

-- begin_field is refused but at a struct and at a begun enum
abbrev pub named_refusal : Def → Tree → Option Operation
named_refusal (Def.Struct struct) tree = None
named_refusal (Def.Enum enumeration) tree = if is_some (selected tree) then None else Some Operation.NamedFieldOfUnselectedVariant
named_refusal Def.Undefined tree = Some Operation.NamedFieldOfUndefined
named_refusal (Def.Scalar kind) tree = Some Operation.NamedFieldOfPrimitive
named_refusal Def.Str tree = Some Operation.NamedFieldOfPrimitive
named_refusal (Def.Array item n) tree = Some Operation.NamedFieldOfSequence
named_refusal (Def.Slice item) tree = Some Operation.NamedFieldOfSequence
named_refusal Def.Opaque tree = Some Operation.NamedFieldOfOpaque
named_refusal (Def.Pointer pointer) tree = Some Operation.NamedFieldOfPointer
named_refusal (Def.Option t) tree = Some Operation.FieldOfOther
named_refusal (Def.Result t e) tree = Some Operation.FieldOfOther
named_refusal (Def.List t) tree = Some Operation.FieldOfOther
named_refusal (Def.Map key item) tree = Some Operation.FieldOfOther
named_refusal (Def.Set t) tree = Some Operation.FieldOfOther
named_refusal Def.Dynamic tree = Some Operation.FieldOfOther
named_refusal Def.Other tree = Some Operation.FieldOfOther

-- Putting a value

abbrev pub is_str : Def → Bool
is_str Def.Str = true
is_str _ = false

-- a text that may be borrowed is none
abbrev pub is_owned_string_kind : ScalarKind → Bool
is_owned_string_kind ScalarKind.String = true
is_owned_string_kind _ = false

-- an owned text
abbrev pub is_owned_string : Def → Bool
is_owned_string (Def.Scalar kind) = is_owned_string_kind kind
is_owned_string _ = false

-- set takes a value of the place's own shape, and at a `str` an owned text
abbrev pub takes_shape : Table → (s given : ℕ) → Bool
takes_shape table s given = s == given || (is_str (def_of table s) && is_owned_string (def_of table given))

-- set is refused with any other value; at a dynamic place it goes by what that makes of it
abbrev pub set_refusal : Table → ℕ → ℕ → Option ReflectErrorKind
set_refusal table s given =
    if takes_shape table s given then None
    else Some (ReflectErrorKind.WrongShape (record { 0 = s }) (record { 0 = given }))

-- Beginning a list, a map or a set

abbrev pub unexpected_unless : Bool → InitCall → Tracker → Option ReflectErrorKind
unexpected_unless true call tracker = None
unexpected_unless false call tracker = Some (ReflectErrorKind.UnexpectedTracker call (tracker_kind tracker))

-- init_list is refused but at a list or a dynamic value, and at what is begun as one of these or as a pointer to a slice
abbrev pub init_list_refusal : ℕ → Def → Tree → Option ReflectErrorKind
init_list_refusal s def (whole v) = at_shape s (unless_list Operation.InitListOfWholeOther def)
init_list_refusal s def (begun tracker children) = unexpected_unless (is_list_like tracker) InitCall.List tracker
init_list_refusal s def entered = at_shape s (unless_list Operation.InitListOfOther def)
init_list_refusal s def hole = at_shape s (unless_list Operation.InitListOfOther def)

abbrev pub init_map_refusal : ℕ → Def → Tree → Option ReflectErrorKind
init_map_refusal s def (begun tracker children) = unexpected_unless (is_map_like tracker) InitCall.Map tracker
init_map_refusal s def _ = at_shape s (unless_map Operation.InitMapOfOther def)

abbrev pub init_set_refusal : ℕ → Def → Tree → Option ReflectErrorKind
init_set_refusal s def (begun tracker children) = unexpected_unless (is_set_tracker tracker) InitCall.Set tracker
init_set_refusal s def _ = at_shape s (unless_set Operation.InitSetOfOther def)
