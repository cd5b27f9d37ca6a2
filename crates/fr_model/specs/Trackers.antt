-- As what a place is begun, told by what its children are.
use Rattle.std.specs.Prelude.{◌==◌, ◌&&◌, ◌∷◌}
use Rattle.fr_model.specs.Common.{ℕ, suc, Bool, true, false, List, [], Option, Some, None, bytes_eq, TrackerKind}
pub use Rattle.fr_model.specs.Kinds.{ContentKind, Conversion, ItemsKind, Through}

-- whose entries a place has: those of a map over a base of so many, each with a key and its value as children, in turn, a hole where an
-- entry has no value yet; or those of a dynamic object, with a child for the value under each of these keys
pub data EntriesKind : Type 0 where
  Map : (base : ℕ) → EntriesKind
  Object : (keys : List (List ℕ)) → EntriesKind

-- As what a place is begun. Its children are the fields of a struct, or of the variant of this number of an enum; the elements of an
-- array; the one thing that it holds; items; or entries. Items and entries that were there when the place was begun come in front.
pub data Tracker : Type 0 where
  as_fields : (selected : Option ℕ) → Tracker
  as_elements : Tracker
  as_content : ContentKind → Tracker
  as_items : ItemsKind → Tracker
  as_entries : EntriesKind → Tracker

-- the variant as which a place is begun, if it is begun as one
abbrev pub variant_of : Tracker → Option ℕ
variant_of (as_fields selected) = selected
variant_of _ = None

-- how many entries a map had when it was begun
abbrev pub base_of_tracker : Tracker → ℕ
base_of_tracker (as_entries (EntriesKind.Map base)) = base
base_of_tracker _ = 0

-- the keys of an object
abbrev pub keys_of_tracker : Tracker → List (List ℕ)
keys_of_tracker (as_entries (EntriesKind.Object keys)) = keys
keys_of_tracker _ = []

abbrev pub is_source : ContentKind → Bool
is_source (ContentKind.Source conversion) = true
is_source _ = false

-- a place begun so is a conversion, with its source as the one child
abbrev pub is_conversion : Tracker → Bool
is_conversion (as_content kind) = is_source kind
is_conversion _ = false

-- the hook of a conversion, and the shape of its source
abbrev pub hook_of_tracker : Tracker → ℕ
hook_of_tracker (as_content (ContentKind.Source conversion)) = conversion.hook
hook_of_tracker _ = 0

abbrev pub source_of_tracker : Tracker → ℕ
source_of_tracker (as_content (ContentKind.Source conversion)) = conversion.source
source_of_tracker _ = 0

abbrev pub number_through : Through → ℕ
number_through Through.Wrapper = 13
number_through Through.Proxy = 14

-- a number for each (whatever the base of a map, the keys of an object, and the hook and the source of a conversion)
abbrev pub tracker_number : Tracker → ℕ
tracker_number (as_fields None) = 0
tracker_number as_elements = 1
tracker_number (as_content ContentKind.Some) = 2
tracker_number (as_content ContentKind.Ok) = 3
tracker_number (as_content ContentKind.Err) = 4
tracker_number (as_content ContentKind.Pointer) = 5
tracker_number (as_items ItemsKind.List) = 6
tracker_number (as_items ItemsKind.Slice) = 7
tracker_number (as_items ItemsKind.ClosedSlice) = 8
tracker_number (as_items ItemsKind.Set) = 9
tracker_number (as_entries (EntriesKind.Map base)) = 10
tracker_number (as_items ItemsKind.Array) = 11
tracker_number (as_entries (EntriesKind.Object keys)) = 12
tracker_number (as_content (ContentKind.Source conversion)) = number_through conversion.through
tracker_number (as_fields (Some k)) = suc (suc (suc (suc (suc (suc (suc (suc (suc (suc (suc (suc (suc (suc (suc k))))))))))))))

abbrev pub same_keys : (one other : List (List ℕ)) → Bool
same_keys [] [] = true
same_keys [] (key ∷ keys) = false
same_keys (key ∷ keys) [] = false
same_keys (key ∷ keys) (other ∷ others) = bytes_eq key other && same_keys keys others

abbrev pub same_tracker : Tracker → Tracker → Bool
same_tracker one other =
    same_keys (keys_of_tracker one) (keys_of_tracker other) && (base_of_tracker one == base_of_tracker other)
    && (hook_of_tracker one == hook_of_tracker other) && (source_of_tracker one == source_of_tracker other)
    && (tracker_number one == tracker_number other)

-- as refusals name a begun place
abbrev pub tracker_kind : Tracker → TrackerKind
tracker_kind (as_fields None) = TrackerKind.Struct
tracker_kind (as_fields (Some k)) = TrackerKind.Enum
tracker_kind as_elements = TrackerKind.Array
tracker_kind (as_content ContentKind.Some) = TrackerKind.Option
tracker_kind (as_content ContentKind.Ok) = TrackerKind.Result
tracker_kind (as_content ContentKind.Err) = TrackerKind.Result
tracker_kind (as_content ContentKind.Pointer) = TrackerKind.SmartPointer
tracker_kind (as_content (ContentKind.Source conversion)) = TrackerKind.Inner
tracker_kind (as_items ItemsKind.List) = TrackerKind.List
tracker_kind (as_items ItemsKind.Slice) = TrackerKind.SmartPointerSlice
tracker_kind (as_items ItemsKind.ClosedSlice) = TrackerKind.SmartPointerSlice
tracker_kind (as_items ItemsKind.Set) = TrackerKind.Set
tracker_kind (as_items ItemsKind.Array) = TrackerKind.DynamicValue
tracker_kind (as_entries (EntriesKind.Map base)) = TrackerKind.Map
tracker_kind (as_entries (EntriesKind.Object keys)) = TrackerKind.DynamicValue
