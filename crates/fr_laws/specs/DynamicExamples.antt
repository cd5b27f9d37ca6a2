-- Worked examples of dynamic values, computed from the definitions.
use Rattle.std.specs.Prelude.{◌≡◌, ◌∷◌, ◌++◌}
use Rattle.fr_model.specs.Common.{ℕ, pos, negsuc, true, List, [], Some, Ok, codes, Def, EnumRepr, KnownPointer, ScalarKind, Shape, InitCall, Operation, TrackerKind, no_hooks, Table, plain_field, plain_shape, Val, bool, char, int, nat, text, token, product, variant, none, some, ok, list_of, map_of, set_of, ptr, dyn, no_vals, no_entries, Dynamic, Dynamics, dyn_null, dyn_bool, dyn_int, dyn_nat, dyn_text, dyn_bytes, dyn_array, dyn_object, no_dynamics, first_dynamic, no_members, member, PathStep}
use Rattle.fr_model.specs.Basis.{Call, missing_value, first_by_walk, failures, as_items, ItemsKind, as_entries, EntriesKind, Tree, entered, whole, begun, no_trees, branch, strict, BeginDeferred, BeginKey, BeginListItem, BeginObjectEntry, BeginSetItem, BeginSome, BeginValue, End, FinishDeferred, InitList, InitListWithCapacity, InitMap, InitSet, Set}
use Rattle.fr_laws.specs.CollectionExamples.{Releases}
use Rattle.fr_laws.specs.ContentExamples.{fails, lacks, id, u32, string, resource, struct_of, enum_of, variant_of_name, pointer_to, one, two, put_in, in_deferred, refused, refused_first, Runs, Drops, in_field}
use Rattle.fr_laws.specs.ListExamples.{item, unexpected}
use Rattle.fr_model.specs.Step.{operation_failed}

-- What a dynamic place makes of values of other shapes

abbrev pub scalar : (name : List ℕ) → ScalarKind → Shape
scalar name kind = plain_shape name (Def.Scalar kind)

-- two dynamic shapes, of which the second takes lists of bytes, and one shape or more of every other definition
abbrev pub conversions : Table
conversions =
    plain_shape (codes "Any") Def.Dynamic ∷ record (plain_shape (codes "Blob") Def.Dynamic) { bytes_ok = true }
    ∷ scalar (codes "bool") ScalarKind.Bool ∷ scalar (codes "char") ScalarKind.Char
    ∷ scalar (codes "i8") ScalarKind.I8 ∷ scalar (codes "i16") ScalarKind.I16
    ∷ scalar (codes "i32") ScalarKind.I32 ∷ scalar (codes "i64") ScalarKind.I64
    ∷ scalar (codes "isize") ScalarKind.ISize ∷ scalar (codes "i128") ScalarKind.I128
    ∷ scalar (codes "u8") ScalarKind.U8 ∷ scalar (codes "u16") ScalarKind.U16
    ∷ scalar (codes "u32") ScalarKind.U32 ∷ scalar (codes "u64") ScalarKind.U64
    ∷ scalar (codes "usize") ScalarKind.USize ∷ scalar (codes "u128") ScalarKind.U128
    ∷ scalar (codes "String") ScalarKind.String ∷ plain_shape (codes "str") Def.Str
    ∷ scalar (codes "CowStr") ScalarKind.CowStr
    ∷ plain_shape (codes "Bytes") (Def.List (id 10)) ∷ plain_shape (codes "Numbers") (Def.List (id 12))
    ∷ resource
    ∷ plain_shape (codes "Nothing") (struct_of [])
    ∷ plain_shape (codes "Pick") (enum_of EnumRepr.U8 (variant_of_name (codes "A") [] (Some (pos 0)) ∷ []))
    ∷ plain_shape (codes "OptBool") (Def.Option (id 2))
    ∷ plain_shape (codes "BoolOr") (Def.Result (id 2) (id 3))
    ∷ plain_shape (codes "BoolMap") (Def.Map (id 2) (id 2))
    ∷ plain_shape (codes "BoolSet") (Def.Set (id 2))
    ∷ plain_shape (codes "A0") (Def.Array (id 10) 0)
    ∷ plain_shape (codes "BoxBool") (pointer_to (Some KnownPointer.Box) 2)
    ∷ plain_shape (codes "[u8]") (Def.Slice (id 10))
    ∷ plain_shape (codes "Unknown") Def.Undefined
    ∷ record (plain_shape (codes "Wrapped") Def.Other) { inner = Some (id 2) } ∷ []

abbrev pub Converts : (given : ℕ) → Val → Dynamic → Type 0
Converts given v made = Runs conversions 0 (Set given v ∷ []) (Ok (dyn made))

abbrev pub Refuses : (given : ℕ) → Val → Operation → Type 0
Refuses given v operation = Runs conversions 0 (Set given v ∷ []) (refused_first (operation_failed given operation))

-- a refusal names the value's shape
pub record ConversionExamples : Type 0 where
  pub own_shape : Converts 0 (dyn (dyn_bytes (1 ∷ []))) (dyn_bytes (1 ∷ []))
  pub other_dynamic : Refuses 1 (dyn dyn_null) Operation.NotDynamic
  pub of_bool : Converts 2 (bool true) (dyn_bool true)
  -- a character is the text of it, in UTF-8
  pub of_char : Converts 3 (char 233) (dyn_text (195 ∷ 169 ∷ []))
  pub of_i8 : Converts 4 (int (negsuc 6)) (dyn_int (negsuc 6))
  pub of_i16 : Converts 5 (int (pos 7)) (dyn_int (pos 7))
  pub of_i32 : Converts 6 (int (negsuc 6)) (dyn_int (negsuc 6))
  pub of_i64 : Converts 7 (int (pos 7)) (dyn_int (pos 7))
  pub of_isize : Converts 8 (int (pos 7)) (dyn_int (pos 7))
  pub no_i128 : Refuses 9 (int (pos 7)) Operation.DynamicSignedSize
  pub of_u8 : Converts 10 (nat 7) (dyn_nat 7)
  pub of_u16 : Converts 11 (nat 7) (dyn_nat 7)
  pub of_u32 : Converts 12 (nat 7) (dyn_nat 7)
  pub of_u64 : Converts 13 (nat 7) (dyn_nat 7)
  pub of_usize : Converts 14 (nat 7) (dyn_nat 7)
  pub no_u128 : Refuses 15 (nat 7) Operation.DynamicUnsignedSize
  pub of_string : Converts 16 (text (codes "hi")) (dyn_text (codes "hi"))
  pub of_str : Converts 17 (text (codes "hi")) (dyn_text (codes "hi"))
  pub no_cow_str : Refuses 18 (text (codes "hi")) Operation.NotDynamic
  -- bytes, only where the place takes them
  pub of_bytes : Runs conversions 1 (Set 19 (list_of (two (nat 1) (nat 255))) ∷ []) (Ok (dyn (dyn_bytes (1 ∷ 255 ∷ []))))
  pub of_no_bytes : Runs conversions 1 (Set 19 (list_of no_vals) ∷ []) (Ok (dyn (dyn_bytes [])))
  pub bytes_not_taken : Refuses 19 (list_of (one (nat 1))) Operation.NotDynamic
  pub no_other_list : Runs conversions 1 (Set 20 (list_of (one (nat 1))) ∷ []) (fails 0 20 Operation.NotDynamic)
  pub no_opaque : Refuses 21 (token 0) Operation.NotDynamic
  pub no_opaque_drops : Releases conversions 0 (Set 21 (token 0) ∷ []) (1 ∷ [])
  pub no_struct : Refuses 22 (product no_vals) Operation.NotDynamic
  pub no_enum : Refuses 23 (variant 0 no_vals) Operation.NotDynamic
  pub no_option : Refuses 24 none Operation.NotDynamic
  pub no_result : Refuses 25 (ok (bool true)) Operation.NotDynamic
  pub no_map : Refuses 26 (map_of no_entries) Operation.NotDynamic
  pub no_set : Refuses 27 (set_of no_vals) Operation.NotDynamic
  pub no_array : Refuses 28 (product no_vals) Operation.NotDynamic
  pub no_pointer : Refuses 29 (ptr (bool true)) Operation.NotDynamic
  pub no_slice : Refuses 30 (list_of no_vals) Operation.NotDynamic
  pub no_undefined : Refuses 31 (token 0) Operation.NotDynamic
  pub no_wrapper : Refuses 32 (bool true) Operation.NotDynamic

-- Arrays and objects

-- dynamic values by themselves, in an option and in a struct
abbrev pub dynamics : Table
dynamics =
    u32 ∷ string ∷ plain_shape (codes "Any") Def.Dynamic ∷ plain_shape (codes "OptAny") (Def.Option (id 2))
    ∷ plain_shape (codes "Holder") (struct_of (plain_field (codes "n") 0 ∷ plain_field (codes "d") 2 ∷ [])) ∷ []

-- an entry of an object is entered and left, with what is done at it
abbrev pub in_entry : (key : List ℕ) → List Call → List Call
in_entry key script = BeginObjectEntry key ∷ script ++ End ∷ []

abbrev pub number_under : (key : List ℕ) → ℕ → List Call
number_under key n = in_entry key (Set 0 (nat n) ∷ [])

abbrev pub element : ℕ → List Call
element n = item (Set 0 (nat n) ∷ [])

abbrev pub numbers_in : List ℕ → Dynamics
numbers_in [] = no_dynamics
numbers_in (n ∷ ns) = first_dynamic (dyn_nat n) (numbers_in ns)

abbrev pub array_with : List ℕ → Dynamic
array_with ns = dyn_array (numbers_in ns)

abbrev pub array_made : List ℕ → Val
array_made ns = dyn (array_with ns)

-- an object of one entry, under `a`, or of two, under `a` and `b`
abbrev pub only_a : Dynamic → Val
only_a d = dyn (dyn_object (member (codes "a") d no_members))

abbrev pub a_and_b : (of_a of_b : Dynamic) → Val
a_and_b of_a of_b = dyn (dyn_object (member (codes "a") of_a (member (codes "b") of_b no_members)))

abbrev pub no_object : Val
no_object = dyn (dyn_object no_members)

-- a number under one key, and an array of a text under another
abbrev pub number_and_array : List Call
number_and_array = InitMap ∷ number_under (codes "a") 5 ++ in_entry (codes "b") (InitList ∷ item (Set 1 (text (codes "x")) ∷ []))

abbrev pub number_and_array_made : Val
number_and_array_made = a_and_b (dyn_nat 5) (dyn_array (first_dynamic (dyn_text (codes "x")) no_dynamics))

-- an entry is begun twice, and goes on
abbrev pub entry_twice : List Call
entry_twice =
    InitMap ∷ in_entry (codes "a") (InitList ∷ element 1) ++ number_under (codes "b") 5 ++ in_entry (codes "a") (InitList ∷ element 2)

-- an object both of whose entries are just entered, the later key first
abbrev pub two_entered : Tree
two_entered = begun (as_entries (EntriesKind.Object (codes "b" ∷ codes "a" ∷ []))) (branch entered (branch entered no_trees))

-- no dynamic value holds a token, but what stands there is dropped where it starts anew
abbrev pub array_with_token : Tree
array_with_token = begun (as_items ItemsKind.Array) (branch (whole (token 0)) no_trees)

abbrev pub object_with_token : Tree
object_with_token = begun (as_entries (EntriesKind.Object (codes "a" ∷ []))) (branch (whole (token 0)) no_trees)

pub record DynamicExamples : Type 0 where
  pub only_entered : Runs dynamics 2 [] (lacks 0 2 [])
  pub empty_array : Runs dynamics 2 (InitList ∷ []) (Ok (array_made []))
  pub empty_object : Runs dynamics 2 (InitMap ∷ []) (Ok no_object)
  pub elements : Runs dynamics 2 (InitListWithCapacity 9 ∷ element 1 ++ element 2) (Ok (array_made (1 ∷ 2 ∷ [])))
  pub nested : Runs dynamics 2 number_and_array (Ok number_and_array_made)
  pub nested_deferred : Runs dynamics 2 (in_deferred number_and_array) (Ok number_and_array_made)
  -- an array keeps its elements and an object its entries, however often they are begun
  pub elements_stay :
      Runs dynamics 2 (Set 2 (array_made (1 ∷ [])) ∷ InitList ∷ element 2 ++ InitList ∷ element 3) (Ok (array_made (1 ∷ 2 ∷ 3 ∷ [])))
  pub entries_stay :
      Runs dynamics 2 (Set 2 (only_a (dyn_bool true)) ∷ InitMap ∷ number_under (codes "b") 2 ++ InitMap
      ∷ number_under (codes "a") 3) (Ok (a_and_b (dyn_nat 3) (dyn_nat 2)))
  pub array_in_an_option :
      Runs dynamics 3 (Set 3 (some (array_made (1 ∷ []))) ∷ BeginSome ∷ InitList ∷ element 2 ++ End ∷ [])
      (Ok (some (array_made (1 ∷ 2 ∷ []))))
  pub object_in_a_struct :
      Runs dynamics 4 (in_deferred (in_field 1 (InitMap ∷ number_under (codes "a") 1) ++ put_in 0 0 (nat 7)
      ++ in_field 1 (InitMap ∷ number_under (codes "b") 2))) (Ok (product (two (nat 7) (a_and_b (dyn_nat 1) (dyn_nat 2)))))
  -- an entry whose key is there is entered as it is
  pub entry_goes_on : Runs dynamics 2 entry_twice (Ok (a_and_b (array_with (1 ∷ 2 ∷ [])) (dyn_nat 5)))
  pub entry_goes_on_deferred : Runs dynamics 2 (in_deferred entry_twice) (Ok (a_and_b (array_with (1 ∷ 2 ∷ [])) (dyn_nat 5)))
  pub entry_left_as_it_is : Runs dynamics 2 (InitMap ∷ number_under (codes "a") 1 ++ in_entry (codes "a") []) (Ok (only_a (dyn_nat 1)))
  -- a value of another kind starts anew
  pub number_to_array : Runs dynamics 2 (Set 0 (nat 1) ∷ InitList ∷ element 2) (Ok (array_made (2 ∷ [])))
  pub object_to_array : Runs dynamics 2 (InitMap ∷ number_under (codes "a") 1 ++ InitList ∷ []) (Ok (array_made []))
  pub whole_object_to_array : Runs dynamics 2 (Set 2 (only_a dyn_null) ∷ InitList ∷ []) (Ok (array_made []))
  pub number_to_object : Runs dynamics 2 (Set 0 (nat 1) ∷ InitMap ∷ number_under (codes "a") 2) (Ok (only_a (dyn_nat 2)))
  pub array_to_object : Runs dynamics 2 (in_deferred (InitList ∷ element 1 ++ InitMap ∷ [])) (Ok no_object)
  pub whole_array_to_object : Runs dynamics 2 (Set 2 (array_made (1 ∷ [])) ∷ InitMap ∷ []) (Ok no_object)
  pub array_to_number : Runs dynamics 2 (InitList ∷ element 1 ++ Set 0 (nat 2) ∷ []) (Ok (dyn (dyn_nat 2)))
  pub array_anew_drops : Drops dynamics 2 strict object_with_token InitList 0 1
  pub array_with_capacity_anew_drops : Drops dynamics 2 strict object_with_token (InitListWithCapacity 1) 0 1
  pub object_anew_drops : Drops dynamics 2 strict array_with_token InitMap 0 1
  pub array_kept_drops_none : Drops dynamics 2 strict array_with_token InitList 0 0
  pub object_kept_drops_none : Drops dynamics 2 strict object_with_token InitMap 0 0
  pub entry_drops_none : Drops dynamics 2 strict object_with_token (BeginObjectEntry (codes "a")) 0 0
  -- an element or an entry is completed as it ends, in deferred mode too
  pub element_missing : Runs dynamics 2 (InitList ∷ item []) (lacks 2 2 (PathStep.Index 0 ∷ []))
  pub element_missing_deferred : Runs dynamics 2 (in_deferred (InitList ∷ item [])) (lacks 3 2 (PathStep.Index 0 ∷ []))
  pub entry_missing_deferred :
      Runs dynamics 2 (in_deferred (InitMap ∷ in_entry (codes "a") [])) (lacks 3 2 (PathStep.Entry (codes "a") ∷ []))
  -- deferred mode ends inside an entry, which is left in strict mode
  pub finished_inside :
      Runs dynamics 2 (BeginDeferred ∷ InitMap ∷ BeginObjectEntry (codes "a") ∷ Set 0 (nat 1) ∷ FinishDeferred
      ∷ End ∷ number_under (codes "b") 2) (Ok (a_and_b (dyn_nat 1) (dyn_nat 2)))
  pub finished_too_early :
      Runs dynamics 2 (BeginDeferred ∷ InitMap ∷ BeginObjectEntry (codes "a") ∷ FinishDeferred ∷ [])
      (lacks 3 2 (PathStep.Entry (codes "a") ∷ []))
  -- paths: an element's counts all that stands in front, an entry's is its key
  pub path_behind_elements :
      Runs dynamics 2 (Set 2 (array_made (1 ∷ 2 ∷ [])) ∷ InitList ∷ element 3 ++ item []) (lacks 6 2 (PathStep.Index 3 ∷ []))
  pub path_inside :
      Runs dynamics 2 (InitMap ∷ number_under (codes "a") 1 ++ in_entry (codes "b") (InitList ∷ item []))
      (lacks 7 2 (PathStep.Entry (codes "b") ∷ PathStep.Index 0 ∷ []))
  pub entries_go_by_key :
      first_by_walk (failures no_hooks dynamics 2 [] two_entered)
      ≡ Some (record { path = PathStep.Entry (codes "a") ∷ []; kind = missing_value 2 })
  -- refusals
  pub entry_of_other : Runs dynamics 0 (BeginObjectEntry (codes "a") ∷ []) (fails 0 0 Operation.EntryOfOther)
  pub entry_of_entered : Runs dynamics 2 (BeginObjectEntry (codes "a") ∷ []) (fails 0 2 Operation.EntryBeforeInitMap)
  pub entry_of_array : Runs dynamics 2 (InitList ∷ BeginObjectEntry (codes "a") ∷ []) (fails 1 2 Operation.EntryBeforeInitMap)
  pub entry_of_whole : Runs dynamics 2 (Set 2 no_object ∷ BeginObjectEntry (codes "a") ∷ []) (fails 1 2 Operation.EntryBeforeInitMap)
  pub item_of_object : Runs dynamics 2 (InitMap ∷ BeginListItem ∷ []) (fails 1 2 Operation.ItemOfOther)
  pub item_of_entered : Runs dynamics 2 (BeginListItem ∷ []) (fails 0 2 Operation.ItemOfOther)
  pub key_of_object : Runs dynamics 2 (InitMap ∷ BeginKey ∷ []) (fails 1 2 Operation.KeyBeforeInitMap)
  pub value_of_object : Runs dynamics 2 (InitMap ∷ BeginValue ∷ []) (fails 1 2 Operation.ValueBeforeKey)
  pub no_set : Runs dynamics 2 (InitSet ∷ []) (fails 0 2 Operation.InitSetOfOther)
  pub no_begun_set : Runs dynamics 2 (InitList ∷ InitSet ∷ []) (refused 1 (unexpected InitCall.Set TrackerKind.DynamicValue) [])
  pub no_set_item : Runs dynamics 2 (BeginSetItem ∷ []) (fails 0 2 Operation.SetItemOfOther)
