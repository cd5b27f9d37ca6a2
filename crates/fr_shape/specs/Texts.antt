-- The texts of refusals, one for each fault.
use Rattle.std.specs.Prelude.{ℕ, List, codes}
use Rattle.fr_shape.specs.declared.error.PlanFault.{PlanFault}
use Rattle.fr_shape.specs.declared.error.InitCall.{InitCall}
use Rattle.fr_shape.specs.declared.error.Invariant.{Invariant}
use Rattle.fr_shape.specs.declared.error.Operation.{Operation}

-- why a shape can't be planned
abbrev pub plan_fault_text : PlanFault → List ℕ
plan_fault_text PlanFault.Unsupported = codes "unsupported type for deserialization"
plan_fault_text PlanFault.NeedsTryFrom = codes "transparent wrapper requires try_from for deserialization"
plan_fault_text PlanFault.NotSized = codes "type is not sized"

-- an `init` call at a place that it isn't for
abbrev pub init_call_text : InitCall → List ℕ
init_call_text InitCall.List = codes "init_list called but tracker isn't something list-like"
init_call_text InitCall.Map = codes "init_map called but tracker isn't Scalar, Map, or DynamicValue"
init_call_text InitCall.Set = codes "init_set called but tracker isn't something set-like"

-- a wrong mode or depth, or a type's invariant
abbrev pub invariant_text : Invariant → List ℕ
invariant_text Invariant.EndAtRoot = codes "Partial::end() called with only one frame on the stack"
invariant_text Invariant.EndAtStart = codes "Partial::end() called but would pop below deferred start depth"
invariant_text Invariant.AlreadyDeferred = codes "begin_deferred() called but already in deferred mode"
invariant_text Invariant.NotDeferred = codes "finish_deferred() called but deferred mode is not enabled"
invariant_text Invariant.BuildDeferred = codes "build() called but deferred mode is enabled"
invariant_text Invariant.BuildOpenFrames = codes "build() called but more than one frame is on the stack"
invariant_text Invariant.TypeInvariant = codes "a type invariant does not hold"

-- an operation that the place doesn't allow
abbrev pub operation_text : Operation → List ℕ
operation_text Operation.FieldIndexOutOfBounds = codes "field index out of bounds"
operation_text Operation.FieldOfUnselectedVariant = codes "must call select_variant before selecting enum fields"
operation_text Operation.VariantFieldIndexOutOfBounds = codes "enum field index out of bounds"
operation_text Operation.ArrayIndexOutOfBounds = codes "array index out of bounds"
operation_text Operation.ArrayTooLarge = codes "arrays larger than 4096 elements are not yet supported"
operation_text Operation.ElementOfWholeArray = codes "unexpected tracker state: expected uninitialized Scalar or Array"
operation_text Operation.FieldOfSlice = codes "cannot select a field from slices yet"
operation_text Operation.FieldOfOpaque = codes "cannot select a field from an opaque type"
operation_text Operation.FieldOfOther = codes "cannot select a field from this type"
operation_text Operation.NamedFieldOfUnselectedVariant = codes "must select variant before selecting enum fields"
operation_text Operation.NamedFieldOfUndefined = codes "shape type is undefined - shape was not properly configured"
operation_text Operation.NamedFieldOfPrimitive = codes "cannot select a field from a primitive type"
operation_text Operation.NamedFieldOfSequence = codes "cannot select a field from a sequence type"
operation_text Operation.NamedFieldOfOpaque = codes "opaque types cannot be reflected upon"
operation_text Operation.NamedFieldOfPointer = codes "cannot select a field from a pointer type"
operation_text Operation.NoDefault = codes "type does not implement Default"
operation_text Operation.DynamicSignedSize = codes "unsupported signed integer size for dynamic value"
operation_text Operation.DynamicUnsignedSize = codes "unsupported unsigned integer size for dynamic value"
operation_text Operation.NotDynamic = codes "cannot convert this type to dynamic value"
operation_text Operation.NoParsing = codes "Type does not support parsing from string"
operation_text Operation.NoParsingOfBytes = codes "Type does not support parsing from bytes"
operation_text Operation.BytesNotParsed = codes "Failed to parse bytes value"
operation_text Operation.InitListOfOther = codes "init_list can only be called on List or DynamicValue types"
operation_text Operation.InitListOfWholeOther = codes "init_list can only be called on List types or DynamicValue"
operation_text Operation.InitArrayOfOther = codes "init_array can only be called on Array types"
operation_text Operation.InitArrayOfBegun = codes "init_array: unexpected tracker state"
operation_text Operation.ItemStillOpen = codes "already building an item, call end() first"
operation_text Operation.ItemOfOther = codes "push can only be called on List or DynamicValue types"
operation_text Operation.ItemBeforeInitList = codes "must call init_list() before push()"
operation_text Operation.InitMapOfOther = codes "init_map can only be called on Map or DynamicValue types"
operation_text Operation.KeyBeforeValue = codes "must complete current operation before begin_key()"
operation_text Operation.KeyBeforeInitMap = codes "must call init_map() before begin_key()"
operation_text Operation.ValueBeforeKey = codes "must complete key before begin_value()"
operation_text Operation.EntryBeforeInitMap = codes "must call init_map() before begin_object_entry()"
operation_text Operation.EntryOfOther = codes "begin_object_entry can only be called on DynamicValue types"
operation_text Operation.InitSetOfOther = codes "init_set can only be called on Set types"
operation_text Operation.SetItemOfOther = codes "init_set_item can only be called on Set types"
operation_text Operation.SetItemBeforeInitSet = codes "must call init_set() before begin_set_item()"
operation_text Operation.PointerNotConstructible = codes "push_smart_ptr can only be called on compatible types"
operation_text Operation.PointerWithoutPointee = codes "Smart pointer must have a pointee shape"
operation_text Operation.SlicePointerNotBuildable = codes "smart pointer does not support slice building"
operation_text Operation.PointeeNotBuildable = codes "push_smart_ptr can only be called on pointers to supported pointee types"
operation_text Operation.NoInner = codes "type does not have an inner value"
operation_text Operation.NotInField = codes "not currently processing a field"
operation_text Operation.FieldWithoutProxy = codes "field does not have a proxy"
operation_text Operation.NoProxyForFormat = codes "no proxy node found for format"
operation_text Operation.VariantIndexOutOfBounds = codes "variant index out of bounds"
operation_text Operation.VariantNameUnknown = codes "No variant found with the given name"
operation_text Operation.DiscriminantUnknown = codes "No variant found with the given discriminant"
operation_text Operation.RustLayout = codes "Rust enums with unspecified discriminant layout are not supported for incremental building"
operation_text Operation.RustNpoLayout = codes "RustNPO enums are not supported for incremental building"
operation_text Operation.VariantWithoutDiscriminant = codes "trying to select an enum variant without a discriminant"
operation_text Operation.NotSharedReference = codes "set_empty_shared_slice requires a shared slice reference"
operation_text Operation.SharedReferenceWithoutPointee = codes "shared reference pointer missing pointee shape"
operation_text Operation.PointeeNotSlice = codes "set_empty_shared_slice requires a slice pointee"
