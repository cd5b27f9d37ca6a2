-- Calls of the builder as plain data.
use Rattle.fr_model.specs.Common.{ℕ, ℤ, List, map, Option, Val}
use Rattle.fr_model.specs.Each.{Each}
use Rattle.fr_shape.specs.View.{view}
use Rattle.fr_model.specs.declared.command.Command.{Command}

-- a consuming call with its arguments; a shape is told by its number
pub data Call : Type 0 where
  BeginField : (name : List ℕ) → Call
  BeginNthField : ℕ → Call
  SetNthFieldToDefault : ℕ → Call
  Set : ℕ → Val → Call
  SetDefault : Call
  ParseFromStr : (text : List ℕ) → Call
  ParseFromBytes : (bytes : List ℕ) → Call
  SetEmptySharedSlice : Call
  InitList : Call
  InitListWithCapacity : ℕ → Call
  InitArray : Call
  BeginListItem : Call
  InitMap : Call
  BeginKey : Call
  BeginValue : Call
  InitSet : Call
  BeginSetItem : Call
  BeginObjectEntry : (key : List ℕ) → Call
  BeginSome : Call
  BeginOk : Call
  BeginErr : Call
  BeginSmartPtr : Call
  BeginInner : Call
  BeginCustomDeserialization : Call
  BeginCustomDeserializationWithFormat : (format : Option (List ℕ)) → Call
  BeginCustomDeserializationFromShape : Call
  BeginCustomDeserializationFromShapeWithFormat : (format : Option (List ℕ)) → Call
  SelectNthVariant : ℕ → Call
  SelectVariantNamed : (name : List ℕ) → Call
  SelectVariant : (discriminant : ℤ) → Call
  End : Call
  BeginDeferred : Call
  FinishDeferred : Call

-- what a command stands for
abbrev pub call_of : Command → Call
call_of (Command.BeginField name) = Call.BeginField name
call_of (Command.BeginNthField i) = Call.BeginNthField i
call_of (Command.SetNthFieldToDefault i) = Call.SetNthFieldToDefault i
call_of (Command.Set shape v) = Call.Set shape.0 (view v)
call_of Command.SetDefault = Call.SetDefault
call_of (Command.ParseFromStr text) = Call.ParseFromStr text
call_of (Command.ParseFromBytes bytes) = Call.ParseFromBytes bytes
call_of Command.SetEmptySharedSlice = Call.SetEmptySharedSlice
call_of Command.InitList = Call.InitList
call_of (Command.InitListWithCapacity n) = Call.InitListWithCapacity n
call_of Command.InitArray = Call.InitArray
call_of Command.BeginListItem = Call.BeginListItem
call_of Command.InitMap = Call.InitMap
call_of Command.BeginKey = Call.BeginKey
call_of Command.BeginValue = Call.BeginValue
call_of Command.InitSet = Call.InitSet
call_of Command.BeginSetItem = Call.BeginSetItem
call_of (Command.BeginObjectEntry key) = Call.BeginObjectEntry key
call_of Command.BeginSome = Call.BeginSome
call_of Command.BeginOk = Call.BeginOk
call_of Command.BeginErr = Call.BeginErr
call_of Command.BeginSmartPtr = Call.BeginSmartPtr
call_of Command.BeginInner = Call.BeginInner
call_of Command.BeginCustomDeserialization = Call.BeginCustomDeserialization
call_of (Command.BeginCustomDeserializationWithFormat format) = Call.BeginCustomDeserializationWithFormat format
call_of Command.BeginCustomDeserializationFromShape = Call.BeginCustomDeserializationFromShape
call_of (Command.BeginCustomDeserializationFromShapeWithFormat format) = Call.BeginCustomDeserializationFromShapeWithFormat format
call_of (Command.SelectNthVariant i) = Call.SelectNthVariant i
call_of (Command.SelectVariantNamed name) = Call.SelectVariantNamed name
call_of (Command.SelectVariant discriminant) = Call.SelectVariant discriminant
call_of Command.End = Call.End
call_of Command.BeginDeferred = Call.BeginDeferred
call_of Command.FinishDeferred = Call.FinishDeferred

-- what a script stands for
abbrev pub calls_of : List Command → List Call
calls_of script = map call_of script

-- the calls that field scripts are made of: fields and elements are entered, set and left, in either mode
abbrev pub IsFieldCall : Call → Type 0
IsFieldCall (Call.BeginField name) = Unit {0}
IsFieldCall (Call.BeginNthField i) = Unit {0}
IsFieldCall (Call.Set shape v) = Unit {0}
IsFieldCall Call.SetDefault = Unit {0}
IsFieldCall Call.End = Unit {0}
IsFieldCall Call.BeginDeferred = Unit {0}
IsFieldCall Call.FinishDeferred = Unit {0}
IsFieldCall _ = ⊥

-- a field script: each of its calls is one of these
abbrev pub IsFieldScript : List Call → Type 0
IsFieldScript script = Each IsFieldCall script
