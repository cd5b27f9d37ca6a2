-- What a document is: its bytes, read in the order in which its faults are told.
use Rattle.std.specs.Prelude.{ℕ, ◌+◌, ◌==◌, Bool, true, false, not, ◌&&◌, List, [], ◌∷◌, ◌++◌, length, replicate, slice_index, sum_by, nat_lt, nat_le, nat_eq, Option, Some, None, Result, Ok, Err, if◌then◌else◌}
use Rattle.std.specs.List.{list_any}
use Rattle.std.specs.Option.{ok_or}
use Rattle.std.specs.Str.{is_utf8}
use Rattle.serde_json.specs.Data.{Data, array}
use Rattle.serde_json.specs.Read.{read}
use Rattle.serde_json.specs.Written.{has_float}
use Rattle.fr_shape.specs.declared.shape.Def.{Def}
use Rattle.fr_shape.specs.declared.shape.Shape.{Shape}
use Rattle.fr_shape.specs.Look.{Table}
use Rattle.fr_shape.specs.Faults.{rules_of}
use Rattle.fr_shape.specs.Fits.{fits}
use Rattle.fr_shape.specs.Tokens.{tokens}
use Rattle.fr_shape.specs.Val.{Val}
use Rattle.fr_doc.specs.declared.fault.DocFault.{DocFault}
use Rattle.fr_doc.specs.declared.fault.DocPlace.{DocPlace}
use Rattle.fr_doc.specs.declared.fault.DocSize.{DocSize}
use Rattle.fr_doc.specs.declared.looping.TheConstants.{DOCUMENT_LIMIT}
use Rattle.fr_doc.specs.FaultSteps.{◌>>=◌, each_at}
use Rattle.fr_doc.specs.Numerals.{whole_number}
use Rattle.fr_doc.specs.ShapeForms.{shape_at}
use Rattle.fr_model.specs.Commands.{Call}
use Rattle.fr_model.specs.Conversions.{has_proxies}
use Rattle.fr_model.specs.Scripts.{value_brought, tokens_of}
use Rattle.fr_script.specs.declared.sizes.TheConstants.{SHAPE_LIMIT, PART_LIMIT, COMMAND_LIMIT, TOKEN_LIMIT, DEPTH_LIMIT}
use Rattle.fr_script.specs.CommandForms.{call_form}
use Rattle.fr_script.specs.Members.{members_form}

-- a table, a root, how many tokens there are, and a script
pub record Document : Type 0 where
  pub shapes : Table
  pub root : ℕ
  pub tokens : ℕ
  pub script : List Call

-- passed, or at fault
abbrev pub asks : Bool → DocFault → Result (Unit {0}) DocFault
asks true fault = Ok tt
asks false fault = Err fault

abbrev pub at_most : ℕ → ℕ → DocFault → Result (Unit {0}) DocFault
at_most limit n fault = asks (nat_le n limit) fault

abbrev pub broken : {X : Type 0} → DocPlace → Option X → Result X DocFault
broken place found = ok_or found (DocFault.BadForm place)

-- Forms, by place: the document, its shapes, each shape, the root, the tokens, the commands, each command.

-- a number below the number of shapes
abbrev pub below : ℕ → ℕ → Option ℕ
below limit n = if nat_lt n limit then Some n else None

unfoldable pub root_form : ℕ → Data → Result ℕ DocFault
root_form shapes d = do
  n ← broken DocPlace.Root (whole_number d)
  broken DocPlace.Root (below shapes n)

-- how many tokens there are: none where nothing is said of them
unfoldable pub tokens_form : Option Data → Result ℕ DocFault
tokens_form None = Ok 0
tokens_form (Some d) = broken DocPlace.Tokens (whole_number d)

abbrev pub call_at : ℕ → Data → Result Call DocFault
call_at i d = broken (DocPlace.Command i) (call_form d)

unfoldable pub script_form : Data → Result (List Call) DocFault
script_form (array ds) = each_at call_at 0 ds
script_form _ = Err (DocFault.BadForm DocPlace.Commands)

unfoldable pub shapes_form : Data → Result Table DocFault
shapes_form (array ds) = each_at shape_at 0 ds
shapes_form _ = Err (DocFault.BadForm DocPlace.Shapes)

unfoldable pub document_form : Data → Result Document DocFault
document_form d = do
  members ← broken DocPlace.Document (members_form d)
  shapes ← shapes_form members.shapes
  root ← root_form (length shapes) members.root
  tokens ← tokens_form members.tokens
  script ← script_form members.commands
  Ok (record { shapes = shapes; root = root; tokens = tokens; script = script })

-- Sizes.

-- how many fields and variants a definition has
abbrev pub part_count : Def → ℕ
part_count (Def.Struct struct) = length struct.fields
part_count (Def.Enum enum) = sum_by (λ variant. 1 + length variant.fields) enum.variants
part_count (Def.Scalar kind) = 0
part_count Def.Str = 0
part_count Def.Opaque = 0
part_count (Def.Option t) = 0
part_count (Def.Result t e) = 0
part_count (Def.List t) = 0
part_count (Def.Map k v) = 0
part_count (Def.Set t) = 0
part_count (Def.Array t n) = 0
part_count (Def.Pointer pointer) = 0
part_count (Def.Slice t) = 0
part_count Def.Dynamic = 0
part_count Def.Undefined = 0
part_count Def.Other = 0

-- the same of all shapes together
abbrev pub part_total : Table → ℕ
part_total shapes = sum_by (λ shape. part_count shape.def) shapes

-- some shape has a proxy, for whatever format
abbrev pub has_proxied : Table → Bool
has_proxied shapes = list_any (λ (shape : Shape). has_proxies shape.proxy shape.format_proxies) shapes

-- How many places a call may enter, over a table in which some shape has a proxy or none has: one where its name begins with
-- `begin_`. But `begin_deferred` enters none, and neither do those from the shape where no shape has a proxy.
abbrev pub places_begun : (proxied : Bool) → Call → ℕ
places_begun proxied (Call.BeginField name) = 1
places_begun proxied (Call.BeginNthField i) = 1
places_begun proxied (Call.SetNthFieldToDefault i) = 0
places_begun proxied (Call.Set shape v) = 0
places_begun proxied Call.SetDefault = 0
places_begun proxied (Call.ParseFromStr text) = 0
places_begun proxied (Call.ParseFromBytes bytes) = 0
places_begun proxied Call.SetEmptySharedSlice = 0
places_begun proxied Call.InitList = 0
places_begun proxied (Call.InitListWithCapacity n) = 0
places_begun proxied Call.InitArray = 0
places_begun proxied Call.BeginListItem = 1
places_begun proxied Call.InitMap = 0
places_begun proxied Call.BeginKey = 1
places_begun proxied Call.BeginValue = 1
places_begun proxied Call.InitSet = 0
places_begun proxied Call.BeginSetItem = 1
places_begun proxied (Call.BeginObjectEntry key) = 1
places_begun proxied Call.BeginSome = 1
places_begun proxied Call.BeginOk = 1
places_begun proxied Call.BeginErr = 1
places_begun proxied Call.BeginSmartPtr = 1
places_begun proxied Call.BeginInner = 1
places_begun proxied Call.BeginCustomDeserialization = 1
places_begun proxied (Call.BeginCustomDeserializationWithFormat format) = 1
places_begun proxied Call.BeginCustomDeserializationFromShape = if proxied then 1 else 0
places_begun proxied (Call.BeginCustomDeserializationFromShapeWithFormat format) = if proxied then 1 else 0
places_begun proxied (Call.SelectNthVariant i) = 0
places_begun proxied (Call.SelectVariantNamed name) = 0
places_begun proxied (Call.SelectVariant discriminant) = 0
places_begun proxied Call.End = 0
places_begun proxied Call.BeginDeferred = 0
places_begun proxied Call.FinishDeferred = 0

-- how many places it leaves
abbrev pub places_ended : Call → ℕ
places_ended (Call.BeginField name) = 0
places_ended (Call.BeginNthField i) = 0
places_ended (Call.SetNthFieldToDefault i) = 0
places_ended (Call.Set shape v) = 0
places_ended Call.SetDefault = 0
places_ended (Call.ParseFromStr text) = 0
places_ended (Call.ParseFromBytes bytes) = 0
places_ended Call.SetEmptySharedSlice = 0
places_ended Call.InitList = 0
places_ended (Call.InitListWithCapacity n) = 0
places_ended Call.InitArray = 0
places_ended Call.BeginListItem = 0
places_ended Call.InitMap = 0
places_ended Call.BeginKey = 0
places_ended Call.BeginValue = 0
places_ended Call.InitSet = 0
places_ended Call.BeginSetItem = 0
places_ended (Call.BeginObjectEntry key) = 0
places_ended Call.BeginSome = 0
places_ended Call.BeginOk = 0
places_ended Call.BeginErr = 0
places_ended Call.BeginSmartPtr = 0
places_ended Call.BeginInner = 0
places_ended Call.BeginCustomDeserialization = 0
places_ended (Call.BeginCustomDeserializationWithFormat format) = 0
places_ended Call.BeginCustomDeserializationFromShape = 0
places_ended (Call.BeginCustomDeserializationFromShapeWithFormat format) = 0
places_ended (Call.SelectNthVariant i) = 0
places_ended (Call.SelectVariantNamed name) = 0
places_ended (Call.SelectVariant discriminant) = 0
places_ended Call.End = 1
places_ended Call.BeginDeferred = 0
places_ended Call.FinishDeferred = 0

-- after some call there were more begins than ends by over the limit
abbrev pub too_deep : (proxied : Bool) → (begun ended : ℕ) → List Call → Bool
too_deep proxied begun ended [] = false
too_deep proxied begun ended (call ∷ calls) =
    if nat_lt (ended + places_ended call + DEPTH_LIMIT) (begun + places_begun proxied call) then true
    else too_deep proxied (begun + places_begun proxied call) (ended + places_ended call) calls

unfoldable pub sizes_pass : Document → Result (Unit {0}) DocFault
sizes_pass document = do
  _ ← at_most SHAPE_LIMIT (length document.shapes) (DocFault.TooLarge DocSize.Shapes)
  _ ← at_most PART_LIMIT (part_total document.shapes) (DocFault.TooLarge DocSize.Fields)
  _ ← at_most COMMAND_LIMIT (length document.script) (DocFault.TooLarge DocSize.Commands)
  _ ← at_most TOKEN_LIMIT document.tokens (DocFault.TooLarge DocSize.Tokens)
  asks (not (too_deep (has_proxied document.shapes) 0 0 document.script)) (DocFault.TooLarge DocSize.Depth)

-- The table's rules: the smallest of the nine that is broken, at the first entry that breaks it.

abbrev pub first_breaking : (ℕ → Shape → Bool) → ℕ → List Shape → Option ℕ
first_breaking keeps i [] = None
first_breaking keeps i (shape ∷ shapes) = if keeps i shape then first_breaking keeps (i + 1) shapes else Some i

abbrev pub breaks : ℕ → Option ℕ → Result (Unit {0}) DocFault
breaks rule None = Ok tt
breaks rule (Some i) = Err (DocFault.Unchecked (record { rule = rule; entry = i }))

-- these rules in turn, the first of them being of this number
abbrev pub each_rule : Table → ℕ → List (ℕ → Shape → Bool) → Result (Unit {0}) DocFault
each_rule table rule [] = Ok tt
each_rule table rule (keeps ∷ others) = do
  _ ← breaks rule (first_breaking keeps 0 table)
  each_rule table (rule + 1) others

unfoldable pub rules_pass : Table → Result (Unit {0}) DocFault
rules_pass table = each_rule table 1 (rules_of table)

-- The script: the first command that isn't valid.

abbrev pub is_new : ℕ → List ℕ → Bool
is_new t brought = not (list_any (nat_eq t) brought)

-- each token is one of the ledger's, was never released, and wasn't brought before
abbrev pub are_new : List ℕ → List ℕ → List ℕ → Bool
are_new ledger brought [] = true
are_new ledger brought (t ∷ ts) =
    nat_lt t (length ledger) && (slice_index ledger t == 0) && is_new t brought && are_new ledger (t ∷ brought) ts

-- the value, if there is one, fits the shape that is named with it, which is in the table, and its tokens are new
abbrev pub may_be_brought : Table → (ledger brought : List ℕ) → Option (ℕ × Val) → Bool
may_be_brought table ledger brought (Some (shape, v)) =
    nat_lt shape (length table) && fits table shape v && are_new ledger brought (tokens v)
may_be_brought table ledger brought None = true

-- a call is valid if what it brings may be brought
abbrev pub is_valid_call : Table → (ledger brought : List ℕ) → Call → Bool
is_valid_call table ledger brought call = may_be_brought table ledger brought (value_brought call)

-- the first of these calls, counted from i, that isn't valid after what was brought before it
abbrev pub first_invalid : Table → List ℕ → List ℕ → ℕ → List Call → Option ℕ
first_invalid table ledger brought i [] = None
first_invalid table ledger brought i (call ∷ calls) =
    if is_valid_call table ledger brought call then
    first_invalid table ledger (tokens_of call ++ brought) (i + 1) calls
    else Some i

abbrev pub invalid : Option ℕ → Result (Unit {0}) DocFault
invalid None = Ok tt
invalid (Some i) = Err (DocFault.Invalid i)

unfoldable pub script_passes : Document → Result (Unit {0}) DocFault
script_passes document =
    invalid (first_invalid document.shapes (replicate document.tokens 0) [] 0 document.script)

-- The JSON tree of some bytes: of a text that is JSON.
abbrev pub tree_of : List ℕ → Option Data
tree_of bytes = if is_utf8 bytes then read bytes else None

-- the document that bytes are, or their first fault
unfoldable pub document_of : List ℕ → Result Document DocFault
document_of bytes = do
  _ ← at_most DOCUMENT_LIMIT (length bytes) DocFault.TooLong
  d ← ok_or (tree_of bytes) DocFault.NotJson
  _ ← asks (not (has_float d)) DocFault.HasFloat
  document ← document_form d
  _ ← sizes_pass document
  _ ← rules_pass document.shapes
  _ ← script_passes document
  Ok document
