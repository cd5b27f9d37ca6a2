-- What is printed of an answer: one JSON object as compact text, its keys in byte order, and a line feed.
use Rattle.std.specs.Prelude.{ℕ, zero, suc, ◌+◌, ◌-◌, ◌==◌, List, [], ◌∷◌, ◌++◌, map, Result, Ok, Err, codes, decimal, if◌then◌else◌}
use Rattle.serde_json.specs.Data.{Data, string, array, object, Items, no_members, member}
use Rattle.serde_json.specs.View.{items_of}
use Rattle.serde_json.specs.Written.{compact_text}
use Rattle.fr_shape.specs.declared.error.ReflectErrorKind.{ReflectErrorKind}
use Rattle.fr_shape.specs.Tokens.{occurs}
use Rattle.fr_shape.specs.Val.{Val}
use Rattle.fr_doc.specs.declared.fault.DocFault.{DocFault}
use Rattle.fr_doc.specs.declared.fault.DocPlace.{DocPlace}
use Rattle.fr_doc.specs.declared.fault.DocSize.{DocSize}
use Rattle.fr_doc.specs.Details.{detail_text}
use Rattle.fr_doc.specs.DocHooks.{doc_hooks}
use Rattle.fr_doc.specs.Printed.{under, natural, value_data}
use Rattle.fr_model.specs.Run.{Refusal, full_run}
use Rattle.fr_model.specs.Scripts.{brought}
use Rattle.fr_path.specs.PathText.{path_text}
use Rattle.fr_plan.specs.Build.{Built as Planned, Made, planned as the_plan}
use Rattle.fr_shape.specs.declared.error.PlanFault.{PlanFault}
use Rattle.fr_shape.specs.Look.{Table}
use Rattle.fr_shape.specs.Texts.{plan_fault_text}
use Rattle.fr_script.specs.declared.subcommand.Subcommand.{Subcommand}
use Rattle.fr_script.specs.Documents.{Document, document_of}
use Rattle.fr_script.specs.PlanReports.{NodeLine, outline_line}

-- What a run comes to: a fault of the document; under `build` a value or a refusal, with the released tokens; under
-- `plan` the nodes of a plan with the number of the root's, or why there is none.
pub data Outcome : Type 0 where
  faulty : DocFault → Outcome
  built : Val → List ℕ → Outcome
  refused : Refusal → List ℕ → Outcome
  planned : List NodeLine → ℕ → Outcome
  unplanned : PlanFault → Outcome

-- The released tokens, ascending, of those from number t on, so many: those whose count is 1 at the end, which are
-- those that were brought and don't stand in the answer.
abbrev pub released_from : (brought answered : ℕ → ℕ) → ℕ → ℕ → List ℕ
released_from brought answered t zero = []
released_from brought answered t (suc count) =
    if brought t - answered t == 1 then t ∷ released_from brought answered (t + 1) count
    else released_from brought answered (t + 1) count

abbrev pub released : Document → (ℕ → ℕ) → List ℕ
released document answered = released_from (brought document.script) answered 0 document.tokens

abbrev pub none_answered : ℕ → ℕ
none_answered t = 0

abbrev pub outcome_of_run : Document → Result Val Refusal → Outcome
outcome_of_run document (Ok v) = built v (released document (occurs v))
outcome_of_run document (Err refusal) = refused refusal (released document none_answered)

-- the machine's run of a document's script, with the hooks that documents name
abbrev pub run_of : Document → Result Val Refusal
run_of document = full_run doc_hooks document.shapes document.root document.script

abbrev pub outcome_of_plan : Table → Planned Made → Outcome
outcome_of_plan table (Ok made) = planned (map (outline_line table) made.walk.nodes) made.node.0
outcome_of_plan table (Err error) = unplanned error.operation

-- the plan of a document's root
abbrev pub plan_of : Document → Planned Made
plan_of document = the_plan document.shapes (record { 0 = document.root })

abbrev pub outcome_of_document : Subcommand → Result Document DocFault → Outcome
outcome_of_document subcommand (Err fault) = faulty fault
outcome_of_document Subcommand.Build (Ok document) = outcome_of_run document (run_of document)
outcome_of_document Subcommand.Plan (Ok document) = outcome_of_plan document.shapes (plan_of document)

-- what the bytes of an input come to under a subcommand
abbrev pub outcome_of : Subcommand → List ℕ → Outcome
outcome_of subcommand bytes = outcome_of_document subcommand (document_of bytes)

-- 0 for a value or a plan, 1 where there is none, 2 for a faulty document
abbrev pub status_of : Outcome → ℕ
status_of (built v tokens) = 0
status_of (refused refusal tokens) = 1
status_of (planned lines root) = 0
status_of (unplanned fault) = 1
status_of (faulty fault) = 2

-- Names.

abbrev pub kind_name : ReflectErrorKind → List ℕ
kind_name (ReflectErrorKind.Alloc error) = codes "Alloc"
kind_name (ReflectErrorKind.WasNotA expected actual) = codes "WasNotA"
kind_name (ReflectErrorKind.OperationFailed shape operation) = codes "OperationFailed"
kind_name (ReflectErrorKind.UnexpectedTracker call current) = codes "UnexpectedTracker"
kind_name (ReflectErrorKind.WrongShape expected actual) = codes "WrongShape"
kind_name (ReflectErrorKind.FieldError shape) = codes "FieldError"
kind_name (ReflectErrorKind.UninitializedField field) = codes "UninitializedField"
kind_name (ReflectErrorKind.UninitializedValue shape) = codes "UninitializedValue"
kind_name (ReflectErrorKind.DefaultAttrButNoDefaultImpl shape) = codes "DefaultAttrButNoDefaultImpl"
kind_name (ReflectErrorKind.ValidationFailed field message) = codes "ValidationFailed"
kind_name (ReflectErrorKind.CustomDeserializationError message source target) = codes "CustomDeserializationError"
kind_name (ReflectErrorKind.TryFromError source target inner) = codes "TryFromError"
kind_name (ReflectErrorKind.ParseFailed shape) = codes "ParseFailed"
kind_name (ReflectErrorKind.InvariantViolation invariant) = codes "InvariantViolation"
kind_name (ReflectErrorKind.InvalidOperation reason) = codes "InvalidOperation"
kind_name ReflectErrorKind.OutOfMemory = codes "OutOfMemory"

abbrev pub place_name : DocPlace → List ℕ
place_name DocPlace.Document = codes "document"
place_name DocPlace.Shapes = codes "shapes"
place_name (DocPlace.Shape i) = codes "shape " ++ decimal i
place_name DocPlace.Root = codes "root"
place_name DocPlace.Tokens = codes "tokens"
place_name DocPlace.Commands = codes "commands"
place_name (DocPlace.Command i) = codes "command " ++ decimal i

abbrev pub size_name : DocSize → List ℕ
size_name DocSize.Shapes = codes "shapes"
size_name DocSize.Fields = codes "fields"
size_name DocSize.Commands = codes "commands"
size_name DocSize.Tokens = codes "tokens"
size_name DocSize.Depth = codes "depth"

-- The JSON of a report.

abbrev pub naturals : List ℕ → Items
naturals ns = items_of (map natural ns)

abbrev pub fault_data : DocFault → Data
fault_data DocFault.TooLong = under (codes "fault") (string (codes "TooLong"))
fault_data DocFault.NotJson = under (codes "fault") (string (codes "NotJson"))
fault_data DocFault.HasFloat = under (codes "fault") (string (codes "HasFloat"))
fault_data (DocFault.BadForm place) =
    object
    (member (codes "fault") (string (codes "BadForm"))
    (member (codes "place") (string (place_name place)) no_members))
fault_data (DocFault.TooLarge size) =
    object
    (member (codes "fault") (string (codes "TooLarge"))
    (member (codes "what") (string (size_name size)) no_members))
fault_data (DocFault.Unchecked broken) =
    object
    (member (codes "entry") (natural broken.entry)
    (member (codes "fault") (string (codes "Unchecked")) (member (codes "rule") (natural broken.rule) no_members)))
fault_data (DocFault.Invalid i) =
    object
    (member (codes "command") (natural i) (member (codes "fault") (string (codes "Invalid")) no_members))

abbrev pub error_object : (number : ℕ) → (detail kind path : List ℕ) → Data
error_object number detail kind path =
    object
    (member (codes "command") (natural number)
    (member (codes "detail") (string detail)
    (member (codes "kind") (string kind) (member (codes "path") (string path) no_members))))

-- a refusal, its names and its path told by the table and the root that were built on
abbrev pub error_data : Table → (root : ℕ) → Refusal → Data
error_data table root refusal =
    error_object refusal.number (detail_text table refusal.kind) (kind_name refusal.kind)
    (path_text table (record { 0 = root }) refusal.path)

abbrev pub line_data : NodeLine → Data
line_data line =
    object
    (member (codes "kind") (string line.kind)
    (member (codes "shape") (string line.shape) (member (codes "strategy") (string line.strategy) no_members)))

-- why a root can't be planned: before the first command, at the root
abbrev pub plan_error_data : PlanFault → Data
plan_error_data fault = error_object 0 (plan_fault_text fault) (codes "Alloc") []

abbrev pub with_released : List ℕ → Data → List ℕ → Data
with_released key d tokens = object (member key d (member (codes "released") (array (naturals tokens)) no_members))

-- an outcome over a table and a root of it
abbrev pub outcome_data : Table → (root : ℕ) → Outcome → Data
outcome_data table root (faulty fault) = fault_data fault
outcome_data table root (built v tokens) = with_released (codes "ok") (value_data v) tokens
outcome_data table root (refused refusal tokens) =
    with_released (codes "error") (error_data table root refusal) tokens
outcome_data table root (planned lines node) =
    object
    (member (codes "nodes") (array (items_of (map line_data lines)))
    (member (codes "root") (natural node) no_members))
outcome_data table root (unplanned fault) = with_released (codes "error") (plan_error_data fault) []

-- The report's bytes.

abbrev pub line_of : Data → List ℕ
line_of d = compact_text d ++ 10 ∷ []

-- of an outcome over a table and a root of it
abbrev pub report : Table → (root : ℕ) → Outcome → List ℕ
report table root outcome = line_of (outcome_data table root outcome)

-- of a document: its own table and root tell the names, and a fault has none
abbrev pub report_of_document : Subcommand → Result Document DocFault → List ℕ
report_of_document subcommand (Ok document) =
    report document.shapes document.root (outcome_of_document subcommand (Ok document))
report_of_document subcommand (Err fault) = line_of (fault_data fault)

-- of the bytes of an input under a subcommand
abbrev pub report_of : Subcommand → List ℕ → List ℕ
report_of subcommand bytes = report_of_document subcommand (document_of bytes)
