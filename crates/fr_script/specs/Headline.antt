-- What an answer to a document promises, told by the journal and by tokens alone.
use Rattle.std.specs.Prelude.{◌≡◌, ℕ, true, List, length, Option, Some, None, Result, Ok, Err}
use Rattle.fr_shape.specs.Fits.{fits}
use Rattle.fr_shape.specs.Plannable.{IsPlain}
use Rattle.fr_shape.specs.Tokens.{occurs}
use Rattle.fr_shape.specs.Val.{Val}
use Rattle.fr_doc.specs.declared.fault.DocFault.{DocFault}
use Rattle.fr_model.specs.Commands.{IsFieldScript}
use Rattle.fr_model.specs.Journal.{journal_run}
use Rattle.fr_model.specs.Scripts.{brought}
use Rattle.fr_script.specs.declared.answering.Answer.{Answer}
use Rattle.fr_script.specs.declared.subcommand.Subcommand.{Subcommand}
use Rattle.fr_script.specs.Documents.{Document, document_of}
use Rattle.fr_script.specs.Reports.{Outcome, faulty, built, refused, planned, unplanned, none_answered, outcome_of}
use Rattle.fr_script.specs.Tokens.{StandOnce}

-- what the journal of a document's script completes to
abbrev pub completed : Document → Option Val
completed document = journal_run document.shapes document.root document.script

-- A value comes, where a field script runs over a table that is plain for the root, where the journal completes to it. It
-- fits the root's shape, and each token of the script stands once in it or once among the released.
pub record IsBuiltRightly (document : Document) (v : Val) (released : List ℕ) : Type 0 where
  pub journal : IsPlain document.shapes document.root → IsFieldScript document.script → completed document ≡ Some v
  pub fits : fits document.shapes document.root v ≡ true
  pub tokens : StandOnce (brought document.script) (occurs v) released

-- A refusal comes, for such a script over such a table, where the journal doesn't complete, and each token of the script
-- stands once among the released.
pub record IsRefusedRightly (document : Document) (released : List ℕ) : Type 0 where
  pub journal : IsPlain document.shapes document.root → IsFieldScript document.script → completed document ≡ None
  pub tokens : StandOnce (brought document.script) none_answered released

-- a fault comes exactly where the document has it
abbrev pub KeepsPromise : Result Document DocFault → Outcome → Type 0
KeepsPromise (Ok document) (built v released) = IsBuiltRightly document v released
KeepsPromise (Ok document) (refused refusal released) = IsRefusedRightly document released
KeepsPromise (Ok document) (faulty other) = ⊥
KeepsPromise (Ok document) (planned lines root) = ⊥
KeepsPromise (Ok document) (unplanned fault) = ⊥
KeepsPromise (Err fault) (built v released) = ⊥
KeepsPromise (Err fault) (refused refusal released) = ⊥
KeepsPromise (Err fault) (planned lines root) = ⊥
KeepsPromise (Err fault) (unplanned other) = ⊥
KeepsPromise (Err fault) (faulty other) = fault ≡ other

-- what is promised of the outcome of some bytes: under `plan` there is nothing to keep
abbrev pub IsPromised : Subcommand → List ℕ → Type 0
IsPromised Subcommand.Build bytes = KeepsPromise (document_of bytes) (outcome_of Subcommand.Build bytes)
IsPromised Subcommand.Plan bytes = Unit {0}

-- a built value was made by as many calls as the script has commands
abbrev pub IsMadeByCalls : Result Document DocFault → Answer → Type 0
IsMadeByCalls (Ok document) (Answer.Built value released) = value.calls ≡ length document.script
IsMadeByCalls (Ok document) (Answer.Refused error released) = Unit {0}
IsMadeByCalls (Ok document) (Answer.Fault fault) = Unit {0}
IsMadeByCalls (Err fault) answer = Unit {0}
